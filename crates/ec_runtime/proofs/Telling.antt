-- What the calls on descriptors tell, from what these answer.
use Rattle.std.proofs.Common.{◌≡◌, ℕ, suc, ◌+◌, ◌<◌, Bool, List, [], ◌∷◌, ◌++◌, drop, get_or, length, map, Option, Some, None, Result, Ok, Err, refl, sym, subst, ap, ◌∙◌, append_assoc, arith, SFits, of_z, to_z, w64}
use Rattle.std.specs.Prelude.{ℤ}
use Rattle.std.specs.Fmt.{decimal}
use Rattle.ec_arguments.specs.Arguments.{Place, host}
use Rattle.ec_ctypes.specs.declared.embedded.emb.Item.{Item as Kind}
use Rattle.ec_ctypes.specs.declared.types.arith.Arith.TheVariants.{Long}
use Rattle.ec_descriptors.specs.Calls.{count_set, deallocated, item_found, item_of, item_put, item_there, item_set as item_answer, with_items, with_number}
use Rattle.ec_descriptors.specs.declared.stop.AreaStop.{AreaStop}
use Rattle.ec_memory_defs.specs.Memory.{Memory}
use Rattle.ec_meaning_defs.specs.evaluation.State.{Item, State}
use Rattle.ec_call_defs.specs.Areas.{Areas, area_named, item_at, item_text, number_as, resized, set_item, with_area, within, without_area}
use Rattle.ec_call_defs.specs.Descriptors.{asks_indicator, found_number, in_range, item_set, item_stored, items_set, items_stored, or_new, stored_in, values_read, with_descriptor}
use Rattle.ec_arguments.specs.Arguments.{ItemMember}
use Rattle.ec_call_defs.specs.Inputs.{given_read, member_read}
use Rattle.ec_call_defs.specs.Library.{call_done}
use Rattle.ec_call_defs.specs.Outcomes.{Text, Field, Outcome, gives, finished, over, next, present, begun_area, fresh_area}
use Rattle.ec_call_defs.specs.Running.{area_found, found_area}
use Rattle.ec_runtime.specs.declared.stop.Stop.{Stop}
use Rattle.ec_runtime.specs.declared.call.Describe.{Describe}
use Rattle.ec_runtime.specs.declared.call.Describe.TheVariants as describes
use Rattle.ec_runtime.specs.declared.host.Host.{Host}
use Rattle.ec_runtime.specs.declared.inputs.GivenText.{GivenText}
use Rattle.ec_runtime.specs.declared.inputs.Input.{Input}
use Rattle.ec_runtime.specs.Describing.{area_taken, by_answer, count_got, count_put, described, items_got, items_put, value_put}
use Rattle.ec_runtime.specs.Reading.{given_view, input_view}
use Rattle.ec_runtime.specs.Statements.{describe_view, got_view, set_view, target_view}
use Rattle.ec_runtime.specs.Says.{Changed, Quiet, Says, holding}
use Rattle.std.proofs.lemmas.Int.{to_z-of_z}
use Rattle.ec_runtime.proofs.Starting.{next_next}
use Rattle.ec_runtime.proofs.Targets.{drop_item, stopped_next}

-- a part whose answer is told
pub telling : (line : ℕ) (action : State → Outcome (Unit {0})) (answer : Result Areas AreaStop) (m1 m2 m' : Memory) (a b : Areas) (r : Result (Unit {0}) Stop) → m1 ≡ m2
    → ((s : State) → action (holding m2 a s) ≡ by_answer line answer (holding m2 a s)) → Changed r (by_answer line answer) m1 a m' b → Changed r action m2 a m' b
telling line action answer m1 m2 m' a b r e h q s =
    subst (λ o. Says r o (holding m' b s)) (sym (h s)) (subst (λ m. Says r (by_answer line answer (holding m a s)) (holding m' b s)) e (q s))

module _ (line : ℕ) (called : Text) (m : Memory) (a : Areas) where
  abbrev At : State → State
  At s = holding m a s

  -- ---- whole descriptors

  pub taken_is : (s : State) → area_taken line called (At s) ≡ by_answer line (deallocated called a) (At s)
  taken_is s = go (area_named called a)
    where
      go : (o : Option (List Item)) → next (found_area line o (At s)) (λ items t. gives (tt {0}) (record t { descriptors = without_area called t.descriptors })) ≡ by_answer line (with_items o (λ items. Ok (without_area called a))) (At s)
      go None = refl
      go (Some items) = refl

  -- ---- the count

  module _ (items : List Item) (there : Some items ≡ area_named called a) where
    pub count_is : (p : Place ℕ) (n : ℕ) (m' : Memory) (r : Result (Unit {0}) Stop) → n ≡ length items → Quiet r (stored_in line (host p) (Some (decimal n))) m m' → Changed r (count_got line called p) m a m' a
    count_is p n m' r e q s =
        subst (λ o. Says r (next (found_area line o (At s)) (λ own t. stored_in line (host p) (Some (decimal (length own))) t)) (holding m' a s)) there
        (subst (λ k. Says r (stored_in line (host p) (Some (decimal k)) (At s)) (holding m' a s)) e (q (record s { descriptors = a })))

    module _ (text : Field) (z : ℤ) (number : Some z ≡ number_as Long text) where
      pub count_put_is : (s : State) → count_put line called text (At s) ≡ by_answer line (count_set called z a) (At s)
      count_put_is s = (λ j. all (sym there j) (sym number j)) ∙ go (within 0 1000 z) ∙ (λ j. told (there j))
        where
          all : Option (List Item) → Option ℤ → Outcome (Unit {0})
          all o n = next (found_area line o (At s)) (λ own t. next (next (found_number line n t) (λ y u. in_range line (within 0 1000 y) u)) (λ k u. gives tt (with_descriptor called (resized k own) u)))

          told : Option (List Item) → Outcome (Unit {0})
          told o = by_answer line (with_items o (λ own. with_number (within 0 1000 z) (λ k. Ok (with_area called (resized k own) a)))) (At s)

          go : (o : Option ℕ) → next (in_range line o (At s)) (λ k u. gives (tt {0}) (with_descriptor called (resized k items) u)) ≡ by_answer line (with_number o (λ k. Ok (with_area called (resized k items) a))) (At s)
          go None = refl
          go (Some k) = refl

      -- ---- items that are got, and that are set

      module _ (wanted : List (ItemMember ℕ)) where
        abbrev pub got : Option (List Item) → Option ℤ → State → Outcome (Unit {0})
        got o n s = next (found_area line o s) (λ own t. next (next (found_number line n t) (λ y u. in_range line (within 1 (length own) y) u)) (λ k u. next (present (item_at k own) u) (λ it v. items_stored line (asks_indicator wanted) it wanted v)))

        got_so : (s : State) → items_got line called text wanted (At s) ≡ got (Some items) (Some z) (At s)
        got_so s = λ j. got (sym there j) (sym number j) (At s)

        abbrev pub ranged : Option ℕ → State → Outcome (Unit {0})
        ranged o s = next (in_range line o s) (λ k u. next (present (item_at k items) u) (λ it v. items_stored line (asks_indicator wanted) it wanted v))

        pub got_out : (m' : Memory) (stop : Stop) → within 1 (length items) z ≡ None → Changed {A = Unit {0}} (Err stop) (λ s. ranged None s) m a m' a → Changed {A = Unit {0}} (Err stop) (items_got line called text wanted) m a m' a
        got_out m' stop out q s = subst (λ o. Says {A = Unit {0}} (Err stop) o (holding m' a s)) (sym (got_so s ∙ (λ j. ranged (out j) (At s)))) (q s)

        pub got_item : (k : ℕ) (it : Item) (m' : Memory) (r : Result (Unit {0}) Stop) → within 1 (length items) z ≡ Some k → item_at k items ≡ Some it
            → Quiet r (items_stored line (asks_indicator wanted) it wanted) m m' → Changed r (items_got line called text wanted) m a m' a
        got_item k it m' r here at q s =
            subst (λ o. Says r o (holding m' a s))
            (sym (got_so s ∙ (λ j. ranged (here j) (At s)) ∙ (λ j. next (present (at j) (At s)) (λ own v. items_stored line (asks_indicator wanted) own wanted v))))
            (q (record s { descriptors = a }))

      module _ (values : List (Kind × Field)) where
        abbrev pub put : Option (List Item) → Option ℤ → State → Outcome (Unit {0})
        put o n s = next (found_area line o s) (λ own t. next (next (found_number line n t) (λ y u. in_range line (within 1 1000 y) u)) (λ k u. items_set line called k values u))

        put_so : (s : State) → items_put line called text values (At s) ≡ put (Some items) (Some z) (At s)
        put_so s = λ j. put (sym there j) (sym number j) (At s)

        abbrev pub ranged_put : Option ℕ → State → Outcome (Unit {0})
        ranged_put o s = next (in_range line o s) (λ k u. items_set line called k values u)

        pub put_at : (o : Option ℕ) (m' : Memory) (b : Areas) (r : Result (Unit {0}) Stop) → within 1 1000 z ≡ o → Changed r (λ s. ranged_put o s) m a m' b → Changed r (items_put line called text values) m a m' b
        put_at o m' b r here q s = subst (λ x. Says r x (holding m' b s)) (sym (put_so s ∙ (λ j. ranged_put (here j) (At s)))) (q s)

  -- ---- one item

  pub value_is : (index : ℤ) (n : ℕ) (value : Kind × Field) → within 1 1000 index ≡ Some n → (s : State) → value_put line called n value (At s) ≡ by_answer line (item_answer called index value.0 value.1 a) (At s)
  value_is index n value here s = go (area_named called a) ∙ (λ j. told (sym here j))
    where
      told : Option ℕ → Outcome (Unit {0})
      told o = by_answer line (with_items (area_named called a) (λ items. with_number o (λ k. item_put called k items a (set_item value.0 value.1 (or_new (item_at k items)))))) (At s)

      one : (items : List Item) (o : Option Item) → item_set line called n items o (At s) ≡ by_answer line (item_put called n items a o) (At s)
      one items None = refl
      one items (Some it) = refl

      go : (o : Option (List Item)) → next (found_area line o (At s)) (λ items t. item_set line called n items (set_item value.0 value.1 (or_new (item_at n items))) t)
          ≡ by_answer line (with_items o (λ items. item_put called n items a (set_item value.0 value.1 (or_new (item_at n items))))) (At s)
      go None = refl
      go (Some items) = one items (set_item value.0 value.1 (or_new (item_at n items)))

-- one item, and then the others
pub values_step : (line : ℕ) (called : Text) (n : ℕ) (value : Kind × Field) (values : List (Kind × Field)) (s : State)
    → items_set line called n (value ∷ values) s ≡ next (value_put line called n value s) (λ _ u. items_set line called n values u)
values_step line called n value values s =
    sym (next_next (area_found line called s) (λ items t. item_set line called n items (set_item value.0 value.1 (or_new (item_at n items))) t) (λ _ u. items_set line called n values u))

-- a part that leaves the descriptors leaves these
pub still : {A : Type 0} (r : Result A Stop) (action : State → Outcome A) (m m' : Memory) (a : Areas) → Quiet r action m m' → Changed r action m a m' a
still r action m m' a q s = q (record s { descriptors = a })

-- ---- parts that follow one another

module _ {A : Type 0} (first : State → Outcome A) (go : A → State → Outcome (Unit {0})) (m : Memory) (a : Areas) where
  pub ended : (stop : Stop) → Quiet {A = A} (Err stop) first m m → Changed {A = Unit {0}} (Err stop) (λ s. next (first s) go) m a m a
  ended stop q s = stopped_next stop (first (holding m a s)) (holding m a s) go (q (record s { descriptors = a }))

  pub behind : (x : A) (m' : Memory) (b : Areas) (r : Result (Unit {0}) Stop) → Quiet (Ok x) first m m → Changed r (go x) m a m' b → Changed r (λ s. next (first s) go) m a m' b
  behind x m' b r q p s = subst (λ o. Says r o (holding m' b s)) (sym (λ j. next (q (record s { descriptors = a }) j) go)) (p s)

pub begun_so : (go : State → Outcome (Unit {0})) (m m1 m' : Memory) (a b : Areas) (r : Result (Unit {0}) Stop) → m1 ≡ fresh_area m → Changed r go m1 a m' b → Changed r (λ s. next (begun_area s) (λ _ t. go t)) m a m' b
begun_so go m m1 m' a b r e p s = subst (λ fresh. Says r (go (holding fresh a s)) (holding m' b s)) e (p s)

-- a part of a whole stops
pub stops_at : (whole : Outcome (Unit {0})) (first : Outcome (Unit {0})) (go : Unit {0} → State → Outcome (Unit {0})) (t : State) (stop : Stop) → whole ≡ next first go
    → Says {A = Unit {0}} (Err stop) first t → Says {A = Unit {0}} (Err stop) whole t
stops_at whole first go t stop e h = subst (λ o. Says {A = Unit {0}} (Err stop) o t) (sym e) (stopped_next stop first t go h)

-- ---- one of several

next_place : (i : ℕ) → suc i ≡ i + 1
next_place i = omega arith

module _ (line : ℕ) (asked : Bool) (it : Item) (wanted : List (Kind × Host)) (i : ℕ) (one : Kind × Host) (lt : i < length wanted) (at : one ≡ get_or wanted i one) where
  abbrev pub one_stored : State → Outcome (Unit {0})
  one_stored s = item_stored line asked (target_view one.1) (item_text one.0 it) s

  abbrev pub others_stored : Unit {0} → State → Outcome (Unit {0})
  others_stored x t = items_stored line asked it (map got_view (drop (suc i) wanted)) t

  pub stored_step : (s : State) → items_stored line asked it (map got_view (drop i wanted)) s ≡ next (one_stored s) others_stored
  stored_step s = λ j. items_stored line asked it (map got_view (drop_item wanted i one lt at j)) s

module _ (line : ℕ) (called : Text) (n : ℕ) (values : List (Kind × Field)) (i : ℕ) (one : Kind × Field) (lt : i < length values) (at : one ≡ get_or values i one) where
  abbrev pub others_set : Unit {0} → State → Outcome (Unit {0})
  others_set x t = items_set line called n (drop (suc i) values) t

  pub set_step : (s : State) → items_set line called n (drop i values) s ≡ next (value_put line called n one s) others_set
  set_step s = (λ j. items_set line called n (drop_item values i one lt at j) s) ∙ values_step line called n one (drop (suc i) values) s

  pub set_on : (whole : Outcome (Unit {0})) (s t : State) → whole ≡ items_set line called n (drop i values) s → value_put line called n one s ≡ gives tt t → whole ≡ items_set line called n (drop (i + 1) values) t
  set_on whole s t w says = w ∙ set_step s ∙ (λ j. next (says j) others_set) ∙ (λ j. items_set line called n (drop (next_place i j) values) t)

module _ (given : List (Kind × Input)) (i : ℕ) (one : Kind × Input) (lt : i < length given) (at : one ≡ get_or given i one) (values : List (Kind × Field)) where
  abbrev Behind : List (Kind × Field) → State → Outcome (List (Kind × Field))
  Behind rest u = gives (values ++ rest) u

  abbrev Rest : State → Outcome (List (Kind × Field))
  Rest t = values_read (map set_view (drop (suc i) given)) t

  -- one value, and then the others
  values_from : (s : State) → next (values_read (map set_view (drop i given)) s) Behind
      ≡ next (next (member_read (input_view one.1) s) (λ text t. next (Rest t) (λ rest u. gives ((one.0, text) ∷ rest) u))) Behind
  values_from s = λ j. next (values_read (map set_view (drop_item given i one lt at j)) s) Behind

  pub values_stop : (whole : Outcome (List (Kind × Field))) (s : State) (stop : Stop) → whole ≡ next (values_read (map set_view (drop i given)) s) Behind
      → Says {A = Field} (Err stop) (member_read (input_view one.1) s) s → Says {A = List (Kind × Field)} (Err stop) whole s
  values_stop whole s stop w says =
      subst (λ o. Says {A = List (Kind × Field)} (Err stop) o s) (sym (w ∙ values_from s))
      (stopped_next stop (next (member_read (input_view one.1) s) (λ text t. next (Rest t) (λ rest u. gives ((one.0, text) ∷ rest) u))) s Behind
      (stopped_next stop (member_read (input_view one.1) s) s (λ text t. next (Rest t) (λ rest u. gives ((one.0, text) ∷ rest) u)) says))

  pub values_on : (whole : Outcome (List (Kind × Field))) (s : State) (text : Field) (more : List (Kind × Field)) → whole ≡ next (values_read (map set_view (drop i given)) s) Behind
      → member_read (input_view one.1) s ≡ gives text s → more ≡ values ++ (one.0, text) ∷ []
      → whole ≡ next (values_read (map set_view (drop (i + 1) given)) s) (λ rest t. gives (more ++ rest) t)
  values_on whole s text more w says e =
      w ∙ values_from s ∙ (λ j. next (next (says j) (λ x t. next (Rest t) (λ rest u. gives ((one.0, x) ∷ rest) u))) Behind)
      ∙ joined (Rest s) ∙ (λ j. next (values_read (map set_view (drop (next_place i j) given)) s) (λ rest t. gives (sym e j ++ rest) t))
    where
      joined : (o : Outcome (List (Kind × Field))) → next (next o (λ rest u. gives ((one.0, text) ∷ rest) u)) Behind ≡ next o (λ rest t. gives ((values ++ (one.0, text) ∷ []) ++ rest) t)
      joined (gives rest u) = λ j. gives (sym (append_assoc values ((one.0, text) ∷ []) rest) j) u
      joined (finished u) = refl
      joined (over halt u) = refl

-- ---- the item that was found

module _ (line : ℕ) (called : Text) (m : Memory) (a : Areas) (items : List Item) (there : Some items ≡ area_named called a) (text : Field) (z : ℤ) (number : Some z ≡ number_as Long text) (wanted : List (ItemMember ℕ)) where
  pub got_found : (it : Item) (m' : Memory) (r : Result (Unit {0}) Stop) → Ok it ≡ item_found called z a → Quiet r (items_stored line (asks_indicator wanted) it wanted) m m' → Changed r (items_got line called text wanted) m a m' a
  got_found it m' r e q = ranged_so (within 1 (length items) z) refl (e ∙ (λ j. with_items (sym there j) (λ own. item_of z own)))
    where
      at_number : (k : ℕ) → within 1 (length items) z ≡ Some k → (o : Option Item) → item_at k items ≡ o → Ok it ≡ item_there o → Changed r (items_got line called text wanted) m a m' a
      at_number k here None at f = cc
      at_number k here (Some x) at f = let same : x ≡ it = cc in got_item line called m a items there text z number wanted k it m' r here (at ∙ ap Some same) q

      ranged_so : (o : Option ℕ) → within 1 (length items) z ≡ o → Ok it ≡ with_number o (λ k. item_there (item_at k items)) → Changed r (items_got line called text wanted) m a m' a
      ranged_so None here f = cc
      ranged_so (Some k) here f = at_number k here (item_at k items) refl f

-- ---- a call is what follows the name of its descriptor

pub described_is : (line : ℕ) (name : GivenText) (what : Describe) (s : State) → call_done line (describe_view (given_view name) what) s ≡ next (given_read (given_view name) s) (λ called t. described line what called t)
described_is line name describes.Allocate s = refl
described_is line name describes.Deallocate s = refl
described_is line name (describes.GetCount h) s = refl
described_is line name (describes.SetCount value) s = refl
described_is line name (describes.GetItems index wanted) s = refl
described_is line name (describes.SetItems index given) s = refl

-- a number as it is passed on
pub wide : (z : ℤ) (n : ℕ) → SFits w64 z → within 1 1000 z ≡ Some n → within 1 1000 (to_z w64 (of_z w64 z)) ≡ Some n
wide z n fits here = ap (λ y. within 1 1000 y) (to_z-of_z w64 z fits) ∙ here
