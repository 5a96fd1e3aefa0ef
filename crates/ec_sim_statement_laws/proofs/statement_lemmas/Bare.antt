-- A statement without its places, and what is said of all ways to go on with its places: they are those of the same statement.
use Rattle.std.proofs.Common.{◌≡◌, ℕ, Bool, true, List, [], ◌∷◌, ◌++◌, map, Option, Some, None, refl}
use Rattle.std.specs.Prelude.{nat_eq, ◌&&◌, option_map}
use Rattle.ec_arguments.specs.Arguments.{TextArg, absent, word, held, name_of}
use Rattle.ec_arguments.specs.Rules.{element_size, fits_element, fits_indicators, fits_place, is_single, is_value, are_inputs, are_hosts, are_outputs, are_targets, is_settable, are_settings, is_optional_text, is_given_text, is_statement}
use Rattle.ec_ctypes.specs.declared.embedded.emb.Item.{Item}
use Rattle.ec_ctypes.specs.trees.Types.{StructData}
use Rattle.ec_host_defs.specs.Leaves.{LeafData}
use Rattle.ec_meaning_defs.specs.resolved.Resolved.{Exp}
use Rattle.ec_meaning_defs.specs.evaluation.State.{State}
use Rattle.ec_meaning_defs.specs.evaluation.Results.{Res}
use Rattle.ec_meaning_defs.specs.evaluation.Evaluate.{World, Context, Step}
use Rattle.ec_direct_defs.specs.Leaves.{Leaf}
use Rattle.ec_direct_defs.specs.Statements as direct
use Rattle.ec_direct_defs.specs.Statements.{Input, stored, Sent, Outputs, nowhere, into_leaves, into_area, Asked, sends, executes, reads_text, opens, Statement, runs, connects, disconnects, sets_connection, sets_autocommit, controls, prepares, deallocates, allocates, frees, gets_count, sets_count, gets_items, sets_items}
use Rattle.ec_direct_defs.specs.Places.{address_of, text_placed, indicator_placed, leaf_placed, input_placed, each_placed, area_placed, sent_placed, outputs_placed, asked_placed, item_leaf_placed, item_input_placed, placed}
use Rattle.ec_sim_statement_laws.specs.statement.Calls.{indicator_of, place_of, host_of, input_of, area_of, ins_of, outs_of, asked_of, got_of, given_of, call_of, any_pointer, keeps_rules, HasLeaves, HasTargets}

-- ---- a statement without its places

module _ {A : Type 0} where
  abbrev pub bare_text : TextArg A → TextArg (Unit {0})
  bare_text absent = absent
  bare_text (word bytes) = word bytes
  bare_text (held a) = held tt

  abbrev pub bare_indicator : Option (A × LeafData) → Option (Unit {0} × LeafData)
  bare_indicator None = None
  bare_indicator (Some i) = Some (tt, i.1)

  abbrev pub bare_leaf : Leaf A → Leaf (Unit {0})
  bare_leaf l = record { place = tt; leaf = l.leaf; indicator = bare_indicator l.indicator }

  abbrev pub bare_input : Input A → Input (Unit {0})
  bare_input (stored l) = stored (bare_leaf l)
  bare_input (direct.constant bytes) = direct.constant bytes

  abbrev pub bare_area : Option (TextArg A) → Option (TextArg (Unit {0}))
  bare_area None = None
  bare_area (Some a) = Some (bare_text a)

  abbrev pub bare_sent : Sent A → Sent (Unit {0})
  bare_sent x = record { values = map bare_input x.values; area = bare_area x.area }

  abbrev pub bare_outputs : Outputs A → Outputs (Unit {0})
  bare_outputs nowhere = nowhere
  bare_outputs (into_leaves ls) = into_leaves (map bare_leaf ls)
  bare_outputs (into_area a) = into_area (bare_text a)

  abbrev pub bare_asked : Asked A → Asked (Unit {0})
  bare_asked (sends bytes) = sends bytes
  bare_asked (executes name) = executes name
  bare_asked (reads_text a) = reads_text (bare_text a)
  bare_asked (opens head name) = opens head name

  abbrev pub bare_got : Item × Leaf A → Item × Leaf (Unit {0})
  bare_got i = (i.0, bare_leaf i.1)

  abbrev pub bare_given : Item × Input A → Item × Input (Unit {0})
  bare_given i = (i.0, bare_input i.1)

  abbrev pub bare : Statement A → Statement (Unit {0})
  bare (runs at asked ins outs) = runs (bare_text at) (bare_asked asked) (bare_sent ins) (bare_outputs outs)
  bare (connects target user password name) = connects (bare_text target) (bare_text user) (bare_text password) (bare_text name)
  bare (disconnects name) = disconnects (bare_text name)
  bare (sets_connection name) = sets_connection (bare_text name)
  bare (sets_autocommit on at) = sets_autocommit on (bare_text at)
  bare (controls at bytes) = controls (bare_text at) bytes
  bare (prepares at name text) = prepares (bare_text at) name (bare_text text)
  bare (deallocates at name) = deallocates (bare_text at) name
  bare (allocates name) = allocates (bare_text name)
  bare (frees name) = frees (bare_text name)
  bare (gets_count name l) = gets_count (bare_text name) (bare_leaf l)
  bare (sets_count name x) = sets_count (bare_text name) (bare_input x)
  bare (gets_items name index items) = gets_items (bare_text name) (bare_input index) (map bare_got items)
  bare (sets_items name index items) = sets_items (bare_text name) (bare_input index) (map bare_given items)

  -- ---- it keeps the rules without its places where it keeps them with these

  pub optional_bare : (a : TextArg A) → is_optional_text (λ x. true) a ≡ is_optional_text (λ x. true) (bare_text a)
  optional_bare absent = refl
  optional_bare (word bytes) = refl
  optional_bare (held a) = refl

  pub given_bare : (a : TextArg A) → is_given_text (λ x. true) a ≡ is_given_text (λ x. true) (bare_text a)
  given_bare absent = refl
  given_bare (word bytes) = refl
  given_bare (held a) = refl

  pub targets_bare : (x : Statement A) → HasTargets x → HasTargets (bare x)
  targets_bare (runs at asked ins nowhere) h = tt
  targets_bare (runs at asked ins (into_leaves [])) h = h
  targets_bare (runs at asked ins (into_leaves (l ∷ ls))) h = tt
  targets_bare (runs at asked ins (into_area a)) h = tt
  targets_bare (connects target user password name) h = tt
  targets_bare (disconnects name) h = tt
  targets_bare (sets_connection name) h = tt
  targets_bare (sets_autocommit on at) h = tt
  targets_bare (controls at bytes) h = tt
  targets_bare (prepares at name text) h = tt
  targets_bare (deallocates at name) h = tt
  targets_bare (allocates name) h = tt
  targets_bare (frees name) h = tt
  targets_bare (gets_count name l) h = tt
  targets_bare (sets_count name x) h = tt
  targets_bare (gets_items name index items) h = tt
  targets_bare (sets_items name index items) h = tt

  pub targets_back : (x : Statement A) → HasTargets (bare x) → HasTargets x
  targets_back (runs at asked ins nowhere) h = tt
  targets_back (runs at asked ins (into_leaves [])) h = h
  targets_back (runs at asked ins (into_leaves (l ∷ ls))) h = tt
  targets_back (runs at asked ins (into_area a)) h = tt
  targets_back (connects target user password name) h = tt
  targets_back (disconnects name) h = tt
  targets_back (sets_connection name) h = tt
  targets_back (sets_autocommit on at) h = tt
  targets_back (controls at bytes) h = tt
  targets_back (prepares at name text) h = tt
  targets_back (deallocates at name) h = tt
  targets_back (allocates name) h = tt
  targets_back (frees name) h = tt
  targets_back (gets_count name l) h = tt
  targets_back (sets_count name x) h = tt
  targets_back (gets_items name index items) h = tt
  targets_back (sets_items name index items) h = tt

  module _ (structs : List StructData) where
    indicators_bare : (i : Option (A × LeafData)) (count : ℕ)
        → fits_indicators (option_map (indicator_of structs) i) count ≡ fits_indicators (option_map (indicator_of structs) (bare_indicator i)) count
    indicators_bare None count = refl
    indicators_bare (Some i) count = refl

    place_bare : (l : Leaf A) → fits_place (place_of structs l) ≡ fits_place (place_of structs (bare_leaf l))
    place_bare l = λ j.
        fits_element (element_size (place_of structs l).sym (place_of structs l).size) (place_of structs l).size l.leaf.count (place_of structs l).step
        && indicators_bare l.indicator l.leaf.count j

    single_bare : (l : Leaf A) → is_single (place_of structs l) ≡ is_single (place_of structs (bare_leaf l))
    single_bare l = λ j. nat_eq l.leaf.count 1 && place_bare l j

    value_bare : (x : Input A) → is_value (input_of structs x) ≡ is_value (input_of structs (bare_input x))
    value_bare (stored l) = single_bare l
    value_bare (direct.constant bytes) = refl

    inputs_bare : (xs : List (Input A)) (a : Option (TextArg A))
        → are_inputs (λ x. true) (map (input_of structs) xs ++ area_of structs a)
        ≡ are_inputs (λ x. true) (map (input_of structs) (map bare_input xs) ++ area_of structs (bare_area a))
    inputs_bare [] None = refl
    inputs_bare [] (Some a) = given_bare a
    inputs_bare (stored l ∷ xs) a = λ j. single_bare l j && inputs_bare xs a j
    inputs_bare (direct.constant bytes ∷ xs) a = inputs_bare xs a

    hosts_bare : (ls : List (Leaf A)) → are_hosts (map (host_of structs) ls) ≡ are_hosts (map (host_of structs) (map bare_leaf ls))
    hosts_bare [] = refl
    hosts_bare (l ∷ ls) = λ j. place_bare l j && hosts_bare ls j

    outputs_bare : (x : Outputs A) → are_outputs (λ x. true) (outs_of structs x) ≡ are_outputs (λ x. true) (outs_of structs (bare_outputs x))
    outputs_bare nowhere = refl
    outputs_bare (into_leaves []) = refl
    outputs_bare (into_leaves (l ∷ ls)) = hosts_bare (l ∷ ls)
    outputs_bare (into_area a) = given_bare a

    asked_bare : (x : Asked A) → is_statement (λ x. true) (asked_of structs x) ≡ is_statement (λ x. true) (asked_of structs (bare_asked x))
    asked_bare (sends bytes) = refl
    asked_bare (executes name) = refl
    asked_bare (reads_text a) = given_bare a
    asked_bare (opens head name) = refl

    got_bare : (is : List (Item × Leaf A)) → are_targets (map (got_of structs) is) ≡ are_targets (map (got_of structs) (map bare_got is))
    got_bare [] = refl
    got_bare (i ∷ is) = λ j. single_bare i.1 j && got_bare is j

    set_bare : (is : List (Item × Input A)) → are_settings (map (given_of structs) is) ≡ are_settings (map (given_of structs) (map bare_given is))
    set_bare [] = refl
    set_bare (i ∷ is) = λ j. is_settable i.0 && value_bare i.1 j && set_bare is j

    pub rules_bare : (x : Statement A) → keeps_rules structs x ≡ keeps_rules structs (bare x)
    rules_bare (runs at asked ins outs) = λ j.
        optional_bare at j && asked_bare asked j && inputs_bare ins.values ins.area j && outputs_bare outs j
    rules_bare (connects target user password name) = λ j.
        given_bare target j && optional_bare user j && optional_bare password j && optional_bare name j
    rules_bare (disconnects name) = given_bare name
    rules_bare (sets_connection name) = given_bare name
    rules_bare (sets_autocommit on at) = optional_bare at
    rules_bare (controls at bytes) = optional_bare at
    rules_bare (prepares at name text) = λ j. optional_bare at j && given_bare text j
    rules_bare (deallocates at name) = optional_bare at
    rules_bare (allocates name) = given_bare name
    rules_bare (frees name) = given_bare name
    rules_bare (gets_count name l) = λ j. given_bare name j && single_bare l j
    rules_bare (sets_count name x) = λ j. given_bare name j && value_bare x j
    rules_bare (gets_items name index items) = λ j. given_bare name j && value_bare index j && got_bare items j
    rules_bare (sets_items name index items) = λ j. given_bare name j && value_bare index j && set_bare items j

    pub name_bare : (x : Statement A) → name_of (call_of structs x) ≡ name_of (call_of structs (bare x))
    name_bare (runs at asked ins outs) = refl
    name_bare (connects target user password name) = refl
    name_bare (disconnects name) = refl
    name_bare (sets_connection name) = refl
    name_bare (sets_autocommit on at) = refl
    name_bare (controls at bytes) = refl
    name_bare (prepares at name text) = refl
    name_bare (deallocates at name) = refl
    name_bare (allocates name) = refl
    name_bare (frees name) = refl
    name_bare (gets_count name l) = refl
    name_bare (sets_count name x) = refl
    name_bare (gets_items name index items) = refl
    name_bare (sets_items name index items) = refl

-- ---- all ways to go on

-- What holds of two ways to go on behind each address holds of them behind all places
module _ (step step' : Step) (w w' : World) (c : Context) (R : State → Res → Res → Type 0)
    (address : (e : Exp) (s : State) (f g : ℕ → State → Res) → ((p : ℕ) (t : State) → R t (f p t) (g p t)) → R s (address_of step w c e s f) (address_of step' w' c e s g)) where
  text_by : (a : TextArg Exp) (s : State) (f g : TextArg ℕ → State → Res)
      → ((b : TextArg ℕ) → bare_text b ≡ bare_text a → (t : State) → R t (f b t) (g b t))
      → R s (text_placed step w c a s f) (text_placed step' w' c a s g)
  text_by absent s f g h = h absent refl s
  text_by (word bytes) s f g h = h (word bytes) refl s
  text_by (held e) s f g h = address e s (λ p t. f (held p) t) (λ p t. g (held p) t) (λ p t. h (held p) refl t)

  indicator_by : (i : Option (Exp × LeafData)) (s : State) (f g : Option (ℕ × LeafData) → State → Res)
      → ((k : Option (ℕ × LeafData)) → bare_indicator k ≡ bare_indicator i → (t : State) → R t (f k t) (g k t))
      → R s (indicator_placed step w c i s f) (indicator_placed step' w' c i s g)
  indicator_by None s f g h = h None refl s
  indicator_by (Some i) s f g h = address i.0 s (λ p t. f (Some (p, i.1)) t) (λ p t. g (Some (p, i.1)) t) (λ p t. h (Some (p, i.1)) refl t)

  leaf_by : (l : Leaf Exp) (s : State) (f g : Leaf ℕ → State → Res)
      → ((m : Leaf ℕ) → bare_leaf m ≡ bare_leaf l → (t : State) → R t (f m t) (g m t))
      → R s (leaf_placed step w c l s f) (leaf_placed step' w' c l s g)
  leaf_by l s f g h =
      address l.place s
      (λ p t. indicator_placed step w c l.indicator t (λ i u. f (record { place = p; leaf = l.leaf; indicator = i }) u))
      (λ p t. indicator_placed step' w' c l.indicator t (λ i u. g (record { place = p; leaf = l.leaf; indicator = i }) u))
      (λ p t. indicator_by l.indicator t
      (λ i u. f (record { place = p; leaf = l.leaf; indicator = i }) u)
      (λ i u. g (record { place = p; leaf = l.leaf; indicator = i }) u)
      (λ i e u. h (record { place = p; leaf = l.leaf; indicator = i }) (λ k. record { place = tt; leaf = l.leaf; indicator = e k }) u))

  input_by : (x : Input Exp) (s : State) (f g : Input ℕ → State → Res)
      → ((y : Input ℕ) → bare_input y ≡ bare_input x → (t : State) → R t (f y t) (g y t))
      → R s (input_placed step w c x s f) (input_placed step' w' c x s g)
  input_by (stored l) s f g h = leaf_by l s (λ m t. f (stored m) t) (λ m t. g (stored m) t) (λ m e t. h (stored m) (λ k. stored (e k)) t)
  input_by (direct.constant bytes) s f g h = h (direct.constant bytes) refl s

  each_by : {A B C : Type 0} (place place' : A → State → (B → State → Res) → Res) (bare_a : A → C) (bare_b : B → C)
      → ((a : A) (s : State) (f g : B → State → Res) → ((b : B) → bare_b b ≡ bare_a a → (t : State) → R t (f b t) (g b t)) → R s (place a s f) (place' a s g))
      → (as' : List A) (s : State) (f g : List B → State → Res)
      → ((bs : List B) → map bare_b bs ≡ map bare_a as' → (t : State) → R t (f bs t) (g bs t))
      → R s (each_placed step w c place as' s f) (each_placed step' w' c place' as' s g)
  each_by place place' bare_a bare_b one [] s f g h = h [] refl s
  each_by place place' bare_a bare_b one (a ∷ as') s f g h =
      one a s (λ b t. each_placed step w c place as' t (λ bs u. f (b ∷ bs) u)) (λ b t. each_placed step' w' c place' as' t (λ bs u. g (b ∷ bs) u))
      (λ b e t. each_by place place' bare_a bare_b one as' t (λ bs u. f (b ∷ bs) u) (λ bs u. g (b ∷ bs) u) (λ bs es u. h (b ∷ bs) (λ k. e k ∷ es k) u))

  area_by : (a : Option (TextArg Exp)) (s : State) (f g : Option (TextArg ℕ) → State → Res)
      → ((b : Option (TextArg ℕ)) → bare_area b ≡ bare_area a → (t : State) → R t (f b t) (g b t))
      → R s (area_placed step w c a s f) (area_placed step' w' c a s g)
  area_by None s f g h = h None refl s
  area_by (Some a) s f g h = text_by a s (λ b t. f (Some b) t) (λ b t. g (Some b) t) (λ b e t. h (Some b) (λ k. Some (e k)) t)

  sent_by : (x : Sent Exp) (s : State) (f g : Sent ℕ → State → Res)
      → ((y : Sent ℕ) → bare_sent y ≡ bare_sent x → (t : State) → R t (f y t) (g y t))
      → R s (sent_placed step w c x s f) (sent_placed step' w' c x s g)
  sent_by x s f g h =
      each_by (input_placed step w c) (input_placed step' w' c) bare_input bare_input input_by x.values s
      (λ vs t. area_placed step w c x.area t (λ a u. f (record { values = vs; area = a }) u))
      (λ vs t. area_placed step' w' c x.area t (λ a u. g (record { values = vs; area = a }) u))
      (λ vs es t. area_by x.area t (λ a u. f (record { values = vs; area = a }) u) (λ a u. g (record { values = vs; area = a }) u)
      (λ a e u. h (record { values = vs; area = a }) (λ k. record { values = es k; area = e k }) u))

  outputs_by : (x : Outputs Exp) (s : State) (f g : Outputs ℕ → State → Res)
      → ((y : Outputs ℕ) → bare_outputs y ≡ bare_outputs x → (t : State) → R t (f y t) (g y t))
      → R s (outputs_placed step w c x s f) (outputs_placed step' w' c x s g)
  outputs_by nowhere s f g h = h nowhere refl s
  outputs_by (into_leaves ls) s f g h =
      each_by (leaf_placed step w c) (leaf_placed step' w' c) bare_leaf bare_leaf leaf_by ls s (λ ms t. f (into_leaves ms) t) (λ ms t. g (into_leaves ms) t)
      (λ ms es t. h (into_leaves ms) (λ k. into_leaves (es k)) t)
  outputs_by (into_area a) s f g h = text_by a s (λ b t. f (into_area b) t) (λ b t. g (into_area b) t) (λ b e t. h (into_area b) (λ k. into_area (e k)) t)

  asked_by : (x : Asked Exp) (s : State) (f g : Asked ℕ → State → Res)
      → ((y : Asked ℕ) → bare_asked y ≡ bare_asked x → (t : State) → R t (f y t) (g y t))
      → R s (asked_placed step w c x s f) (asked_placed step' w' c x s g)
  asked_by (sends bytes) s f g h = h (sends bytes) refl s
  asked_by (executes name) s f g h = h (executes name) refl s
  asked_by (reads_text a) s f g h = text_by a s (λ b t. f (reads_text b) t) (λ b t. g (reads_text b) t) (λ b e t. h (reads_text b) (λ k. reads_text (e k)) t)
  asked_by (opens head name) s f g h = h (opens head name) refl s

  got_by : (i : Item × Leaf Exp) (s : State) (f g : Item × Leaf ℕ → State → Res)
      → ((k : Item × Leaf ℕ) → bare_got k ≡ bare_got i → (t : State) → R t (f k t) (g k t))
      → R s (item_leaf_placed step w c i s f) (item_leaf_placed step' w' c i s g)
  got_by i s f g h = leaf_by i.1 s (λ l t. f (i.0, l) t) (λ l t. g (i.0, l) t) (λ l e t. h (i.0, l) (λ k. (i.0, e k)) t)

  set_by : (i : Item × Input Exp) (s : State) (f g : Item × Input ℕ → State → Res)
      → ((k : Item × Input ℕ) → bare_given k ≡ bare_given i → (t : State) → R t (f k t) (g k t))
      → R s (item_input_placed step w c i s f) (item_input_placed step' w' c i s g)
  set_by i s f g h = input_by i.1 s (λ x t. f (i.0, x) t) (λ x t. g (i.0, x) t) (λ x e t. h (i.0, x) (λ k. (i.0, e k)) t)

  pub placed_by : (x : Statement Exp) (s : State) (f g : Statement ℕ → State → Res)
      → ((y : Statement ℕ) → bare y ≡ bare x → (t : State) → R t (f y t) (g y t))
      → R s (placed step w c x s f) (placed step' w' c x s g)
  placed_by (runs at asked ins outs) s f g h =
      text_by at s _ _ (λ a ea t.
      asked_by asked t _ _ (λ q eq u.
      sent_by ins u _ _ (λ x ex r.
      outputs_by outs r _ _ (λ y ey v.
      h (runs a q x y) (λ k. runs (ea k) (eq k) (ex k) (ey k)) v))))
  placed_by (connects target user password name) s f g h =
      text_by target s _ _ (λ a ea t.
      text_by user t _ _ (λ b eb u.
      text_by password u _ _ (λ d ed r.
      text_by name r _ _ (λ n en v.
      h (connects a b d n) (λ k. connects (ea k) (eb k) (ed k) (en k)) v))))
  placed_by (disconnects name) s f g h = text_by name s _ _ (λ n e t. h (disconnects n) (λ k. disconnects (e k)) t)
  placed_by (sets_connection name) s f g h = text_by name s _ _ (λ n e t. h (sets_connection n) (λ k. sets_connection (e k)) t)
  placed_by (sets_autocommit on at) s f g h = text_by at s _ _ (λ a e t. h (sets_autocommit on a) (λ k. sets_autocommit on (e k)) t)
  placed_by (controls at bytes) s f g h = text_by at s _ _ (λ a e t. h (controls a bytes) (λ k. controls (e k) bytes) t)
  placed_by (prepares at name text) s f g h =
      text_by at s _ _ (λ a ea t.
      text_by text t _ _ (λ b eb u.
      h (prepares a name b) (λ k. prepares (ea k) name (eb k)) u))
  placed_by (deallocates at name) s f g h = text_by at s _ _ (λ a e t. h (deallocates a name) (λ k. deallocates (e k) name) t)
  placed_by (allocates name) s f g h = text_by name s _ _ (λ n e t. h (allocates n) (λ k. allocates (e k)) t)
  placed_by (frees name) s f g h = text_by name s _ _ (λ n e t. h (frees n) (λ k. frees (e k)) t)
  placed_by (gets_count name l) s f g h =
      text_by name s _ _ (λ n en t.
      leaf_by l t _ _ (λ m em u.
      h (gets_count n m) (λ k. gets_count (en k) (em k)) u))
  placed_by (sets_count name x) s f g h =
      text_by name s _ _ (λ n en t.
      input_by x t _ _ (λ y ey u.
      h (sets_count n y) (λ k. sets_count (en k) (ey k)) u))
  placed_by (gets_items name index items) s f g h =
      text_by name s _ _ (λ n en t.
      input_by index t _ _ (λ i ei u.
      each_by (item_leaf_placed step w c) (item_leaf_placed step' w' c) bare_got bare_got got_by items u _ _ (λ is es r.
      h (gets_items n i is) (λ k. gets_items (en k) (ei k) (es k)) r)))
  placed_by (sets_items name index items) s f g h =
      text_by name s _ _ (λ n en t.
      input_by index t _ _ (λ i ei u.
      each_by (item_input_placed step w c) (item_input_placed step' w' c) bare_given bare_given set_by items u _ _ (λ is es r.
      h (sets_items n i is) (λ k. sets_items (en k) (ei k) (es k)) r)))
