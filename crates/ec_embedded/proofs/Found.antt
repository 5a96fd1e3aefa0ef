-- What the plain reading finds is what the rules say, and nothing else is.
use Rattle.std.proofs.Common.{◌≡◌, ℕ, suc, ◌-◌, Bool, true, false, List, [], ◌∷◌, ◌++◌, drop, length, refl, ap, sym, ◌∙◌, subst, codes, Option, Some, None, arith, length-append}
use Rattle.std.proofs.lemmas.Bool.{false≢true}
use Rattle.std.proofs.Math.Seq.{drop-append_seam}
use Rattle.ec_ctypes.specs.trees.Embedded.{EmbKindData}
use Rattle.ec_embedded.specs.declared.shapes.failure.Failure.TheVariants as failure
use Rattle.ec_embedded.specs.shapes.Beginnings.{Beginning, Begins, beginning}
use Rattle.ec_embedded.specs.shapes.ReadShapes.{done, stopped, stuck, and_then, is_deterministic, read, last, dead_at, over_at, judged}
use Rattle.ec_embedded.specs.shapes.Shapes.{Judged, tree, Judges}
use Rattle.ec_embedded.proofs.shapes_lemmas.Beginnings.{begins, once}
use Rattle.ec_embedded.proofs.shapes_lemmas.Exact.{exact, last_is, over_last}
use Rattle.ec_embedded.proofs.shapes_lemmas.Firsts.{yes_second}
use Rattle.ec_embedded.proofs.shapes_lemmas.Single.{single}
use Rattle.ec_embedded.proofs.shapes_lemmas.Stopped.{Explains, explain}
use Rattle.ec_language.specs.Letters.{Text}
use Rattle.ec_language.specs.SqlTokens.{SqlToken}
use Rattle.ec_embedded.specs.Findings.{Found, stops, passes, found_in}
use Rattle.ec_embedded.specs.Answers.{found_by, Beginnings, found_without, IsCursor, headless, headed, form_of, IsKind, empty, formed, without_at, cursor, cursor_behind_at, transaction, server}
use Rattle.ec_embedded.specs.Directives.{cursor_form, cursor_name}
use Rattle.ec_embedded.specs.LeftOut.{begin_with, is_first, first_is_among}
use Rattle.ec_embedded.specs.References.{Form, Of}
use Rattle.ec_embedded.specs.ServerText.{Tokens, Reading, server_at, transaction_at}
use Rattle.ec_embedded.specs.Statements.{made, Made, Entry, entries, chosen, by_form, by_entry, by_first, declared_for, declare_at, kind_at, transaction_words}
use Rattle.ec_embedded.specs.Terminals.{alphabet, Counts, is, keyword}
use Rattle.ec_embedded.proofs.Deterministic.{connect_chosen, set_connection_chosen, disconnect_chosen, autocommit_chosen, allocate_chosen, get_chosen, set_chosen, whenever_chosen, include_chosen, cursor_chosen, prepare_chosen, execute_chosen, deallocate_chosen, deallocate_at_chosen, open_chosen}
use Rattle.ec_embedded.proofs.Sound.{sound}

-- ---- forms

abbrev Deterministic : Made → Type 0
Deterministic m = is_deterministic alphabet m.form ≡ true

-- the verdict of a form, and what a reading of it finds
found_judged : {A : Type 0} (make : A → EmbKindData) (w : Tokens) (o : Reading A) → ((k : ℕ) → o ≡ stopped (failure.OverLimit k) → (x : SqlToken) × (r : Tokens) × (last k w ≡ x ∷ r)) → (o ≡ stopped failure.OutOfMemory → ⊥)
    → found_by make (judged w o) ≡ found_in w (made make o)
found_judged make w (done v n []) limit none = refl
found_judged make w (done v n (x ∷ r)) limit none = refl
found_judged make w (stopped (failure.Dead k)) limit none = go (last k w)
  where
    go : (left : Tokens) → found_by make (dead_at left) ≡ stops left
    go [] = refl
    go (x ∷ r) = refl
found_judged make w (stopped (failure.OverLimit k)) limit none = let h = limit k refl in ap (λ left. found_by make (over_at left)) h.2
found_judged make w (stopped failure.OutOfMemory) limit none = absurd (none refl)

module _ (form : Form) (e : is_deterministic alphabet form ≡ true) (n : Counts) (w : Tokens) where
  over_token : (k : ℕ) → read alphabet form n w ≡ stopped (failure.OverLimit k) → (x : SqlToken) × (r : Tokens) × (last k w ≡ x ∷ r)
  over_token k d = over_last alphabet form e n w k d

  has_memory : read alphabet form n w ≡ stopped failure.OutOfMemory → ⊥
  has_memory d = subst (λ o. Explains alphabet form (read alphabet form) n w o) d (explain alphabet form e n w)

  verdict_found : (make : Of form → EmbKindData) (j : Judged (Of form) SqlToken) → Judges alphabet form n w j → found_by make j ≡ found_in w (made make (read alphabet form n w))
  verdict_found make j h = ap (found_by make) (single alphabet sound form e n w j (judged w (read alphabet form n w)) h (exact alphabet sound form e n w)) ∙ found_judged make w (read alphabet form n w) over_token has_memory

  -- how the tokens begin is how they are read
  begun_so : (b : Beginnings form) → Begins alphabet form n w b → b ≡ beginning w (read alphabet form n w)
  begun_so b h = once alphabet sound form e n w b (beginning w (read alphabet form n w)) h (begins alphabet sound form e n w)

  same_some : {A : Type 0} (a b : A) → Some a ≡ Some b → a ≡ b
  same_some a b f = cc

  none_some : {A : Type 0} (a : A) → ◌≡◌ {A = Option A} None (Some a) → ⊥
  none_some a f = cc

  -- where they don't begin with a list of the form
  pub stopped_found : (b : Beginnings form) (found : Found) → Begins alphabet form n w b → found_without b ≡ Some found → (o : Reading (Of form)) → read alphabet form n w ≡ o
      → (f : Of form → Counts → Tokens → Reading EmbKindData) → found ≡ found_in w (and_then o f)
  stopped_found b found h g (done v m r) d f = absurd (none_some found (ap found_without (sym (begun_so b h ∙ ap (beginning w) d)) ∙ g))
  stopped_found b found h g (stopped (failure.Dead k)) d f = go (last k w) (ap found_without (sym (begun_so b h ∙ ap (beginning w) d)) ∙ g)
    where
      go : (left : Tokens) → found_without {A = Beginning (Of form) SqlToken Counts} (dead_at left) ≡ Some found → found ≡ stops left
      go [] i = sym (same_some (stops []) found i)
      go (x ∷ r) i = sym (same_some (stops (x ∷ r)) found i)
  stopped_found b found h g (stopped (failure.OverLimit k)) d f =
      let t = over_token k d in
      sym (same_some passes found (ap (λ left. found_without {A = Beginning (Of form) SqlToken Counts} (over_at left)) (sym t.2) ∙ (ap found_without (sym (begun_so b h ∙ ap (beginning w) d)) ∙ g)))
  stopped_found b found h g (stopped failure.OutOfMemory) d f = absurd (has_memory d)

  pub stopped_read : (b : Beginnings form) (found : Found) → Begins alphabet form n w b → found_without b ≡ Some found → (k : failure.the_data) × (read alphabet form n w ≡ stopped k) × (found ≡ found_in w (stopped k))
  stopped_read b found h g = go (read alphabet form n w) refl
    where
      go : (o : Reading (Of form)) → read alphabet form n w ≡ o → (k : failure.the_data) × (read alphabet form n w ≡ stopped k) × (found ≡ found_in w (stopped k))
      go (done v m r) d = absurd (none_some found (ap found_without (sym (begun_so b h ∙ ap (beginning w) d)) ∙ g))
      go (stopped k) d = (k, d, stopped_found b found h g (stopped k) d (λ v m r. stopped k))

  same_tree : (b c : Beginning (Of form) SqlToken Counts) → ◌≡◌ {A = Beginnings form} (tree b) (tree c) → b ≡ c
  same_tree b c f = cc

  no_dead : (b : Beginning (Of form) SqlToken Counts) (left : Tokens) → ◌≡◌ {A = Beginnings form} (tree b) (dead_at left) → ⊥
  no_dead b [] f = cc
  no_dead b (x ∷ r) f = cc

  no_over : (b : Beginning (Of form) SqlToken Counts) (left : Tokens) → ◌≡◌ {A = Beginnings form} (tree b) (over_at left) → ⊥
  no_over b [] f = cc
  no_over b (x ∷ r) f = cc

  -- where they do
  pub tree_read : (b : Beginning (Of form) SqlToken Counts) → Begins alphabet form n w (tree b) → read alphabet form n w ≡ done b.tree b.count b.rest
  tree_read b h = go (read alphabet form n w) refl (begun_so (tree b) h)
    where
      go : (o : Reading (Of form)) → read alphabet form n w ≡ o → ◌≡◌ {A = Beginnings form} (tree b) (beginning w o) → o ≡ done b.tree b.count b.rest
      go (done v m r) d f = let same = same_tree b (record { tree = v; count = m; rest = r }) f in λ i. done (sym same i).tree (sym same i).count (sym same i).rest
      go (stopped (failure.Dead k)) d f = absurd (no_dead b (last k w) f)
      go (stopped (failure.OverLimit k)) d f = absurd (no_over b (last k w) f)
      go (stopped failure.OutOfMemory) d f = absurd (has_memory d)

  -- how they begin, by what is read
  pub begins_so : (o : Reading (Of form)) → read alphabet form n w ≡ o → Begins alphabet form n w (beginning w o)
  begins_so o d = subst (λ o. Begins alphabet form n w (beginning w o)) d (begins alphabet sound form e n w)

  found_dead : (left : Tokens) → found_without {A = Beginning (Of form) SqlToken Counts} (dead_at left) ≡ Some (stops left)
  found_dead [] = refl
  found_dead (x ∷ r) = refl

  -- a reading that is stopped, by the way in which the tokens don't begin
  pub found_stopped : (k : failure.the_data) → read alphabet form n w ≡ stopped k → found_without (beginning {A = Of form} {K = SqlToken} {S = Counts} w (stopped k)) ≡ Some (found_in w (stopped k))
  found_stopped (failure.Dead k) d = found_dead (last k w)
  found_stopped (failure.OverLimit k) d = ap (λ left. found_without {A = Beginning (Of form) SqlToken Counts} (over_at left)) (over_token k d).2
  found_stopped failure.OutOfMemory d = absurd (has_memory d)

-- ---- the table of forms

-- An entry has words, and its forms are told by the next token.
record IsEntry (e : Entry) : Type 0 where
  first : Text
  others : List Text
  words : e.words ≡ first ∷ others
  alone : Deterministic e.alone
  behind : (m : Made) → e.behind_at ≡ Some m → Deterministic m

abbrev AllEntries : List Entry → Type 0
AllEntries [] = Unit {0}
AllEntries (e ∷ es) = IsEntry e × AllEntries es

not_none : {A : Type 0} (m : A) → ◌≡◌ {A = Option A} None (Some m) → ⊥
not_none m f = cc

some_inside : {A : Type 0} (m k : A) → Some m ≡ Some k → m ≡ k
some_inside m k f = cc

taken_by : (form : Form) (make : Of form → EmbKindData) → is_deterministic alphabet form ≡ true → (m : Made) → Some (record { form = form; make = make }) ≡ Some m → Deterministic m
taken_by form make e m f = subst Deterministic (some_inside (record { form = form; make = make }) m f) e

all_entries : AllEntries entries
all_entries = (
  record { first = codes "CONNECT"; others = []; words = refl; alone = connect_chosen; behind = λ m f. absurd (not_none m f) },
  (
    record { first = codes "SET"; others = codes "CONNECTION" ∷ []; words = refl; alone = set_connection_chosen; behind = λ m f. absurd (not_none m f) },
    (
      record { first = codes "SET"; others = codes "AUTOCOMMIT" ∷ []; words = refl; alone = autocommit_chosen; behind = taken_by _ _ autocommit_chosen },
      (
        record { first = codes "SET"; others = codes "DESCRIPTOR" ∷ []; words = refl; alone = set_chosen; behind = λ m f. absurd (not_none m f) },
        (
          record { first = codes "DISCONNECT"; others = []; words = refl; alone = disconnect_chosen; behind = λ m f. absurd (not_none m f) },
          (
            record { first = codes "OPEN"; others = []; words = refl; alone = open_chosen; behind = taken_by _ _ open_chosen },
            (
              record { first = codes "EXECUTE"; others = []; words = refl; alone = execute_chosen; behind = taken_by _ _ execute_chosen },
              (
                record { first = codes "PREPARE"; others = []; words = refl; alone = prepare_chosen; behind = taken_by _ _ prepare_chosen },
                (
                  record { first = codes "DEALLOCATE"; others = []; words = refl; alone = deallocate_chosen; behind = taken_by _ _ deallocate_at_chosen },
                  (
                    record { first = codes "ALLOCATE"; others = []; words = refl; alone = allocate_chosen; behind = λ m f. absurd (not_none m f) },
                    (
                      record { first = codes "GET"; others = []; words = refl; alone = get_chosen; behind = λ m f. absurd (not_none m f) },
                      (
                        record { first = codes "WHENEVER"; others = []; words = refl; alone = whenever_chosen; behind = λ m f. absurd (not_none m f) },
                        (
                          record { first = codes "INCLUDE"; others = []; words = refl; alone = include_chosen; behind = λ m f. absurd (not_none m f) },
                          tt,
                        ),
                      ),
                    ),
                  ),
                ),
              ),
            ),
          ),
        ),
      ),
    ),
  ),
)

-- what is known of the entry that is chosen
record Chosen (w : Tokens) (e : Entry) : Type 0 where
  entry : IsEntry e
  begins : begin_with e.words w ≡ true

chosen_is : (es : List Entry) → AllEntries es → (w : Tokens) (e : Entry) → chosen es w ≡ Some e → Chosen w e
chosen_is [] h w e f = absurd (not_none e f)
chosen_is (d ∷ es) h w e f = go (begin_with d.words w) refl (chosen_is es h.1 w e) f
  where
    go : (b : Bool) → begin_with d.words w ≡ b → (chosen es w ≡ Some e → Chosen w e) → elim b [ true ↦ Some d | false ↦ chosen es w ] ≡ Some e → Chosen w e
    go true g later i = subst (λ x. Chosen w x) (some_inside d e i) (record { entry = h.0; begins = g })
    go false g later i = later i

form_is : (at : Bool) (w : Tokens) (e : Entry) (m : Made) → chosen entries w ≡ Some e → form_of at e ≡ Some m → Deterministic m
form_is true w e m f g = (chosen_is entries all_entries w e f).entry.behind m g
form_is false w e m f g = subst Deterministic (some_inside e.alone m g) (chosen_is entries all_entries w e f).entry.alone

-- tokens that begin with words, cut at the last of these
abbrev Cut : List Text → Tokens → Type 0
Cut ks w = (before : Tokens) × (x : SqlToken) × (after : Tokens) × (w ≡ before ++ x ∷ after) × (length before ≡ length ks)

cut_at_last : (k : Text) (ks : List Text) (w : Tokens) → begin_with (k ∷ ks) w ≡ true → Cut ks w
cut_at_last k ks [] h = absurd (false≢true h)
cut_at_last k [] (t ∷ w) h = ([], t, w, refl, refl)
cut_at_last k (j ∷ ks) (t ∷ w) h = let c = cut_at_last j ks w (yes_second (is (keyword k) t) (begin_with (j ∷ ks) w) h) in (t ∷ c.0, c.1, c.2, ap (λ y. t ∷ y) c.3, ap (λ y. suc y) c.4)

-- a token and those behind it
behind_it : (before after : Tokens) (x : SqlToken) (k : ℕ) → k ≡ length before → drop k (before ++ x ∷ after) ≡ x ∷ after
behind_it before after x k e = ap (λ i. drop i (before ++ x ∷ after)) e ∙ drop-append_seam before (x ∷ after)

stuck_there : (before after : Tokens) (x : SqlToken) (k : ℕ) → k ≡ length before → found_in (before ++ x ∷ after) (stuck (drop k (before ++ x ∷ after))) ≡ stops (x ∷ after)
stuck_there before after x k e =
    ap (λ left. found_in (before ++ x ∷ after) (stuck left)) (behind_it before after x k e)
    ∙ ap stops (last_is before (x ∷ after) (before ++ x ∷ after) (length (x ∷ after)) refl refl)

all_left : (w : Tokens) → found_in w (stuck w) ≡ stops w
all_left w = ap stops (last_is [] w w (length w) refl refl)

-- ---- DECLARE

cursor_sound : (n : Counts) (w : Tokens) (found : Found) → IsCursor n w found → found ≡ found_in w (declare_at n w)
unfolding declare_at
cursor_sound n w found (headless b g h k) = stopped_found cursor_form cursor_chosen n w b g h k (read alphabet cursor_form n w) refl (λ v m r. declared_for (cursor_name v) w m r)
cursor_sound n w found (headed b h) = ap (λ o. found_in w (and_then o (λ v m r. declared_for (cursor_name v) w m r))) (sym (tree_read cursor_form cursor_chosen n w b h))

cursor_given : (n : Counts) (w : Tokens) → IsCursor n w (found_in w (declare_at n w))
unfolding declare_at
cursor_given n w = go (read alphabet cursor_form n w) refl
  where
    go : (o : Reading (Of cursor_form)) → read alphabet cursor_form n w ≡ o → IsCursor n w (found_in w (and_then o (λ v m r. declared_for (cursor_name v) w m r)))
    go (done v m r) d = headed (record { tree = v; count = m; rest = r }) (begins_so cursor_form cursor_chosen n w (done v m r) d)
    go (stopped k) d = headless (beginning w (stopped k)) (found_in w (stopped k)) (begins_so cursor_form cursor_chosen n w (stopped k) d) (found_stopped cursor_form cursor_chosen n w k d)

-- ---- what is done

abbrev picked : Bool → Counts → Tokens → Option Entry → Reading EmbKindData
picked at n w o = elim o as (λ _. Reading EmbKindData) [ Some e ↦ by_entry at n w e | None ↦ by_first at n w ]

kind_by : (at : Bool) (n : Counts) (w : Tokens) (e : Entry) → chosen entries w ≡ Some e → kind_at at n w ≡ by_entry at n w e
kind_by at n [] e f = absurd (not_none e f)
kind_by at n (t ∷ w) e f = ap (picked at n (t ∷ w)) f

kind_by_first : (at : Bool) (n : Counts) (t : SqlToken) (w : Tokens) → chosen entries (t ∷ w) ≡ None → kind_at at n (t ∷ w) ≡ by_first at n (t ∷ w)
kind_by_first at n t w f = ap (picked at n (t ∷ w)) f

entry_form : (at : Bool) (n : Counts) (w : Tokens) (e : Entry) (m : Made) → form_of at e ≡ Some m → by_entry at n w e ≡ by_form n w m
entry_form true n w e m f = ap (λ o. elim o as (λ _. Reading EmbKindData) [ None ↦ stuck (drop (length e.words - 1) w) | Some m ↦ by_form n w m ]) f
entry_form false n w e m f = ap (by_form n w) (some_inside e.alone m f)

no_form : (at : Bool) (n : Counts) (w : Tokens) (e : Entry) → form_of at e ≡ None → by_entry at n w e ≡ stuck (drop (length e.words - 1) w)
no_form true n w e f = ap (λ o. elim o as (λ _. Reading EmbKindData) [ None ↦ stuck (drop (length e.words - 1) w) | Some m ↦ by_form n w m ]) f
no_form false n w e f = absurd (cc)

before_last : (before : Tokens) (x : SqlToken) (k : ℕ) → length (before ++ x ∷ []) ≡ k → k - 1 ≡ length before
before_last before x k e = omega (arith, e, length-append before (x ∷ []))

abbrev by_words : Bool → Counts → Tokens → Bool → Bool → Reading EmbKindData
by_words at n w b c = elim b as (λ _. Reading EmbKindData) [
  | true ↦ elim at as (λ _. Reading EmbKindData) [ true ↦ stuck w | false ↦ declare_at n w ]
  | false ↦ elim c as (λ _. Reading EmbKindData) [ true ↦ transaction_at n w | false ↦ server_at n w ]
]

pub kind_sound : (at : Bool) (n : Counts) (w : Tokens) (found : Found) → IsKind at n w found → found ≡ found_in w (kind_at at n w)
kind_sound at n w found empty = refl
kind_sound at n w found (formed u e m j f g h) = verdict_found m.form (form_is at u e m f g) n u m.make j h ∙ ap (found_in u) (sym (kind_by at n u e f ∙ entry_form at n u e m g))
kind_sound at n w found (without_at before after x e f g h) =
    sym (ap (found_in (before ++ x ∷ after)) (kind_by at n (before ++ x ∷ after) e f ∙ no_form at n (before ++ x ∷ after) e g) ∙ stuck_there before after x (length e.words - 1) (before_last before x (length e.words) h))
kind_sound at n w found (cursor [] g e f h c) = absurd (false≢true h)
kind_sound at n w found (cursor (t ∷ u) g e f h c) =
    cursor_sound n (t ∷ u) g c ∙ sym (ap (found_in (t ∷ u)) (kind_by_first at n t u f ∙ (λ i. by_words (e i) n (t ∷ u) (h i) (first_is_among transaction_words (t ∷ u)))))
kind_sound at n w found (cursor_behind_at [] e f h) = absurd (false≢true h)
kind_sound at n w found (cursor_behind_at (t ∷ u) e f h) =
    sym (ap (found_in (t ∷ u)) (kind_by_first at n t u f ∙ (λ i. by_words (e i) n (t ∷ u) (h i) (first_is_among transaction_words (t ∷ u)))) ∙ all_left (t ∷ u))
kind_sound at n w found (transaction [] f h g) = absurd (false≢true g)
kind_sound at n w found (transaction (t ∷ u) f h g) = ap (found_in (t ∷ u)) (sym (kind_by_first at n t u f ∙ (λ i. by_words at n (t ∷ u) (h i) (g i))))
kind_sound at n w found (server t u f h g) = ap (found_in (t ∷ u)) (sym (kind_by_first at n t u f ∙ (λ i. by_words at n (t ∷ u) (h i) (g i))))

kind_chosen : (at : Bool) (n : Counts) (w : Tokens) (e : Entry) → chosen entries w ≡ Some e → (o : Option Made) → form_of at e ≡ o → IsKind at n w (found_in w (by_entry at n w e))
kind_chosen at n w e f (Some m) g =
    subst (λ found. IsKind at n w found)
    (verdict_found m.form (form_is at w e m f g) n w m.make (judged w (read alphabet m.form n w)) (exact alphabet sound m.form (form_is at w e m f g) n w) ∙ ap (found_in w) (sym (entry_form at n w e m g)))
    (formed w e m (judged w (read alphabet m.form n w)) f g (exact alphabet sound m.form (form_is at w e m f g) n w))
kind_chosen at n w e f None g =
    let k = chosen_is entries all_entries w e f in
    let c = cut_at_last k.entry.first k.entry.others w (subst (λ ks. begin_with ks w ≡ true) k.entry.words k.begins) in
    let size : length (c.0 ++ c.1 ∷ []) ≡ length e.words = omega (arith, length-append c.0 (c.1 ∷ []), c.4, ap length k.entry.words) in
    subst (λ found. IsKind at n w found)
    (sym (ap (found_in w) (no_form at n w e g) ∙ subst (λ u. found_in u (stuck (drop (length e.words - 1) u)) ≡ stops (c.1 ∷ c.2)) (sym c.3) (stuck_there c.0 c.2 c.1 (length e.words - 1) (before_last c.0 c.1 (length e.words) size))))
    (subst (λ u. IsKind at n u (stops (c.1 ∷ c.2))) (sym c.3) (without_at c.0 c.2 c.1 e (subst (λ u. chosen entries u ≡ Some e) c.3 f) g size))

kind_formless : (at : Bool) (n : Counts) (t : SqlToken) (w : Tokens) → chosen entries (t ∷ w) ≡ None → (b c : Bool) → is_first (codes "DECLARE") (t ∷ w) ≡ b → first_is_among transaction_words (t ∷ w) ≡ c
    → IsKind at n (t ∷ w) (found_in (t ∷ w) (by_words at n (t ∷ w) b c))
kind_formless true n t w f true c g h = subst (λ found. IsKind true n (t ∷ w) found) (sym (all_left (t ∷ w))) (cursor_behind_at (t ∷ w) refl f g)
kind_formless false n t w f true c g h = cursor (t ∷ w) (found_in (t ∷ w) (declare_at n (t ∷ w))) refl f g (cursor_given n (t ∷ w))
kind_formless at n t w f false true g h = transaction (t ∷ w) f g h
kind_formless at n t w f false false g h = server t w f g h

pub kind_given : (at : Bool) (n : Counts) (w : Tokens) → IsKind at n w (found_in w (kind_at at n w))
kind_given at n [] = empty
kind_given at n (t ∷ w) = go (chosen entries (t ∷ w)) refl
  where
    go : (o : Option Entry) → chosen entries (t ∷ w) ≡ o → IsKind at n (t ∷ w) (found_in (t ∷ w) (picked at n (t ∷ w) o))
    go (Some e) f = kind_chosen at n (t ∷ w) e f (form_of at e) refl
    go None f = kind_formless at n t w f (is_first (codes "DECLARE") (t ∷ w)) (first_is_among transaction_words (t ∷ w)) refl refl
