-- That the table is sorted and answers for the text.
use Rattle.std.proofs.Common.{◌≡◌, ℕ, List, [], ◌∷◌, ◌++◌, Bool, true, false, ◌&&◌, ◌||◌, ◌==◌, nat_lt, nat_le, Option, Some, None, option_map, refl, sym, ◌∙◌, ap, append-nil, arith}
use Rattle.std.proofs.lemmas.Bool.{and_parts, and_from}
use Rattle.std.proofs.lemmas.Bool.Decides.{nat_tests}
use Rattle.std.proofs.lemmas.List.Elements.{filter-append}
use Rattle.std.specs.List.{list_all, filter}
use Rattle.ec_ctypes.specs.declared.embedded.emb.Cond.{Cond}
use Rattle.ec_ctypes.specs.declared.embedded.emb.Cond.TheVariants.{NotFound, Warning, Error}
use Rattle.ec_ctypes.specs.trees.Checked.{MarkData}
use Rattle.ec_ctypes.specs.trees.Embedded.{ActionData, EmbData, whenever}
use Rattle.ec_typing_defs.specs.statement_parts.Handlers.{same_cond, mark_of, with_mark, marks_in, holds_at, last_of}
use Rattle.ec_whenever.specs.Tables.{is_for, marks_for, table_of, cond_rank, is_no_later, is_no_later_than, is_sorted, is_behind, are_in_order, AnswersFor}
use Rattle.ec_whenever.proofs.Searching.{same_rank, skipped, taken}

-- a statement is a WHENEVER or has no mark
mark_cases : (P : Option MarkData → Type 0) (e : EmbData) → ((c : Cond) (a : ActionData) → P (Some (e.place, c, a))) → P None → P (mark_of e)
mark_cases P e some none = elim e.kind as (λ k. P (elim k [ whenever c a ↦ Some (e.place, c, a) | _ ↦ None ])) [ whenever c a ↦ some c a | _ ↦ none ]

-- ---- what holds in the table

no_others : (b : Bool) → (b && false) ≡ false
no_others true = refl
no_others false = refl

one_of_condition : (p : ℕ) (c : Cond) (m : MarkData) (ms : List MarkData) → filter (holds_at p c) (marks_for c ms) ≡ filter (holds_at p c) ms → (t : Bool) → same_cond c m.1 ≡ t → filter (holds_at p c) (marks_for c (m ∷ ms)) ≡ filter (holds_at p c) (m ∷ ms)
one_of_condition p c m ms rest true t = ap (filter (holds_at p c)) (taken (is_for c) m ms t) ∙ filter-append (holds_at p c) (m ∷ []) (marks_for c ms) ∙ (λ i. filter (holds_at p c) (m ∷ []) ++ rest i) ∙ sym (filter-append (holds_at p c) (m ∷ []) ms)
one_of_condition p c m ms rest false t = ap (filter (holds_at p c)) (skipped (is_for c) m ms t) ∙ rest ∙ sym (skipped (holds_at p c) m ms ((λ i. nat_lt m.0 p && t i) ∙ no_others (nat_lt m.0 p)))

of_condition : (p : ℕ) (c : Cond) (ms : List MarkData) → filter (holds_at p c) (marks_for c ms) ≡ filter (holds_at p c) ms
of_condition p c [] = refl
of_condition p c (m ∷ ms) = one_of_condition p c m ms (of_condition p c ms) (same_cond c m.1) refl

-- a mark for one condition is for no other
apart : (c d : Cond) → same_cond c d ≡ false → (e : Cond) → same_cond d e ≡ true → same_cond c e ≡ false
apart c d h e k = same_rank c e ∙ grind (arith, nat_tests, sym (same_rank c d) ∙ h, sym (same_rank d e) ∙ k)

one_of_another : (p : ℕ) (c d : Cond) → same_cond c d ≡ false → (m : MarkData) (ms : List MarkData) → filter (holds_at p c) (marks_for d ms) ≡ [] → (t : Bool) → same_cond d m.1 ≡ t → filter (holds_at p c) (marks_for d (m ∷ ms)) ≡ []
one_of_another p c d h m ms rest true t = ap (filter (holds_at p c)) (taken (is_for d) m ms t) ∙ skipped (holds_at p c) m (marks_for d ms) ((λ i. nat_lt m.0 p && apart c d h m.1 t i) ∙ no_others (nat_lt m.0 p)) ∙ rest
one_of_another p c d h m ms rest false t = ap (filter (holds_at p c)) (skipped (is_for d) m ms t) ∙ rest

of_another : (p : ℕ) (c d : Cond) → same_cond c d ≡ false → (ms : List MarkData) → filter (holds_at p c) (marks_for d ms) ≡ []
of_another p c d h [] = refl
of_another p c d h (m ∷ ms) = one_of_another p c d h m ms (of_another p c d h ms) (same_cond d m.1) refl

three : (p : ℕ) (c : Cond) (ms : List MarkData) → filter (holds_at p c) (table_of ms) ≡ filter (holds_at p c) (marks_for NotFound ms) ++ (filter (holds_at p c) (marks_for Warning ms) ++ filter (holds_at p c) (marks_for Error ms))
three p c ms = filter-append (holds_at p c) (marks_for NotFound ms) (marks_for Warning ms ++ marks_for Error ms) ∙ (λ i. filter (holds_at p c) (marks_for NotFound ms) ++ filter-append (holds_at p c) (marks_for Warning ms) (marks_for Error ms) i)

held_in_table : (p : ℕ) (c : Cond) (ms : List MarkData) → filter (holds_at p c) (table_of ms) ≡ filter (holds_at p c) ms
held_in_table p NotFound ms = three p NotFound ms ∙ (λ i. of_condition p NotFound ms i ++ (of_another p NotFound Warning refl ms i ++ of_another p NotFound Error refl ms i)) ∙ append-nil (filter (holds_at p NotFound) ms)
held_in_table p Warning ms = three p Warning ms ∙ (λ i. of_another p Warning NotFound refl ms i ++ (of_condition p Warning ms i ++ of_another p Warning Error refl ms i)) ∙ append-nil (filter (holds_at p Warning) ms)
held_in_table p Error ms = three p Error ms ∙ (λ i. of_another p Error NotFound refl ms i ++ (of_another p Error Warning refl ms i ++ of_condition p Error ms i))

-- ---- that the table is sorted

numbers_rise : (rc rm rx qm qx : ℕ) → (rc == rm) ≡ true → (rc == rx) ≡ true → nat_lt qm qx ≡ true → (nat_lt rm rx || (rm == rx && nat_le qm qx)) ≡ true
numbers_rise rc rm rx qm qx h k l = grind (arith, nat_tests)

numbers_apart : (k ra rb qa qb : ℕ) → nat_le ra k ≡ true → nat_lt k rb ≡ true → (nat_lt ra rb || (ra == rb && nat_le qa qb)) ≡ true
numbers_apart k ra rb qa qb h l = grind (arith, nat_tests)

behind_all : (q : ℕ) (es : List EmbData) → is_behind q es ≡ true → list_all (λ m. nat_lt q m.0) (marks_in es) ≡ true
behind_all q [] h = refl
behind_all q (e ∷ es) h =
    let parts = and_parts (nat_lt q e.place) (is_behind q es) h in
    let rest = behind_all q es parts.1 in
    mark_cases (λ o. list_all (λ m. nat_lt q m.0) (with_mark o (marks_in es)) ≡ true) e (λ c a. and_from (nat_lt q e.place) (list_all (λ m. nat_lt q m.0) (marks_in es)) parts.0 rest) rest

no_later_step : (c : Cond) (m : MarkData) → same_cond c m.1 ≡ true → (x : MarkData) (xs : List MarkData) → nat_lt m.0 x.0 ≡ true → is_no_later_than m (marks_for c xs) ≡ true → (t : Bool) → same_cond c x.1 ≡ t → is_no_later_than m (marks_for c (x ∷ xs)) ≡ true
no_later_step c m h x xs l rest true t = ap (is_no_later_than m) (taken (is_for c) x xs t) ∙ and_from (is_no_later m x) (is_no_later_than m (marks_for c xs)) (numbers_rise (cond_rank c) (cond_rank m.1) (cond_rank x.1) m.0 x.0 (sym (same_rank c m.1) ∙ h) (sym (same_rank c x.1) ∙ t) l) rest
no_later_step c m h x xs l rest false t = ap (is_no_later_than m) (skipped (is_for c) x xs t) ∙ rest

no_later_all : (c : Cond) (m : MarkData) → same_cond c m.1 ≡ true → (ms : List MarkData) → list_all (λ x. nat_lt m.0 x.0) ms ≡ true → is_no_later_than m (marks_for c ms) ≡ true
no_later_all c m h [] l = refl
no_later_all c m h (x ∷ xs) l =
    let parts = and_parts (nat_lt m.0 x.0) (list_all (λ y. nat_lt m.0 y.0) xs) l in
    no_later_step c m h x xs parts.0 (no_later_all c m h xs parts.1) (same_cond c x.1) refl

one_sorted : (c : Cond) (m : MarkData) (ms : List MarkData) → list_all (λ x. nat_lt m.0 x.0) ms ≡ true → is_sorted (marks_for c ms) ≡ true → (t : Bool) → same_cond c m.1 ≡ t → is_sorted (marks_for c (m ∷ ms)) ≡ true
one_sorted c m ms l rest true t = ap is_sorted (taken (is_for c) m ms t) ∙ and_from (is_no_later_than m (marks_for c ms)) (is_sorted (marks_for c ms)) (no_later_all c m t ms l) rest
one_sorted c m ms l rest false t = ap is_sorted (skipped (is_for c) m ms t) ∙ rest

sorted_for : (c : Cond) (es : List EmbData) → are_in_order es ≡ true → is_sorted (marks_for c (marks_in es)) ≡ true
sorted_for c [] h = refl
sorted_for c (e ∷ es) h =
    let parts = and_parts (is_behind e.place es) (are_in_order es) h in
    let rest = sorted_for c es parts.1 in
    mark_cases (λ o. is_sorted (marks_for c (with_mark o (marks_in es))) ≡ true) e (λ d a. one_sorted c (e.place, d, a) (marks_in es) (behind_all e.place es parts.0) rest (same_cond c d) refl) rest

same_number : (a b : ℕ) → (a == b) ≡ true → b ≡ a
same_number a b h = grind (arith, nat_tests)

one_ranked : (f : ℕ → Bool) (c : Cond) → f (cond_rank c) ≡ true → (m : MarkData) (ms : List MarkData) → list_all (λ x. f (cond_rank x.1)) (marks_for c ms) ≡ true → (t : Bool) → same_cond c m.1 ≡ t → list_all (λ x. f (cond_rank x.1)) (marks_for c (m ∷ ms)) ≡ true
one_ranked f c h m ms rest true t = ap (list_all (λ x. f (cond_rank x.1))) (taken (is_for c) m ms t) ∙ and_from (f (cond_rank m.1)) (list_all (λ x. f (cond_rank x.1)) (marks_for c ms)) (ap f (same_number (cond_rank c) (cond_rank m.1) (sym (same_rank c m.1) ∙ t)) ∙ h) rest
one_ranked f c h m ms rest false t = ap (list_all (λ x. f (cond_rank x.1))) (skipped (is_for c) m ms t) ∙ rest

ranked : (f : ℕ → Bool) (c : Cond) → f (cond_rank c) ≡ true → (ms : List MarkData) → list_all (λ x. f (cond_rank x.1)) (marks_for c ms) ≡ true
ranked f c h [] = refl
ranked f c h (m ∷ ms) = one_ranked f c h m ms (ranked f c h ms) (same_cond c m.1) refl

both_ranked : (f : MarkData → Bool) (xs ys : List MarkData) → list_all f xs ≡ true → list_all f ys ≡ true → list_all f (xs ++ ys) ≡ true
both_ranked f [] ys h k = k
both_ranked f (x ∷ xs) ys h k =
    let parts = and_parts (f x) (list_all f xs) h in
    and_from (f x) (list_all f (xs ++ ys)) parts.0 (both_ranked f xs ys parts.1 k)

no_later_behind : (k : ℕ) (x : MarkData) → nat_le (cond_rank x.1) k ≡ true → (ys : List MarkData) → list_all (λ y. nat_lt k (cond_rank y.1)) ys ≡ true → is_no_later_than x ys ≡ true
no_later_behind k x h [] l = refl
no_later_behind k x h (y ∷ ys) l =
    let parts = and_parts (nat_lt k (cond_rank y.1)) (list_all (λ z. nat_lt k (cond_rank z.1)) ys) l in
    and_from (is_no_later x y) (is_no_later_than x ys) (numbers_apart k (cond_rank x.1) (cond_rank y.1) x.0 y.0 h parts.0) (no_later_behind k x h ys parts.1)

no_later_both : (x : MarkData) (xs ys : List MarkData) → is_no_later_than x xs ≡ true → is_no_later_than x ys ≡ true → is_no_later_than x (xs ++ ys) ≡ true
no_later_both x [] ys h k = k
no_later_both x (z ∷ zs) ys h k =
    let parts = and_parts (is_no_later x z) (is_no_later_than x zs) h in
    and_from (is_no_later x z) (is_no_later_than x (zs ++ ys)) parts.0 (no_later_both x zs ys parts.1 k)

joined : (k : ℕ) (xs ys : List MarkData) → list_all (λ x. nat_le (cond_rank x.1) k) xs ≡ true → list_all (λ y. nat_lt k (cond_rank y.1)) ys ≡ true → is_sorted xs ≡ true → is_sorted ys ≡ true → is_sorted (xs ++ ys) ≡ true
joined k [] ys low high s t = t
joined k (x ∷ xs) ys low high s t =
    let ranks = and_parts (nat_le (cond_rank x.1) k) (list_all (λ z. nat_le (cond_rank z.1) k) xs) low in
    let parts = and_parts (is_no_later_than x xs) (is_sorted xs) s in
    and_from (is_no_later_than x (xs ++ ys)) (is_sorted (xs ++ ys)) (no_later_both x xs ys parts.0 (no_later_behind k x ranks.0 ys high)) (joined k xs ys ranks.1 high parts.1 t)

table_sorted : (es : List EmbData) → are_in_order es ≡ true → is_sorted (table_of (marks_in es)) ≡ true
table_sorted es h =
    let ms : List MarkData = marks_in es in
    joined 0 (marks_for NotFound ms) (marks_for Warning ms ++ marks_for Error ms) (ranked (λ r. nat_le r 0) NotFound refl ms)
    (both_ranked (λ y. nat_lt 0 (cond_rank y.1)) (marks_for Warning ms) (marks_for Error ms) (ranked (λ r. nat_lt 0 r) Warning refl ms) (ranked (λ r. nat_lt 0 r) Error refl ms))
    (sorted_for NotFound es h)
    (joined 1 (marks_for Warning ms) (marks_for Error ms) (ranked (λ r. nat_le r 1) Warning refl ms) (ranked (λ r. nat_lt 1 r) Error refl ms) (sorted_for Warning es h) (sorted_for Error es h))

-- The table of statements that stand in the order of the text answers for them.
pub table_answers : (es : List EmbData) → are_in_order es ≡ true → AnswersFor (table_of (marks_in es)) es
table_answers es h = record {
  sorted = table_sorted es h;
  actions = λ place cond. ap (λ (xs : List MarkData). option_map (λ (x : MarkData). x.2) (last_of xs)) (held_in_table place cond (marks_in es));
}
