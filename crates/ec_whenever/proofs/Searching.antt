-- What halving finds in a sorted table.
use Rattle.std.proofs.Common.{◌≡◌, ℕ, zero, suc, ◌+◌, ◌-◌, ◌<◌, ◌≤◌, List, [], ◌∷◌, ◌++◌, length, map, take, drop, get_or, Bool, true, false, ◌&&◌, ◌||◌, ◌==◌, nat_lt, nat_le, Some, None, option_map, refl, sym, ◌∙◌, ap, add-one, take-append-drop, append-nil, arith}
use Rattle.std.proofs.lemmas.Bool.{and_parts, and_from}
use Rattle.std.proofs.lemmas.List.{length-map}
use Rattle.std.proofs.lemmas.Bool.Decides.{nat_tests}
use Rattle.std.proofs.lemmas.List.Folds.{list_all_more}
use Rattle.std.proofs.lemmas.List.Elements.{filter-append}
use Rattle.std.proofs.Math.Seq.{take-suc}
use Rattle.std.specs.List.{list_all, list_any, filter}
use Rattle.ec_ctypes.specs.declared.embedded.emb.Cond.{Cond}
use Rattle.ec_ctypes.specs.declared.embedded.emb.Cond.TheVariants.{NotFound, Warning, Error}
use Rattle.ec_ctypes.specs.trees.Checked.{MarkData}
use Rattle.ec_typing_defs.specs.statement_parts.Handlers.{same_cond, holds_at, last_of, action_among}
use Rattle.ec_whenever.specs.Chosen.{action_for, last_action}
use Rattle.ec_whenever.specs.Tables.{cond_rank, comes_before, is_no_later, is_no_later_than, is_sorted}

-- ---- the order

-- what comes no later than a mark before the place comes before it too
numbers_before : (ra rb rc qa qb p : ℕ) → (nat_lt ra rb || (ra == rb && nat_le qa qb)) ≡ true → (nat_lt rb rc || (rb == rc && nat_lt qb p)) ≡ true → (nat_lt ra rc || (ra == rc && nat_lt qa p)) ≡ true
numbers_before ra rb rc qa qb p h k = grind (arith, nat_tests)

numbers_behind : (ra rb rc qa qb p : ℕ) → (nat_lt ra rb || (ra == rb && nat_le qa qb)) ≡ true → (nat_lt ra rc || (ra == rc && nat_lt qa p)) ≡ false → (nat_lt rb rc || (rb == rc && nat_lt qb p)) ≡ false
numbers_behind ra rb rc qa qb p h k = grind (arith, nat_tests)

pub earlier_too : (p : ℕ) (c : Cond) (a b : MarkData) → is_no_later a b ≡ true → comes_before p c b ≡ true → comes_before p c a ≡ true
earlier_too p c a b h k = numbers_before (cond_rank a.1) (cond_rank b.1) (cond_rank c) a.0 b.0 p h k

pub later_neither : (p : ℕ) (c : Cond) (a b : MarkData) → is_no_later a b ≡ true → comes_before p c a ≡ false → comes_before p c b ≡ false
later_neither p c a b h k = numbers_behind (cond_rank a.1) (cond_rank b.1) (cond_rank c) a.0 b.0 p h k

numbers_same : (r q : ℕ) → (nat_lt r r || (r == r && nat_le q q)) ≡ true
numbers_same r q = grind (arith, nat_tests)

no_later_itself : (m : MarkData) → is_no_later m m ≡ true
no_later_itself m = numbers_same (cond_rank m.1) m.0

-- ---- sorted tables

no_later_at : (k : ℕ) (m : MarkData) (ms : List MarkData) (d : MarkData) → k < length ms → is_no_later_than m ms ≡ true → is_no_later m (get_or ms k d) ≡ true
no_later_at k m [] d h s = absurd (omega arith)
no_later_at zero m (x ∷ xs) d h s = (and_parts (is_no_later m x) (is_no_later_than m xs) s).0
no_later_at (suc k) m (x ∷ xs) d h s = no_later_at k m xs d (omega arith) (and_parts (is_no_later m x) (is_no_later_than m xs) s).1

-- what stands in front comes before
pub front_before : (p : ℕ) (c : Cond) (k : ℕ) (ms : List MarkData) (d : MarkData) → k < length ms → is_sorted ms ≡ true → comes_before p c (get_or ms k d) ≡ true → list_all (comes_before p c) (take k ms) ≡ true
front_before p c k [] d h s b = absurd (omega arith)
front_before p c zero (m ∷ ms) d h s b = refl
front_before p c (suc k) (m ∷ ms) d h s b =
    let parts = and_parts (is_no_later_than m ms) (is_sorted ms) s in
    let less : k < length ms = omega arith in
    and_from (comes_before p c m) (list_all (comes_before p c) (take k ms)) (earlier_too p c m (get_or ms k d) (no_later_at k m ms d less parts.0) b) (front_before p c k ms d less parts.1 b)

none_behind_first : (p : ℕ) (c : Cond) (m : MarkData) (ms : List MarkData) → is_no_later_than m ms ≡ true → comes_before p c m ≡ false → list_any (comes_before p c) ms ≡ false
none_behind_first p c m [] s b = refl
none_behind_first p c m (x ∷ xs) s b =
    let parts = and_parts (is_no_later m x) (is_no_later_than m xs) s in
    λ i. later_neither p c m x parts.0 b i || none_behind_first p c m xs parts.1 b i

-- what stands behind doesn't
pub rest_behind : (p : ℕ) (c : Cond) (k : ℕ) (ms : List MarkData) (d : MarkData) → k < length ms → is_sorted ms ≡ true → comes_before p c (get_or ms k d) ≡ false → list_any (comes_before p c) (drop k ms) ≡ false
rest_behind p c k [] d h s b = absurd (omega arith)
rest_behind p c zero (m ∷ ms) d h s b = λ i. b i || none_behind_first p c m ms (and_parts (is_no_later_than m ms) (is_sorted ms) s).0 b i
rest_behind p c (suc k) (m ∷ ms) d h s b = rest_behind p c k ms d (omega arith) (and_parts (is_no_later_than m ms) (is_sorted ms) s).1 b

pub one_more_before : (p : ℕ) (c : Cond) (k : ℕ) (ms : List MarkData) (d : MarkData) → k < length ms → is_sorted ms ≡ true → comes_before p c (get_or ms k d) ≡ true → list_all (comes_before p c) (take (k + 1) ms) ≡ true
one_more_before p c k ms d h s b = list_all_more (comes_before p c) ms k d h ∙ and_from (list_all (comes_before p c) (take k ms)) (comes_before p c (get_or ms k d)) (front_before p c k ms d h s b) b

-- ---- what holds at the place

pub same_rank : (c d : Cond) → same_cond c d ≡ (cond_rank c == cond_rank d)
same_rank NotFound NotFound = refl
same_rank NotFound Warning = refl
same_rank NotFound Error = refl
same_rank Warning NotFound = refl
same_rank Warning Warning = refl
same_rank Warning Error = refl
same_rank Error NotFound = refl
same_rank Error Warning = refl
same_rank Error Error = refl

numbers_hold_not : (rm rc q p : ℕ) → (nat_lt rm rc || (rm == rc && nat_lt q p)) ≡ false → (nat_lt q p && (rc == rm)) ≡ false
numbers_hold_not rm rc q p h = grind (arith, nat_tests)

numbers_hold : (rm rc q p : ℕ) → (nat_lt rm rc || (rm == rc && nat_lt q p)) ≡ true → (rc == rm) ≡ true → (nat_lt q p && (rc == rm)) ≡ true
numbers_hold rm rc q p h k = grind (arith, nat_tests)

numbers_differ : (rx rm rc qx qm p : ℕ) → (nat_lt rm rc || (rm == rc && nat_lt qm p)) ≡ true → (rc == rm) ≡ false → (nat_lt rx rm || (rx == rm && nat_le qx qm)) ≡ true → (nat_lt qx p && (rc == rx)) ≡ false
numbers_differ rx rm rc qx qm p h k l = grind (arith, nat_tests)

-- a mark that doesn't come before doesn't hold
not_holding : (p : ℕ) (c : Cond) (m : MarkData) → comes_before p c m ≡ false → holds_at p c m ≡ false
not_holding p c m h = (λ i. nat_lt m.0 p && same_rank c m.1 i) ∙ numbers_hold_not (cond_rank m.1) (cond_rank c) m.0 p h

-- one that comes before and is for the condition holds
holding : (p : ℕ) (c : Cond) (m : MarkData) → comes_before p c m ≡ true → same_cond c m.1 ≡ true → holds_at p c m ≡ true
holding p c m h k = (λ i. nat_lt m.0 p && same_rank c m.1 i) ∙ numbers_hold (cond_rank m.1) (cond_rank c) m.0 p h (sym (same_rank c m.1) ∙ k)

-- where the last one that comes before is for another condition, none above it holds
none_above : (p : ℕ) (c : Cond) (m x : MarkData) → comes_before p c m ≡ true → same_cond c m.1 ≡ false → is_no_later x m ≡ true → holds_at p c x ≡ false
none_above p c m x h k l = (λ i. nat_lt x.0 p && same_rank c x.1 i) ∙ numbers_differ (cond_rank x.1) (cond_rank m.1) (cond_rank c) x.0 m.0 p h (sym (same_rank c m.1) ∙ k) l

or_parts : (a b : Bool) → (a || b) ≡ false → (a ≡ false) × (b ≡ false)
or_parts true b h = absurd (cc)
or_parts false b h = (refl, h)

pub skipped : (f : MarkData → Bool) (x : MarkData) (xs : List MarkData) → f x ≡ false → filter f (x ∷ xs) ≡ filter f xs
skipped f x xs h = rw h refl

pub taken : (f : MarkData → Bool) (x : MarkData) (xs : List MarkData) → f x ≡ true → filter f (x ∷ xs) ≡ x ∷ filter f xs
taken f x xs h = rw h refl

none_hold : (p : ℕ) (c : Cond) (xs : List MarkData) → list_any (comes_before p c) xs ≡ false → filter (holds_at p c) xs ≡ []
none_hold p c [] h = refl
none_hold p c (x ∷ xs) h =
    let parts = or_parts (comes_before p c x) (list_any (comes_before p c) xs) h in
    skipped (holds_at p c) x xs (not_holding p c x parts.0) ∙ none_hold p c xs parts.1

front_no_later : (k : ℕ) (ms : List MarkData) (d : MarkData) → k < length ms → is_sorted ms ≡ true → list_all (λ x. is_no_later x (get_or ms k d)) (take k ms) ≡ true
front_no_later k [] d h s = absurd (omega arith)
front_no_later zero (m ∷ ms) d h s = refl
front_no_later (suc k) (m ∷ ms) d h s =
    let parts = and_parts (is_no_later_than m ms) (is_sorted ms) s in
    let less : k < length ms = omega arith in
    and_from (is_no_later m (get_or ms k d)) (list_all (λ x. is_no_later x (get_or ms k d)) (take k ms)) (no_later_at k m ms d less parts.0) (front_no_later k ms d less parts.1)

none_above_all : (p : ℕ) (c : Cond) (m : MarkData) (xs : List MarkData) → comes_before p c m ≡ true → same_cond c m.1 ≡ false → list_all (λ x. is_no_later x m) xs ≡ true → filter (holds_at p c) xs ≡ []
none_above_all p c m [] h k l = refl
none_above_all p c m (x ∷ xs) h k l =
    let parts = and_parts (is_no_later x m) (list_all (λ y. is_no_later y m) xs) l in
    skipped (holds_at p c) x xs (none_above p c m x h k parts.0) ∙ none_above_all p c m xs h k parts.1

last_behind : (xs : List MarkData) (m : MarkData) → last_of (xs ++ m ∷ []) ≡ Some m
last_behind [] m = refl
last_behind (x ∷ []) m = refl
last_behind (x ∷ y ∷ ys) m = last_behind (y ∷ ys) m

-- the marks that hold, where the front before the place ends with this one
held : (p : ℕ) (c : Cond) (k : ℕ) (ms : List MarkData) (d : MarkData) → k < length ms → list_any (comes_before p c) (drop (suc k) ms) ≡ false → filter (holds_at p c) ms ≡ filter (holds_at p c) (take k ms) ++ filter (holds_at p c) (get_or ms k d ∷ [])
held p c k ms d h none =
    ap (filter (holds_at p c)) (sym (take-append-drop (suc k) ms))
    ∙ filter-append (holds_at p c) (take (suc k) ms) (drop (suc k) ms)
    ∙ (λ i. filter (holds_at p c) (take-suc ms k d h i) ++ none_hold p c (drop (suc k) ms) none i)
    ∙ (λ i. filter-append (holds_at p c) (take k ms) (get_or ms k d ∷ []) i ++ [])
    ∙ append-nil (filter (holds_at p c) (take k ms) ++ filter (holds_at p c) (get_or ms k d ∷ []))

at_last : (p : ℕ) (c : Cond) (ms front : List MarkData) (m : MarkData) → comes_before p c m ≡ true → list_all (λ x. is_no_later x m) front ≡ true → filter (holds_at p c) ms ≡ filter (holds_at p c) front ++ filter (holds_at p c) (m ∷ []) → (t : Bool) → same_cond c m.1 ≡ t → action_for c (Some m) ≡ action_among ms p c
at_last p c ms front m b l e true t =
    (λ i. elim (t i) [ true ↦ Some m.2 | false ↦ None ])
    ∙ sym (ap (λ (xs : List MarkData). option_map (λ (x : MarkData). x.2) (last_of xs)) (e ∙ (λ i. filter (holds_at p c) front ++ taken (holds_at p c) m [] (holding p c m b t) i))
    ∙ ap (option_map (λ (x : MarkData). x.2)) (last_behind (filter (holds_at p c) front) m))
at_last p c ms front m b l e false t =
    (λ i. elim (t i) [ true ↦ Some m.2 | false ↦ None ])
    ∙ sym (ap (λ (xs : List MarkData). option_map (λ (x : MarkData). x.2) (last_of xs)) (e ∙ (λ i. none_above_all p c m front b t l i ++ skipped (holds_at p c) m [] (none_above p c m m b t (no_later_itself m)) i)))

-- The front of a sorted table that comes before the place tells the action that holds there.
pub found : (p : ℕ) (c : Cond) (n : ℕ) (ms : List MarkData) → n ≤ length ms → is_sorted ms ≡ true → list_all (comes_before p c) (take n ms) ≡ true → list_any (comes_before p c) (drop n ms) ≡ false → last_action c (take n ms) ≡ action_among ms p c
found p c zero ms h s all none = sym (ap (λ (xs : List MarkData). option_map (λ (x : MarkData). x.2) (last_of xs)) (none_hold p c ms none))
found p c (suc k) [] h s all none = absurd (omega arith)
found p c (suc k) (m ∷ ms) h s all none =
    let less : k < length (m ∷ ms) = omega arith in
    let last : MarkData = get_or (m ∷ ms) k m in
    let split : take (suc k) (m ∷ ms) ≡ take k (m ∷ ms) ++ last ∷ [] = take-suc (m ∷ ms) k m less in
    let both = and_parts (list_all (comes_before p c) (take k (m ∷ ms))) (comes_before p c last) (sym (list_all_more (comes_before p c) (m ∷ ms) k m less) ∙ (λ i. list_all (comes_before p c) (take (add-one k i) (m ∷ ms))) ∙ all) in
    ap (last_action c) split ∙ ap (action_for c) (last_behind (take k (m ∷ ms)) last)
    ∙ at_last p c (m ∷ ms) (take k (m ∷ ms)) last both.1 (front_no_later k (m ∷ ms) m less s) (held p c k (m ∷ ms) m less none) (same_cond c last.1) refl

pub mapped_at : {A B : Type 0} (f : A → B) (xs : List A) (k : ℕ) (d : A) → get_or (map f xs) k (f d) ≡ f (get_or xs k d)
mapped_at f [] k d = refl
mapped_at f (x ∷ xs) zero d = refl
mapped_at f (x ∷ xs) (suc k) d = mapped_at f xs k d

pub last_at : {A : Type 0} (xs : List A) (d : A) → 1 ≤ length xs → last_of xs ≡ Some (get_or xs (length xs - 1) d)
last_at [] d h = absurd (omega arith)
last_at (x ∷ []) d h = refl
last_at (x ∷ y ∷ ys) d h =
    let less : suc (suc (length ys)) - 1 ≡ suc (suc (length ys) - 1) = omega arith in
    last_at (y ∷ ys) d (omega arith) ∙ ap (λ (k : ℕ). Some (get_or (x ∷ y ∷ ys) k d)) (sym less)

pub mapped_last : {A B : Type 0} (f : A → B) (xs : List A) (d : A) → 1 ≤ length xs → d ≡ get_or xs (length xs - 1) d → last_of (map f xs) ≡ Some (f d)
mapped_last f xs d h e =
    last_at (map f xs) (f d) (omega (arith, length-map xs f))
    ∙ ap (λ (k : ℕ). Some (get_or (map f xs) (k - 1) (f d))) (length-map xs f)
    ∙ ap Some (mapped_at f xs (length xs - 1) d ∙ ap f (sym e))

pub mapped_front : {A B : Type 0} (f : A → B) (n : ℕ) (xs : List A) → map f (take n xs) ≡ take n (map f xs)
mapped_front f zero xs = refl
mapped_front f (suc n) [] = refl
mapped_front f (suc n) (x ∷ xs) = ap (λ ys. f x ∷ ys) (mapped_front f n xs)
