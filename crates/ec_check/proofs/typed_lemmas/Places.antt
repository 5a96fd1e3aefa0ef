-- Places of numbers in a list.
use Rattle.std.proofs.Common.{◌≡◌, ◌∙◌, ℕ, zero, suc, ◌+◌, ◌-◌, ◌==◌, ◌<◌, ◌≤◌, ◌^◌, Bool, true, false, List, [], ◌∷◌, ◌++◌, length, Option, Some, None, option_map, cond, refl, sym, ap, subst, get_or, slice_set, slice_get, arith, rules, length-append, append_assoc, add-one}
use Rattle.std.proofs.lemmas.List.{append-nil}
use Rattle.ec_typing_defs.specs.Answers.{is_member, place_of}
use Rattle.ec_check.specs.typed.Orders.{place_in, open_from, order_of, with_place, with_open, IsOrder}

-- ---- a number behind a list

abbrev pub or_there : Option ℕ → Bool → ℕ → Option ℕ
or_there (Some p) here n = Some p
or_there None true n = Some n
or_there None false n = None

pub place_in-append : (k : ℕ) (js : List ℕ) (j : ℕ) → place_in k (js ++ j ∷ []) ≡ or_there (place_in k js) (j == k) (length js)
place_in-append k [] j = step (j == k)
  where
    step : (b : Bool) → cond b (Some 0) None ≡ or_there None b 0
    step true = refl
    step false = refl
place_in-append k (i ∷ js) j = step (i == k) (place_in k (js ++ j ∷ [])) (place_in k js) (j == k) (place_in-append k js j)
  where
    later : (o : Option ℕ) (here : Bool) → option_map (λ x. suc x) (or_there o here (length js)) ≡ or_there (option_map (λ x. suc x) o) here (suc (length js))
    later (Some p) here = refl
    later None true = refl
    later None false = refl

    step : (b : Bool) (all before : Option ℕ) (here : Bool) → all ≡ or_there before here (length js)
        → cond b (Some 0) (option_map (λ x. suc x) all) ≡ or_there (cond b (Some 0) (option_map (λ x. suc x) before)) here (suc (length js))
    step true all before here e = refl
    step false all before here e = ap (option_map (λ x. suc x)) e ∙ later before here

-- where a number stands is its place
pub place_is : (k : ℕ) (js : List ℕ) (p : ℕ) → Some p ≡ place_in k js → p ≡ place_of k js
place_is k [] p e = cc
place_is k (j ∷ js) p e = step (j == k) p (place_in k js) (place_of k js) (place_is k js) e
  where
    step : (b : Bool) (p : ℕ) (o : Option ℕ) (n : ℕ) → ((q : ℕ) → Some q ≡ o → q ≡ n) → Some p ≡ cond b (Some 0) (option_map (λ x. suc x) o) → p ≡ cond b 0 (suc n)
    step true p o n h e = cc
    step false p None n h e = cc
    step false p (Some q) n h e = let s : q ≡ n = h q refl in cc

pub is_member-place : (k : ℕ) (js : List ℕ) → place_in k js ≡ None → is_member k js ≡ false
is_member-place k [] e = refl
is_member-place k (j ∷ js) e = step (j == k) (place_in k js) (is_member-place k js) e
  where
    step : (b : Bool) (o : Option ℕ) → (o ≡ None → is_member k js ≡ false) → cond b (Some 0) (option_map (λ x. suc x) o) ≡ None → cond b true (is_member k js) ≡ false
    step true o h e = cc
    step false None h e = h refl
    step false (Some q) h e = cc

pub is_member-placed : (k : ℕ) (js : List ℕ) (p : ℕ) → place_in k js ≡ Some p → is_member k js ≡ true
is_member-placed k [] p e = cc
is_member-placed k (j ∷ js) p e = step (j == k) (place_in k js) (is_member-placed k js) e
  where
    step : (b : Bool) (o : Option ℕ) → ((q : ℕ) → o ≡ Some q → is_member k js ≡ true) → cond b (Some 0) (option_map (λ x. suc x) o) ≡ Some p → cond b true (is_member k js) ≡ true
    step true o h e = refl
    step false None h e = cc
    step false (Some q) h e = h q refl

-- ---- places by number

pub length-with_place : (ps : List (Option ℕ)) (k place : ℕ) → length (with_place ps k place) ≡ length ps
length-with_place [] k place = refl
length-with_place (None ∷ ps) zero place = refl
length-with_place (Some p ∷ ps) zero place = refl
length-with_place (None ∷ ps) (suc k) place = ap suc (length-with_place ps k place)
length-with_place (Some p ∷ ps) (suc k) place = ap suc (length-with_place ps k place)

other : (o : Option ℕ) (place : ℕ) → o ≡ or_there o false place
other None place = refl
other (Some p) place = refl

apart : (j : ℕ) → (0 == suc j) ≡ false
apart j = grind arith

one_less : (k j : ℕ) → (k == j) ≡ (suc k == suc j)
one_less k j = grind arith

zero_apart : (k : ℕ) → (suc k == 0) ≡ false
zero_apart k = grind arith

away : (o : Option ℕ) (place : ℕ) (b : Bool) → b ≡ false → o ≡ or_there o b place
away o place true e = cc
away o place false e = other o place

pub get_or-with_place : (ps : List (Option ℕ)) (k place j : ℕ) → j < length ps → get_or (with_place ps k place) j None ≡ or_there (get_or ps j None) (k == j) place
get_or-with_place [] k place j lt = absurd (omega arith)
get_or-with_place (None ∷ ps) zero place zero lt = refl
get_or-with_place (None ∷ ps) zero place (suc j) lt = away (get_or ps j None) place _ (apart j)
get_or-with_place (Some p ∷ ps) zero place zero lt = refl
get_or-with_place (Some p ∷ ps) zero place (suc j) lt = away (get_or ps j None) place _ (apart j)
get_or-with_place (None ∷ ps) (suc k) place zero lt = away None place _ (zero_apart k)
get_or-with_place (Some p ∷ ps) (suc k) place zero lt = away (Some p) place _ (zero_apart k)
get_or-with_place (None ∷ ps) (suc k) place (suc j) lt = get_or-with_place ps k place j (omega arith) ∙ ap (λ b. or_there (get_or ps j None) b place) (one_less k j)
get_or-with_place (Some p ∷ ps) (suc k) place (suc j) lt = get_or-with_place ps k place j (omega arith) ∙ ap (λ b. or_there (get_or ps j None) b place) (one_less k j)

pub set_free : (ps : List (Option ℕ)) (k place : ℕ) → Some None ≡ slice_get ps k → slice_set ps k (Some place) ≡ with_place ps k place
set_free [] k place e = refl
set_free (None ∷ ps) zero place e = refl
set_free (Some p ∷ ps) zero place e = cc
set_free (None ∷ ps) (suc k) place e = ap (λ xs. None ∷ xs) (set_free ps k place e)
set_free (Some p ∷ ps) (suc k) place e = ap (λ xs. Some p ∷ xs) (set_free ps k place e)

pub is_inside : (ps : List (Option ℕ)) (k : ℕ) (o : Option ℕ) → Some o ≡ slice_get ps k → k < length ps
is_inside [] k o e = cc
is_inside (p ∷ ps) zero o e = omega arith
is_inside (p ∷ ps) (suc k) o e = let h : k < length ps = is_inside ps k o e in omega arith

-- the same, read with a default
pub slice_get-inside : (ps : List (Option ℕ)) (k : ℕ) → k < length ps → slice_get ps k ≡ Some (get_or ps k None)
slice_get-inside [] k lt = absurd (omega arith)
slice_get-inside (p ∷ ps) zero lt = refl
slice_get-inside (p ∷ ps) (suc k) lt = slice_get-inside ps k (omega arith)

pub stays_taken : (ps : List (Option ℕ)) (k place q : ℕ) → Some (Some q) ≡ slice_get ps k → ps ≡ with_place ps k place
stays_taken [] k place q e = refl
stays_taken (None ∷ ps) zero place q e = cc
stays_taken (Some p ∷ ps) zero place q e = refl
stays_taken (None ∷ ps) (suc k) place q e = ap (λ xs. None ∷ xs) (stays_taken ps k place q e)
stays_taken (Some p ∷ ps) (suc k) place q e = ap (λ xs. Some p ∷ xs) (stays_taken ps k place q e)

pub stays_outside : (ps : List (Option ℕ)) (k place : ℕ) → None ≡ slice_get ps k → ps ≡ with_place ps k place
stays_outside [] k place e = refl
stays_outside (None ∷ ps) zero place e = cc
stays_outside (Some p ∷ ps) zero place e = refl
stays_outside (None ∷ ps) (suc k) place e = ap (λ xs. None ∷ xs) (stays_outside ps k place e)
stays_outside (Some p ∷ ps) (suc k) place e = ap (λ xs. Some p ∷ xs) (stays_outside ps k place e)

pub read_place : (numbers : List ℕ) (places : List (Option ℕ)) (k : ℕ) (o : Option ℕ) → IsOrder numbers places → Some o ≡ slice_get places k → o ≡ place_in k numbers
read_place numbers places k o h e =
    let lt : k < length places = is_inside places k o e in
    let read : Some o ≡ Some (get_or places k None) = e ∙ slice_get-inside places k lt in
    let same : o ≡ get_or places k None = cc in
    same ∙ h.placed k lt

pub added : (numbers : List ℕ) (places : List (Option ℕ)) (k : ℕ) → IsOrder numbers places → length numbers < 2 ^ 32 - 1 → IsOrder (numbers ++ k ∷ []) (with_place places k (length numbers))
added numbers places k h few = record {
  placed = λ j lt. get_or-with_place places k (length numbers) j (subst (λ n. j < n) (length-with_place places k (length numbers)) lt)
      ∙ ap (λ o. or_there o (k == j) (length numbers)) (h.placed j (subst (λ n. j < n) (length-with_place places k (length numbers)) lt))
      ∙ sym (place_in-append j numbers k);
  few = omega (arith, length-append numbers (k ∷ []));
}

-- ---- the numbers that are not closed

pub with_open-free : (numbers : List ℕ) (k : ℕ) → None ≡ place_in k numbers → numbers ++ k ∷ [] ≡ with_open numbers k
with_open-free numbers k e = step (place_in k numbers) e
  where
    step : (o : Option ℕ) → None ≡ o → numbers ++ k ∷ [] ≡ (elim o [ None ↦ numbers ++ k ∷ [] | Some p ↦ numbers ])
    step None e = refl
    step (Some p) e = cc

pub with_open-placed : (numbers : List ℕ) (k p : ℕ) → Some p ≡ place_in k numbers → numbers ≡ with_open numbers k
with_open-placed numbers k p e = step (place_in k numbers) e
  where
    step : (o : Option ℕ) → Some p ≡ o → numbers ≡ (elim o [ None ↦ numbers ++ k ∷ [] | Some q ↦ numbers ])
    step None e = cc
    step (Some q) e = refl

-- The numbers from k on are as they were among the closed ones, and those that are left make the whole order.
pub record Opens (closed : List ℕ) (count : ℕ) (numbers : List ℕ) (k : ℕ) : Type 0 where
  pub rest : numbers ++ open_from closed k (count - k) ≡ order_of closed count
  pub same : (j : ℕ) → k ≤ j → place_in j numbers ≡ place_in j closed

pub opens : (closed : List ℕ) (count : ℕ) → Opens closed count closed 0
opens closed count = let all : count - 0 ≡ count = omega arith in record { rest = ap (λ n. closed ++ open_from closed 0 n) all; same = λ j le. refl }

open_step : (closed : List ℕ) (k n : ℕ) (numbers : List ℕ) → place_in k numbers ≡ place_in k closed → numbers ++ open_from closed k (suc n) ≡ with_open numbers k ++ open_from closed (k + 1) n
open_step closed k n numbers e = step (place_in k numbers) (place_in k closed) e refl
  where
    step : (o q : Option ℕ) → o ≡ q → q ≡ place_in k closed → numbers ++ open_from closed k (suc n) ≡ (elim o [ None ↦ numbers ++ k ∷ [] | Some p ↦ numbers ]) ++ open_from closed (k + 1) n
    step None None e h = ap (λ b. numbers ++ cond b (open_from closed (k + 1) n) (k ∷ open_from closed (k + 1) n)) (is_member-place k closed (sym h)) ∙ sym (append_assoc numbers (k ∷ []) (open_from closed (k + 1) n))
    step (Some p) (Some q) e h = ap (λ b. numbers ++ cond b (open_from closed (k + 1) n) (k ∷ open_from closed (k + 1) n)) (is_member-placed k closed q (sym h))
    step None (Some q) e h = cc
    step (Some p) None e h = cc

pub opens_step : (closed : List ℕ) (count : ℕ) (numbers : List ℕ) (k : ℕ) → k < count → Opens closed count numbers k → Opens closed count (with_open numbers k) (k + 1)
opens_step closed count numbers k lt h =
    let left : count - k ≡ suc (count - (k + 1)) = omega arith in record {
      rest = sym (open_step closed k (count - (k + 1)) numbers (h.same k (omega arith))) ∙ ap (λ n. numbers ++ open_from closed k n) (sym left) ∙ h.rest;
      same = λ j le. stays (place_in k numbers) j (omega arith) ∙ h.same j (omega arith);
    }
  where
    apart : (j : ℕ) → k < j → (k == j) ≡ false
    apart j lt = grind arith

    stays : (o : Option ℕ) (j : ℕ) → k < j → place_in j (elim o [ None ↦ numbers ++ k ∷ [] | Some p ↦ numbers ]) ≡ place_in j numbers
    stays None j lt = place_in-append j numbers k ∙ ap (λ b. or_there (place_in j numbers) b (length numbers)) (apart j lt) ∙ sym (other (place_in j numbers) (length numbers))
    stays (Some p) j lt = refl

pub opens_end : (closed : List ℕ) (count : ℕ) (numbers : List ℕ) → Opens closed count numbers count → numbers ≡ order_of closed count
opens_end closed count numbers h =
    let none : count - count ≡ 0 = omega arith in
    sym (append-nil numbers) ∙ ap (λ n. numbers ++ open_from closed count n) (sym none) ∙ h.rest
