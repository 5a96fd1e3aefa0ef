-- Numbers of any size are read as they are written, and only so.
use Rattle.std.proofs.Common.{◌≡◌, ◌∙◌, ◌++◌, ◌∷◌, [], ◌<◌, ◌≤◌, ◌+◌, ◌-◌, ◌*◌, ◌/◌, ◌%◌, ◌^◌, ◌==◌, ◌&&◌, ℕ, zero, suc, Bool, true, false, Some, None, refl, ap, ap₂, sym, arith, append_assoc, append-nil, subst, cond, nat_lt}
use Rattle.std.specs.Prelude.{not}
use Rattle.std.specs.Char.{is_ascii_digit}
use Rattle.std.specs.Fmt.{decimal}
use Rattle.std.proofs.lemmas.Fmt.{decimal_by_steps}
use Rattle.std.proofs.lemmas.Bool.Decides.{nat_tests}
use Rattle.ec_transcript.specs.Text.{Bytes, digits_of, numeral}
use Rattle.ec_transcript.specs.Lines.{value, all_digits, is_numeral, count_of}

-- ---- as they are written

digits_alike : (a b n : ℕ) → n < a → n < b → digits_of a n ≡ digits_of b n
digits_alike zero b n l m = absurd (omega arith)
digits_alike (suc a) zero n l m = absurd (omega arith)
digits_alike (suc a) (suc b) n l m = go (nat_lt n 10) refl (λ h. digits_alike a b (n / 10) (omega arith) (omega arith))
  where
    go : (t : Bool) → nat_lt n 10 ≡ t → (10 ≤ n → digits_of a (n / 10) ≡ digits_of b (n / 10))
        → cond t ((48 + n) ∷ []) (digits_of a (n / 10) ++ (48 + n % 10) ∷ []) ≡ cond t ((48 + n) ∷ []) (digits_of b (n / 10) ++ (48 + n % 10) ∷ [])
    go true t more = refl
    go false t more =
        let high : 10 ≤ n = grind (arith, nat_tests) in
        ap (λ ds. ds ++ (48 + n % 10) ∷ []) (more high)

pub numeral_small : (n : ℕ) → n < 10 → numeral n ≡ (48 + n) ∷ []
unfolding numeral
numeral_small n small =
    let test : nat_lt n 10 ≡ true = grind (arith, nat_tests) in
    rw test refl

pub numeral_step : (n : ℕ) → 10 ≤ n → numeral n ≡ numeral (n / 10) ++ (48 + n % 10) ∷ []
unfolding numeral
numeral_step n high =
    let test : nat_lt n 10 ≡ false = grind (arith, nat_tests) in
    rw test (ap (λ ds. ds ++ (48 + n % 10) ∷ []) (digits_alike n (suc (n / 10)) (n / 10) (omega arith) (omega arith)))

-- what holds of the digits of each number
pub numeral_by_steps : (P : ℕ → Bytes → Type 0) → ((n : ℕ) → n < 10 → P n ((48 + n) ∷ []))
    → ((n : ℕ) (ds : Bytes) → 10 ≤ n → P (n / 10) ds → P n (ds ++ (48 + n % 10) ∷ [])) → (n : ℕ) → P n (numeral n)
numeral_by_steps P one more n = by_fuel (suc n) n (omega arith)
  where
    by_fuel : (left n : ℕ) → n < left → P n (numeral n)
    by_fuel zero n l = absurd (omega arith)
    by_fuel (suc left) n l = go (nat_lt n 10) refl (λ h. by_fuel left (n / 10) (omega arith))
      where
        go : (t : Bool) → nat_lt n 10 ≡ t → (10 ≤ n → P (n / 10) (numeral (n / 10))) → P n (numeral n)
        go true t deeper =
            let small : n < 10 = grind (arith, nat_tests) in
            subst (P n) (sym (numeral_small n small)) (one n small)
        go false t deeper =
            let high : 10 ≤ n = grind (arith, nat_tests) in
            subst (P n) (sym (numeral_step n high)) (more n (numeral (n / 10)) high (deeper high))

-- std's writing of a number below 2 ^ 64 is this one
pub numeral_decimal : (n : ℕ) → n < 2 ^ 64 → numeral n ≡ decimal n
numeral_decimal = decimal_by_steps (λ n ds. numeral n ≡ ds) numeral_small
    (λ n ds high e. numeral_step n high ∙ ap (λ ds. ds ++ (48 + n % 10) ∷ []) e)

-- ---- as they are read

value_append : (n : ℕ) (xs ys : Bytes) → value n (xs ++ ys) ≡ value (value n xs) ys
value_append n [] ys = refl
value_append n (x ∷ xs) ys = value_append (10 * n + (x - 48)) xs ys

pub value_numeral : (n : ℕ) → value 0 (numeral n) ≡ n
value_numeral = numeral_by_steps (λ n ds. value 0 ds ≡ n) (λ n small. omega arith)
    (λ n ds high e. value_append 0 ds ((48 + n % 10) ∷ []) ∙ ap (λ k. 10 * k + (48 + n % 10 - 48)) e ∙ omega arith)

is_digit : (d : ℕ) → d < 10 → is_ascii_digit (48 + d) ≡ true
is_digit d small = grind (arith, nat_tests)

digits_last : (ds : Bytes) (d : ℕ) → all_digits ds ≡ true → is_ascii_digit d ≡ true → all_digits (ds ++ d ∷ []) ≡ true
digits_last [] d e is = rw is refl
digits_last (c ∷ ds) d e is = go (is_ascii_digit c) e (λ all. digits_last ds d all is)
  where
    go : (b : Bool) → (b && all_digits ds) ≡ true → (all_digits ds ≡ true → all_digits (ds ++ d ∷ []) ≡ true) → (b && all_digits (ds ++ d ∷ [])) ≡ true
    go true e more = more e
    go false e more = cc

digits_numeral : (n : ℕ) → all_digits (numeral n) ≡ true
digits_numeral = numeral_by_steps (λ n ds. all_digits ds ≡ true) (λ n small. rw (is_digit n small) refl)
    (λ n ds high e. digits_last ds (48 + n % 10) e (is_digit (n % 10) (omega arith)))

-- the first digit isn't 0
abbrev leads : Bytes → Bool
leads [] = false
leads (d ∷ ds) = not (d == 48)

leads_last : (ds : Bytes) (d : ℕ) → leads ds ≡ true → leads (ds ++ d ∷ []) ≡ true
leads_last [] d e = cc
leads_last (c ∷ ds) d e = e

leads_numeral : (n : ℕ) → 0 < n → leads (numeral n) ≡ true
leads_numeral = numeral_by_steps (λ n ds. 0 < n → leads ds ≡ true)
    (λ n small some. let e : 48 + n == 48 ≡ false = grind (arith, nat_tests) in rw e refl)
    (λ n ds high e some. leads_last ds (48 + n % 10) (e (omega arith)))

is_lead : (ds : Bytes) → leads ds ≡ true → all_digits ds ≡ true → is_numeral ds ≡ true
is_lead [] l e = cc
is_lead (d ∷ []) l e = go (is_ascii_digit d) e
  where
    go : (b : Bool) → (b && true) ≡ true → b ≡ true
    go true e = refl
    go false e = cc
is_lead (d ∷ c ∷ ds) l e = rw (l, e) refl

numeral_is : (n : ℕ) → is_numeral (numeral n) ≡ true
numeral_is zero = rw (numeral_small 0 (omega arith)) refl
numeral_is (suc n) = is_lead (numeral (suc n)) (leads_numeral (suc n) (omega arith)) (digits_numeral (suc n))

pub count_again : (n : ℕ) → count_of (numeral n) ≡ Some n
count_again n = rw (numeral_is n) (ap Some (value_numeral n))

digit_range : (d : ℕ) → is_ascii_digit d ≡ true → (48 ≤ d) × (d < 58)
digit_range d e = (grind (arith, nat_tests), grind (arith, nat_tests))

both : (a b : Bool) → (a && b) ≡ true → (a ≡ true) × (b ≡ true)
both true b e = (refl, e)
both false b e = cc

-- more digits behind a number
value_more : (n : ℕ) (ds : Bytes) → 0 < n → all_digits ds ≡ true → numeral (value n ds) ≡ numeral n ++ ds
value_more n [] some e = sym (append-nil (numeral n))
value_more n (d ∷ ds) some e =
    let two = both (is_ascii_digit d) (all_digits ds) e in
    let range = digit_range d two.0 in
    let m : ℕ = 10 * n + (d - 48) in
    let high : m / 10 ≡ n = omega arith in
    let low : 48 + m % 10 ≡ d = omega arith in
    value_more m ds (omega arith) two.1
    ∙ ap (λ xs. xs ++ ds) (numeral_step m (omega arith) ∙ ap₂ (λ k c. numeral k ++ c ∷ []) high low)
    ∙ append_assoc (numeral n) (d ∷ []) ds

first_numeral : (d : ℕ) → is_ascii_digit d ≡ true → numeral (10 * 0 + (d - 48)) ≡ d ∷ []
first_numeral d e =
    let range = digit_range d e in
    let same : 48 + (10 * 0 + (d - 48)) ≡ d = omega arith in
    numeral_small (10 * 0 + (d - 48)) (omega arith) ∙ ap (λ c. c ∷ []) same

not_zero : (d : ℕ) → not (d == 48) ≡ true → is_ascii_digit d ≡ true → 0 < 10 * 0 + (d - 48)
not_zero d n e = go (d == 48) refl n
  where
    go : (b : Bool) → d == 48 ≡ b → not b ≡ true → 0 < 10 * 0 + (d - 48)
    go true is n = cc
    go false is n = let range = digit_range d e in grind (arith, nat_tests)

pub numeral_value : (w : Bytes) → is_numeral w ≡ true → numeral (value 0 w) ≡ w
numeral_value [] e = cc
numeral_value (d ∷ []) e = first_numeral d e
numeral_value (d ∷ c ∷ ds) e =
    let two = both (not (d == 48)) (all_digits (d ∷ c ∷ ds)) e in
    let digits = both (is_ascii_digit d) (all_digits (c ∷ ds)) two.1 in
    value_more (10 * 0 + (d - 48)) (c ∷ ds) (not_zero d two.0 digits.0) digits.1
    ∙ ap (λ xs. xs ++ c ∷ ds) (first_numeral d digits.0)

pub count_found : (w : Bytes) (n : ℕ) → count_of w ≡ Some n → w ≡ numeral n
count_found w n e = go (is_numeral w) refl e
  where
    go : (b : Bool) → is_numeral w ≡ b → cond b (Some (value 0 w)) None ≡ Some n → w ≡ numeral n
    go true is e =
        let same : value 0 w ≡ n = cc in
        sym (numeral_value w is) ∙ ap numeral same
    go false is e = cc
