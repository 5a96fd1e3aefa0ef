-- Digits of a base, and the number that they stand for.
use Rattle.std.proofs.Common.{◌≡◌, ℕ, zero, suc, ◌+◌, ◌-◌, ◌*◌, ◌^◌, ◌<◌, ◌≤◌, Bool, true, false, List, [], ◌∷◌, length, take, drop, get_or, Some, None, refl, sym, ap, ◌∙◌, arith, length-drop}
use Rattle.std.proofs.Math.Nat.{mul-le-mul_left}
use Rattle.std.specs.Prelude.{fold, option_map, int_le, pos, nat_lt, if◌then◌else◌}
use Rattle.std.proofs.lemmas.Bool.Decides.{nat_tests}
use Rattle.ec_ctypes.specs.declared.types.arith.Arith.{Arith}
use Rattle.ec_ctypes.specs.declared.types.arith.Arith.TheVariants as arith_type
use Rattle.ec_ctypes.specs.Arithmetic.{greatest}
use Rattle.ec_language.specs.Letters.{Text, is_empty}
use Rattle.ec_language.specs.Constants.{digit_value, is_digit_of, leading_digits, digits_value, Suffix, suffix_of, choices, first_fit, constant_of, based, numeric_escape}
use Rattle.ec_split.proofs.Steps.{at_place, past, later}

-- the number that digits stand for, behind digits that stand for this one
abbrev pub value_from : ℕ → ℕ → Text → ℕ
value_from base n digits = fold (λ m b. m * base + digit_value b) n digits

-- it is not less than that one
pub value_grows : (base n : ℕ) (digits : Text) → 1 ≤ base → n ≤ value_from base n digits
value_grows base n [] h = omega arith
value_grows base n (b ∷ bs) h =
    let more = value_grows base (n * base + digit_value b) bs h in
    let step : n * 1 ≤ n * base = mul-le-mul_left n h in
    omega (arith, more, step)

pub value_next : (base n i : ℕ) (digits : Text) → i < length digits
    → value_from base (n * base + digit_value (get_or digits i 0)) (drop (i + 1) digits) ≡ value_from base n (drop i digits)
value_next base n i digits h = sym (ap (value_from base n) (at_place digits i h))

-- ---- the digits that a text begins with

digits_on : (base left i : ℕ) (t : Text) → i < length t → is_digit_of base (get_or t i 0) ≡ true
    → length (leading_digits base (suc left) (drop i t)) ≡ suc (length (leading_digits base left (drop (i + 1) t)))
digits_on base left i t h e = ap (λ s. length (leading_digits base (suc left) s)) (at_place t i h) ∙ rw (e, leading_digits) refl

pub digits_next : (base most from i : ℕ) (t : Text) → i < length t → from ≤ i → i < from + most → is_digit_of base (get_or t i 0) ≡ true
    → i + 1 + length (leading_digits base (most - (i + 1 - from)) (drop (i + 1) t)) ≡ i + length (leading_digits base (most - (i - from)) (drop i t))
digits_next base most from i t h order few e =
    let left : ℕ = most - (i + 1 - from) in
    let one : most - (i - from) ≡ suc left = omega arith in
    let step = digits_on base left i t h e in
    let same = ap (λ n. length (leading_digits base n (drop i t))) one in
    omega (arith, step, same)

pub digits_off : (base left i : ℕ) (t : Text) → i < length t → is_digit_of base (get_or t i 0) ≡ false → length (leading_digits base left (drop i t)) ≡ 0
digits_off base zero i t h e = refl
digits_off base (suc left) i t h e = ap (λ s. length (leading_digits base (suc left) s)) (at_place t i h) ∙ rw (e, leading_digits) refl

pub digits_full : (base left i : ℕ) (t : Text) → left ≡ 0 → length (leading_digits base left (drop i t)) ≡ 0
digits_full base left i t e = ap (λ n. length (leading_digits base n (drop i t))) e

pub digits_stop : (base left i : ℕ) (t : Text) → length t ≤ i → length (leading_digits base left (drop i t)) ≡ 0
digits_stop base zero i t h = refl
digits_stop base (suc left) i t h = ap (λ s. length (leading_digits base (suc left) s)) (past t i h)

-- they are the front of the text
pub digits_front : (base most : ℕ) (s : Text) → take (length (leading_digits base most s)) s ≡ leading_digits base most s
digits_front base zero s = refl
digits_front base (suc most) [] = refl
digits_front base (suc most) (b ∷ s) = step (is_digit_of base b) (leading_digits base most s) (digits_front base most s)
  where
    step : (x : Bool) (ds : Text) → take (length ds) s ≡ ds
        → take (length {A = ℕ} (elim x as (λ _. Text) [ true ↦ b ∷ ds | false ↦ [] ])) (b ∷ s) ≡ elim x as (λ _. Text) [ true ↦ b ∷ ds | false ↦ [] ]
    step true ds e = ap (λ w. b ∷ w) e
    step false ds e = refl

-- the digits that a text begins with at an index, up to their end
pub digits_between : (base most from end : ℕ) (t : Text) → end ≡ from + length (leading_digits base most (drop from t))
    → take (end - from) (drop from t) ≡ leading_digits base most (drop from t)
digits_between base most from end t e =
    let n : end - from ≡ length (leading_digits base most (drop from t)) = omega arith in
    ap (λ k. take k (drop from t)) n ∙ digits_front base most (drop from t)

pub behind_digits : (base most from end : ℕ) (t : Text) → end ≡ from + length (leading_digits base most (drop from t))
    → drop (length (leading_digits base most (drop from t))) (drop from t) ≡ drop end t
behind_digits base most from end t e = later (length (leading_digits base most (drop from t))) from t ∙ ap (λ k. drop k t) (sym e)

empty_none : (s : Text) → length s ≡ 0 → is_empty s ≡ true
empty_none [] h = refl
empty_none (b ∷ s) h = absurd (omega arith)

empty_some : (s : Text) → 0 < length s → is_empty s ≡ false
empty_some [] h = absurd (omega arith)
empty_some (b ∷ s) h = refl

take_all : (n : ℕ) (s : Text) → length s ≤ n → take n s ≡ s
take_all zero [] h = refl
take_all (suc n) [] h = refl
take_all zero (b ∷ s) h = absurd (omega arith)
take_all (suc n) (b ∷ s) h = ap (λ w. b ∷ w) (take_all n s (omega arith))

-- a slice to the end
pub to_end : (t : Text) (i : ℕ) → take (length t - i) (drop i t) ≡ drop i t
to_end t i = take_all (length t - i) (drop i t) (omega (arith, length-drop i t))

-- ---- integers

pub based_nothing : (base : ℕ) (decimal : Bool) (from end : ℕ) (t : Text) → end ≡ from + length (leading_digits base (length t - from) (drop from t)) → end ≡ from
    → None ≡ based base decimal (drop from t)
based_nothing base decimal from end t e none =
    let n : length (drop from t) ≡ length t - from = length-drop from t in
    let zero_long : length (leading_digits base (length t - from) (drop from t)) ≡ 0 = omega arith in
    let same = ap (λ k. leading_digits base k (drop from t)) n in
    let empty : is_empty (leading_digits base (length (drop from t)) (drop from t)) ≡ true = empty_none (leading_digits base (length (drop from t)) (drop from t)) (ap length same ∙ zero_long) in
    sym (rw empty refl)

-- what digits and a suffix are, by where they end
pub based_digits : (base : ℕ) (decimal : Bool) (from end : ℕ) (t : Text) → end ≡ from + length (leading_digits base (length t - from) (drop from t)) → (end ≡ from → ⊥)
    → based base decimal (drop from t) ≡ constant_of decimal (take (end - from) (drop from t)) (suffix_of (take (length t - end) (drop end t))) base
based_digits base decimal from end t e some =
    let n : length (drop from t) ≡ length t - from = length-drop from t in
    let same = ap (λ k. leading_digits base k (drop from t)) n in
    let front = digits_between base (length t - from) from end t e in
    let behind = behind_digits base (length t - from) from end t e in
    let long : 0 < length (leading_digits base (length (drop from t)) (drop from t)) = omega (arith, ap length same) in
    let full = empty_some (leading_digits base (length (drop from t)) (drop from t)) long in
    rw full (ap (λ ds. constant_of decimal ds (suffix_of (drop (length ds) (drop from t))) base) same
    ∙ ap (λ rest. constant_of decimal (leading_digits base (length t - from) (drop from t)) (suffix_of rest) base) (behind ∙ sym (to_end t end))
    ∙ ap (λ ds. constant_of decimal ds (suffix_of (take (length t - end) (drop end t))) base) (sym front))

too_great : (n : ℕ) (t : Arith) → 2 ^ 64 ≤ n → int_le (pos n) (greatest t) ≡ false
too_great n arith_type.Bool h = grind arith
too_great n arith_type.Char h = grind arith
too_great n arith_type.UChar h = grind arith
too_great n arith_type.Short h = grind arith
too_great n arith_type.UShort h = grind arith
too_great n arith_type.Int h = grind arith
too_great n arith_type.UInt h = grind arith
too_great n arith_type.Long h = grind arith
too_great n arith_type.ULong h = grind arith
too_great n arith_type.LLong h = grind arith
too_great n arith_type.ULLong h = grind arith

no_fit : (n : ℕ) (types : List Arith) → 2 ^ 64 ≤ n → first_fit n types ≡ None
no_fit n [] h = refl
no_fit n (t ∷ types) h = rw (too_great n t h) (no_fit n types h)

-- a number of more than 64 bits has no type
pub no_constant : (decimal : Bool) (digits : Text) (suffix : Suffix) (base : ℕ) → 2 ^ 64 ≤ digits_value base digits → constant_of decimal digits (Some suffix) base ≡ None
no_constant decimal digits suffix base h = ap (λ o. option_map (λ t. (digits_value base digits, t)) o) (no_fit (digits_value base digits) (choices decimal suffix) h)

-- ---- escapes

pub numeric_digits : (base most from end : ℕ) (t : Text) → end ≡ from + length (leading_digits base most (drop from t)) → (end ≡ from → ⊥)
    → numeric_escape base most (drop from t)
    ≡ (if nat_lt 255 (digits_value base (take (end - from) (drop from t))) then None else Some (digits_value base (take (end - from) (drop from t)), drop end t))
numeric_digits base most from end t e some =
    let front = digits_between base most from end t e in
    let behind = behind_digits base most from end t e in
    let long : 0 < length (leading_digits base most (drop from t)) = omega arith in
    let full = empty_some (leading_digits base most (drop from t)) long in
    rw (full, behind) (ap (λ (ds : Text). if nat_lt 255 (digits_value base ds) then None else Some (digits_value base ds, drop end t)) (sym front))

byte_fits : (n : ℕ) → n ≤ 255 → nat_lt 255 n ≡ false
byte_fits n h = grind (arith, nat_tests)

byte_great : (n : ℕ) → 255 < n → nat_lt 255 n ≡ true
byte_great n h = grind (arith, nat_tests)

pub escape_is : (base most from end n : ℕ) (t : Text) → end ≡ from + length (leading_digits base most (drop from t)) → (end ≡ from → ⊥) → n ≡ digits_value base (take (end - from) (drop from t)) → n ≤ 255
    → Some (n, drop end t) ≡ numeric_escape base most (drop from t)
escape_is base most from end n t e some same h =
    sym (numeric_digits base most from end t e some ∙ rw (← same) (ap (λ (x : Bool). if x then None else Some (n, drop end t)) (byte_fits n h)))

pub escape_great : (base most from end n : ℕ) (t : Text) → end ≡ from + length (leading_digits base most (drop from t)) → (end ≡ from → ⊥) → n ≤ digits_value base (take (end - from) (drop from t)) → 255 < n
    → None ≡ numeric_escape base most (drop from t)
escape_great base most from end n t e some same h =
    let m : ℕ = digits_value base (take (end - from) (drop from t)) in
    sym (numeric_digits base most from end t e some ∙ ap (λ (x : Bool). if x then None else Some (m, drop end t)) (byte_great m (omega arith)))
