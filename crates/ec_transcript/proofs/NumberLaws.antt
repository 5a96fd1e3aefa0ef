-- Numbers below 2 ^ 64 are read as they are written, and only so.
use Rattle.std.proofs.Common.{◌≡◌, ◌∙◌, ◌++◌, ◌∷◌, [], ◌<◌, ◌≤◌, ◌+◌, ◌-◌, ◌*◌, ◌/◌, ◌%◌, ◌^◌, ◌&&◌, ℕ, Bool, true, false, Option, Some, None, refl, ap, sym, arith, append_assoc, append-nil, subst, cond, nat_lt}
use Rattle.std.specs.Char.{is_ascii_digit}
use Rattle.std.specs.Fmt.{decimal}
use Rattle.std.specs.Str.{bytes_eq}
use Rattle.std.proofs.lemmas.Slice.Eq.{bytes_eq-Decides}
use Rattle.std.proofs.lemmas.Fmt.{decimal_by_steps}
use Rattle.std.proofs.lemmas.Bool.Decides.{nat_tests}
use Rattle.ec_transcript.specs.Text.{Bytes}
use Rattle.ec_transcript.specs.declared.stop.LineStop.{LineStop}
use Rattle.ec_transcript.specs.declared.stop.LineStop.TheVariants as stops
use Rattle.ec_transcript.specs.Reading.{◌>>=◌, FailsAs}
use Rattle.ec_transcript.specs.Lines.{value, value_on, number_of, is_numeral, Counted}
use Rattle.ec_transcript.proofs.Numerals.{numeral_decimal, numeral_value, value_numeral}

some_is : {A : Type 0} {x y : A} → Some x ≡ Some y → x ≡ y
some_is e = cc

pub bind_some : {A B : Type 0} (r : Option A) (f : A → Option B) (y : B) → (r >>= f) ≡ Some y → (x : A) × (r ≡ Some x) × (f x ≡ Some y)
bind_some None f y e = cc
bind_some (Some x) f y e = (x, refl, e)

digit_on : (n d : ℕ) (rest : Bytes) → d < 10 → 10 * n + d < 2 ^ 64 → value_on n ((48 + d) ∷ rest) ≡ value_on (10 * n + d) rest
digit_on n d rest small fits =
    let digit : is_ascii_digit (48 + d) ≡ true = grind (arith, nat_tests) in
    let worth : 48 + d - 48 ≡ d = omega arith in
    let test : nat_lt (10 * n + d) (2 ^ 64) ≡ true = grind (arith, nat_tests) in
    rw (digit, worth, test) refl

value_decimal : (n : ℕ) → n < 2 ^ 64 → (rest : Bytes) → value_on 0 (decimal n ++ rest) ≡ value_on n rest
value_decimal n fits = decimal_by_steps (λ n ds. n < 2 ^ 64 → (rest : Bytes) → value_on 0 (ds ++ rest) ≡ value_on n rest)
    (λ n small f rest. digit_on 0 n rest small (omega arith) ∙ ap (λ k. value_on k rest) (omega arith))
    (λ n ds le more f rest.
    ap (value_on 0) (append_assoc ds ((48 + n % 10) ∷ []) rest) ∙ more (omega arith) ((48 + n % 10) ∷ rest)
    ∙ digit_on (n / 10) (n % 10) rest (omega arith) (omega arith) ∙ ap (λ k. value_on k rest) (omega arith))
    n fits fits

pub number_again : (n : ℕ) → n < 2 ^ 64 → number_of (decimal n) ≡ Some n
number_again n fits =
    let value : value_on 0 (decimal n) ≡ Some n = ap (value_on 0) (sym (append-nil (decimal n))) ∙ value_decimal n fits [] in
    let same : bytes_eq (decimal n) (decimal n) ≡ true = (bytes_eq-Decides (decimal n) (decimal n)).1 refl in
    rw (value, same) refl

value_small : (n m : ℕ) (ds : Bytes) → n < 2 ^ 64 → value_on n ds ≡ Some m → m < 2 ^ 64
value_small n m [] small e = subst (λ k. k < 2 ^ 64) (some_is e) small
value_small n m (d ∷ ds) small e = go (is_ascii_digit d) (nat_lt (10 * n + (d - 48)) (2 ^ 64)) refl (value_small (10 * n + (d - 48)) m ds) e
  where
    go : (a b : Bool) → nat_lt (10 * n + (d - 48)) (2 ^ 64) ≡ b → (10 * n + (d - 48) < 2 ^ 64 → value_on (10 * n + (d - 48)) ds ≡ Some m → m < 2 ^ 64)
        → cond (a && b) (value_on (10 * n + (d - 48)) ds) None ≡ Some m → m < 2 ^ 64
    go true true t more e = more (grind (arith, nat_tests)) e
    go true false t more e = cc
    go false b t more e = cc

pub number_found : (w : Bytes) (n : ℕ) → number_of w ≡ Some n → (w ≡ decimal n) × (n < 2 ^ 64)
number_found w n e =
    let m = bind_some _ _ _ e in
    let tested = chosen (bytes_eq w (decimal m.0)) refl m.2 in
    let same : m.0 ≡ n = tested.1 in
    ((bytes_eq-Decides w (decimal m.0)).0 tested.0 ∙ ap decimal same, subst (λ k. k < 2 ^ 64) same (value_small 0 m.0 w (omega arith) m.1))
  where
    chosen : {m : ℕ} (b : Bool) → bytes_eq w (decimal m) ≡ b → cond b (Some m) None ≡ Some n → (bytes_eq w (decimal m) ≡ true) × (m ≡ n)
    chosen true is e = (is, some_is e)
    chosen false is e = cc

-- a count is kept as a number where it is one below 2 ^ 64
pub counted : (w : Bytes) (o : Option ℕ) → is_numeral w ≡ true → number_of w ≡ o → Counted (value 0 w) o
counted w (Some n) is e =
    let read = number_found w n e in
    sym (ap (value 0) (read.0 ∙ sym (numeral_decimal n read.1)) ∙ value_numeral n)
counted w None is e = go (nat_lt (value 0 w) (2 ^ 64)) refl
  where
    go : (b : Bool) → nat_lt (value 0 w) (2 ^ 64) ≡ b → 2 ^ 64 ≤ value 0 w
    go true t =
        let small : value 0 w < 2 ^ 64 = grind (arith, nat_tests) in
        let written : w ≡ decimal (value 0 w) = sym (numeral_value w is) ∙ numeral_decimal (value 0 w) small in
        let read : number_of w ≡ Some (value 0 w) = ap number_of written ∙ number_again (value 0 w) small in
        let bad : None ≡ Some (value 0 w) = sym e ∙ read in cc
    go false t = grind (arith, nat_tests)

-- the same of a copy of the digits
pub counted_copy : (w copy : Bytes) (o : Option ℕ) → copy ≡ w → is_numeral w ≡ true → number_of w ≡ o → Counted (value 0 copy) o
counted_copy w copy o same is e = subst (λ ds. Counted (value 0 ds) o) (sym same) (counted w o is e)

pub failed : (o : Option ℕ) (stop : LineStop) → stop ≡ stops.Bad → FailsAs stop o → o ≡ None
failed o stops.Bad e f = f
failed o stops.OutOfMemory e f = cc
