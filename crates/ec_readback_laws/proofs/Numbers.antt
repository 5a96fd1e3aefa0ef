-- Integer constants are read back from their decimal digits.
use Rattle.std.proofs.Common.{◌≡◌, ℕ, zero, suc, ◌+◌, ◌-◌, ◌*◌, ◌%◌, ◌^◌, ◌≤◌, ◌<◌, Bool, true, false, ◌&&◌, List, [], ◌∷◌, ◌++◌, length, drop, get_or, refl, ap, ◌∙◌, arith, Option, Some, None, Result, Ok, length-append}
use Rattle.std.specs.Prelude.{codes, nat_eq, nat_lt, ◌||◌, pos, int_le, fold, option_map, if◌then◌else◌}
use Rattle.std.specs.Fmt.{decimal, digits}
use Rattle.std.proofs.lemmas.Bool.{false≢true}
use Rattle.std.proofs.lemmas.List.{drop_at}
use Rattle.std.proofs.lemmas.Bool.Decides.{nat_tests}
use Rattle.std.proofs.lemmas.Fmt.{decimal_by_steps, first_decimal}
use Rattle.ec_base.specs.declared.fault.FaultKind.{FaultKind}
use Rattle.ec_ctypes.specs.declared.types.arith.Arith.{Arith}
use Rattle.ec_ctypes.specs.declared.types.arith.Arith.TheVariants.{Int, UInt, Long, ULong, LLong, ULLong}
use Rattle.ec_ctypes.specs.trees.Types.{TyData, arithmetic, void, pointer, array, structure}
use Rattle.ec_ctypes.specs.trees.Tokens.{TokData, integer_token}
use Rattle.ec_language.specs.Letters.{Text, is_digit, is_upper, is_lower, is_empty, begins, begins_with, each}
use Rattle.ec_language.specs.Constants.{digit_value, is_digit_of, leading_digits, digits_value, Suffix, suffix_of, choices, first_fit, constant_of, based, integer_constant}
use Rattle.ec_language.specs.Tokens.{integer_tok}
use Rattle.ec_language.proofs.Ends.{both}
use Rattle.ec_writing_defs.specs.Chunks.{suffix}
use Rattle.ec_writing_defs.specs.Shapes.{is_constant_type, most_of, fits_type}

-- ---- decimal digits

fold_last : {A B : Type 0} (f : A → B → A) (a : A) (bs : List B) (b : B) → fold f a (bs ++ b ∷ []) ≡ f (fold f a bs) b
fold_last f a [] b = refl
fold_last f a (c ∷ bs) b = fold_last f (f a c) bs b

each_last : (test : ℕ → Bool) (bs : Text) (b : ℕ) → each test bs ≡ true → test b ≡ true → each test (bs ++ b ∷ []) ≡ true
each_last test [] b e h = λ i. h i && true
each_last test (c ∷ bs) b e h = let k = both (test c) (each test bs) e in λ i. k.0 i && each_last test bs b k.1 h i

digit_is : (n : ℕ) → n < 10 → is_digit (48 + n) ≡ true
digit_is n h = grind (arith, nat_tests)

digit_worth : (n : ℕ) → n < 10 → digit_value (48 + n) ≡ n
digit_worth n h = let e : 48 + n - 48 ≡ n = omega arith in (λ i. if digit_is n h i then 48 + n - 48 else if is_upper (48 + n) then 48 + n - 55 else 48 + n - 87) ∙ e

pub record Decimal (n : ℕ) (ds : Text) : Type 0 where
  pub digits : each is_digit ds ≡ true
  pub value : digits_value 10 ds ≡ n

first : (n : ℕ) → n < 10 → 0 * 10 + digit_value (48 + n) ≡ n
first n h = omega (arith, digit_worth n h)

pub decimal_is : (n : ℕ) → n < 2 ^ 64 → Decimal n (decimal n)
decimal_is = decimal_by_steps Decimal
    (λ n h. record { digits = λ i. digit_is n h i && true; value = first n h })
    (λ n ds le d. record {
      digits = each_last is_digit ds (48 + n % 10) d.digits (digit_is (n % 10) (omega arith));
      value = fold_last (λ m b. m * 10 + digit_value b) 0 ds (48 + n % 10) ∙ (λ i. d.value i * 10 + digit_worth (n % 10) (omega arith) i) ∙ (omega arith);
    })

-- ---- constants

leading : (k : ℕ) (ds rest : Text) → length ds ≤ k → each is_digit ds ≡ true → begins (is_digit_of 10) rest ≡ false → leading_digits 10 k (ds ++ rest) ≡ ds
leading zero [] rest le e h = refl
leading (suc k) [] [] le e h = refl
leading (suc k) [] (b ∷ bs) le e h = λ i. elim (h i) [ true ↦ b ∷ leading_digits 10 k bs | false ↦ [] ]
leading zero (d ∷ ds) rest le e h = absurd (omega arith)
leading (suc k) (d ∷ ds) rest le e h =
    let j = both (is_digit d) (each is_digit ds) e in
    let a = j.0 in
    let v : digit_value d ≡ d - 48 = λ i. if a i then d - 48 else if is_upper d then d - 55 else d - 87 in
    let t : is_digit_of 10 d ≡ true = (λ i. (a i || is_upper d || is_lower d) && nat_lt (v i) 10) ∙ (less d a) in
    (λ i. elim (t i) [ true ↦ d ∷ leading_digits 10 k (ds ++ rest) | false ↦ [] ]) ∙ ap (λ t. d ∷ t) (leading k ds rest (omega arith) j.1 h)
  where
    less : (d : ℕ) → is_digit d ≡ true → nat_lt (d - 48) 10 ≡ true
    less d a = grind (arith, nat_tests)

abbrev type_of : Bool → ℕ → Suffix → Option Arith
type_of decimal n s = first_fit n (choices decimal s)

based_is : (n : ℕ) (ds sfx : Text) (s : Suffix) → Decimal n ds → is_empty ds ≡ false → begins (is_digit_of 10) sfx ≡ false → suffix_of sfx ≡ Some s
    → based 10 true (ds ++ sfx) ≡ option_map (λ t. (n, t)) (type_of true n s)
based_is n ds sfx s d some e h =
    let l : leading_digits 10 (length (ds ++ sfx)) (ds ++ sfx) ≡ ds = leading (length (ds ++ sfx)) ds sfx (omega (arith, length-append ds sfx)) d.digits e in
    let k : suffix_of (drop (length ds) (ds ++ sfx)) ≡ Some s = ap suffix_of (drop_at ds sfx (length ds) refl) ∙ h in
    (λ i. if is_empty (l i) then None else constant_of true (l i) (suffix_of (drop (length (l i)) (ds ++ sfx))) 10)
    ∙ (λ i. if some i then None else constant_of true ds (k i) 10)
    ∙ (λ i. option_map (λ t. (d.value i, t)) (type_of true (d.value i) s))

not_zero : (n b : ℕ) (ds sfx : Text) (s : Suffix) → Decimal n (b ∷ ds) → 48 < b → begins (is_digit_of 10) sfx ≡ false → suffix_of sfx ≡ Some s
    → integer_constant (b ∷ ds ++ sfx) ≡ option_map (λ t. (n, t)) (type_of true n s)
not_zero n b ds sfx s d lt e h =
    let z : nat_eq 48 b ≡ false = grind (arith, nat_tests) in
    (λ i. if (z i && begins_with (codes "x") (ds ++ sfx)) || (z i && begins_with (codes "X") (ds ++ sfx)) then based 16 false (drop 1 (ds ++ sfx)) else if (z i && true) then based 8 false (b ∷ ds ++ sfx) else based 10 true (b ∷ ds ++ sfx))
    ∙ based_is n (b ∷ ds) sfx s d refl e h

abbrev arith_of : TyData → Arith
arith_of (arithmetic t) = t
arith_of _ = Int

abbrev suffix_is : TyData → Suffix
suffix_is (arithmetic UInt) = record { unsigned = true; longs = 0 }
suffix_is (arithmetic Long) = record { unsigned = false; longs = 1 }
suffix_is (arithmetic ULong) = record { unsigned = true; longs = 1 }
suffix_is (arithmetic LLong) = record { unsigned = false; longs = 2 }
suffix_is (arithmetic ULLong) = record { unsigned = true; longs = 2 }
suffix_is _ = record { unsigned = false; longs = 0 }

record Suffixed (t : TyData) : Type 0 where
  ends : begins (is_digit_of 10) (suffix t) ≡ false
  is : suffix_of (suffix t) ≡ Some (suffix_is t)
  type : arithmetic (arith_of t) ≡ t
  chosen : (n : ℕ) → int_le (pos n) (most_of t) ≡ true → type_of true n (suffix_is t) ≡ Some (arith_of t)
  zero_is : integer_constant (48 ∷ suffix t) ≡ Some (0, arith_of t)
  small : (n : ℕ) → int_le (pos n) (most_of t) ≡ true → n < 2 ^ 64

suffixed : (t : TyData) → is_constant_type t ≡ true → Suffixed t
suffixed (arithmetic Int) h = record { ends = refl; is = refl; type = refl; chosen = λ n e i. if e i then Some Int else first_fit n (Long ∷ []); zero_is = refl; small = λ n e. grind (arith, nat_tests) }
suffixed (arithmetic UInt) h = record { ends = refl; is = refl; type = refl; chosen = λ n e i. if e i then Some UInt else first_fit n (ULong ∷ []); zero_is = refl; small = λ n e. grind (arith, nat_tests) }
suffixed (arithmetic Long) h = record { ends = refl; is = refl; type = refl; chosen = λ n e i. if e i then Some Long else None; zero_is = refl; small = λ n e. grind (arith, nat_tests) }
suffixed (arithmetic ULong) h = record { ends = refl; is = refl; type = refl; chosen = λ n e i. if e i then Some ULong else None; zero_is = refl; small = λ n e. grind (arith, nat_tests) }
suffixed (arithmetic LLong) h = record { ends = refl; is = refl; type = refl; chosen = λ n e i. if e i then Some LLong else None; zero_is = refl; small = λ n e. grind (arith, nat_tests) }
suffixed (arithmetic ULLong) h = record { ends = refl; is = refl; type = refl; chosen = λ n e i. if e i then Some ULLong else None; zero_is = refl; small = λ n e. grind (arith, nat_tests) }
suffixed (arithmetic _) h = absurd (false≢true h)
suffixed void h = absurd (false≢true h)
suffixed (pointer t) h = absurd (false≢true h)
suffixed (array t n) h = absurd (false≢true h)
suffixed (structure n) h = absurd (false≢true h)

decimal_zero : decimal 0 ≡ 48 ∷ []
unfolding digits
decimal_zero = refl

constant_back : (n : ℕ) (t : TyData) → Suffixed t → int_le (pos n) (most_of t) ≡ true → integer_constant (decimal n ++ suffix t) ≡ Some (n, arith_of t)
constant_back zero t s h = ap (λ ds. integer_constant (ds ++ suffix t)) decimal_zero ∙ s.zero_is
constant_back (suc n) t s h = go (decimal (suc n)) (decimal_is (suc n) (s.small (suc n) h)) (first_decimal (suc n) (omega arith) (s.small (suc n) h))
  where
    go : (ds : Text) → Decimal (suc n) ds → 48 < get_or ds 0 0 → integer_constant (ds ++ suffix t) ≡ Some (suc n, arith_of t)
    go [] d lt = absurd (omega arith)
    go (b ∷ ds) d lt = not_zero (suc n) b ds (suffix t) (suffix_is t) d lt s.ends s.is ∙ ap (option_map (λ t. (suc n, t))) (s.chosen (suc n) h)

pub integer_back : (n : ℕ) (t : TyData) → fits_type n t ≡ true → ◌≡◌ {A = Result TokData FaultKind} (integer_tok (integer_constant (decimal n ++ suffix t))) (Ok (integer_token n t))
integer_back n t h =
    let k = both (is_constant_type t) (int_le (pos n) (most_of t)) h in
    let s = suffixed t k.0 in
    ap integer_tok (constant_back n t s k.1) ∙ ap (λ y. Ok (integer_token n y)) s.type

pub fits_small : (n : ℕ) (t : TyData) → fits_type n t ≡ true → n < 2 ^ 64
fits_small n t h = let k = both (is_constant_type t) (int_le (pos n) (most_of t)) h in (suffixed t k.0).small n k.1
