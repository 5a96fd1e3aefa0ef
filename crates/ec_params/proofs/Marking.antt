-- Flags of numbers.
use Rattle.std.proofs.Common.{◌≡◌, ℕ, zero, suc, ◌≤◌, ◌<◌, Bool, true, false, List, [], ◌∷◌, ◌++◌, length, refl, sym, ap, ◌∙◌, arith}
use Rattle.std.proofs.lemmas.Bool.Decides.{nat_tests}
use Rattle.std.specs.Prelude.{◌||◌, ◌==◌, slice_set}
use Rattle.ec_host_defs.specs.Programs.{is_among}
use Rattle.ec_params.specs.Numbers.{mark, marked, flag_at}

-- a flag more that isn't set
pub padded : (n : ℕ) (fs : List Bool) → length fs ≤ n → mark n (fs ++ false ∷ []) ≡ mark n fs
padded zero [] h = refl
padded zero (b ∷ fs) h = absurd (omega (arith, h))
padded (suc n) [] h = refl
padded (suc n) (b ∷ fs) h = ap (λ bs. b ∷ bs) (padded n fs (omega (arith, h)))

pub set_there : (n : ℕ) (fs : List Bool) → n < length fs → mark n fs ≡ slice_set fs n true
set_there zero [] h = absurd (omega (arith, h))
set_there zero (b ∷ fs) h = refl
set_there (suc n) [] h = absurd (omega (arith, h))
set_there (suc n) (b ∷ fs) h = ap (λ bs. b ∷ bs) (set_there n fs (omega (arith, h)))

before : (n : ℕ) → (zero == suc n) ≡ false
before n = grind (arith, nat_tests)

behind : (n : ℕ) → (suc n == zero) ≡ false
behind n = grind (arith, nat_tests)

alike : (k n : ℕ) → (k == n) ≡ (suc k == suc n)
alike k n = by_test (k == n) refl
  where
    by_test : (b : Bool) → (k == n) ≡ b → b ≡ (suc k == suc n)
    by_test true e = grind (arith, nat_tests)
    by_test false e = grind (arith, nat_tests)

flag_marked : (k n : ℕ) (fs : List Bool) → flag_at (mark n fs) k ≡ (k == n || flag_at fs k)
flag_marked zero zero [] = refl
flag_marked zero zero (b ∷ fs) = refl
flag_marked zero (suc n) [] = λ i. sym (before n) i || false
flag_marked zero (suc n) (b ∷ fs) = λ i. sym (before n) i || b
flag_marked (suc k) zero [] = λ i. sym (behind k) i || false
flag_marked (suc k) zero (b ∷ fs) = λ i. sym (behind k) i || flag_at fs k
flag_marked (suc k) (suc n) [] = flag_marked k n [] ∙ (λ i. alike k n i || false)
flag_marked (suc k) (suc n) (b ∷ fs) = flag_marked k n fs ∙ (λ i. alike k n i || flag_at fs k)

or_swapped : (a b c : Bool) → (a || (b || c)) ≡ ((b || a) || c)
or_swapped true true c = refl
or_swapped true false c = refl
or_swapped false true c = refl
or_swapped false false c = refl

all_marked : (k : ℕ) (ns : List ℕ) (fs : List Bool) → flag_at (marked ns fs) k ≡ (is_among k ns || flag_at fs k)
all_marked k [] fs = refl
all_marked k (n ∷ ns) fs = all_marked k ns (mark n fs) ∙ ap (λ b. is_among k ns || b) (flag_marked k n fs) ∙ or_swapped (is_among k ns) (k == n) (flag_at fs k)

or_false : (b : Bool) → (b || false) ≡ b
or_false true = refl
or_false false = refl

pub found_flag : (k : ℕ) (ns : List ℕ) → flag_at (marked ns []) k ≡ is_among k ns
found_flag k ns = all_marked k ns [] ∙ or_false (is_among k ns)
