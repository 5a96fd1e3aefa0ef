-- The places of a list, by `slice_get`.
use Rattle.std.proofs.Common.{◌≡◌, ◌≢◌, ℕ, zero, suc, Some, List, [], ◌∷◌, ◌++◌, length, ◌-◌, slice_get, slice_set, refl, sym, ap, ◌∙◌, arith}
use Rattle.std.proofs.lemmas.List.{length_push}

-- what was put into a place that is there
pub slice_get-slice_set : {A : Type 0} (xs : List A) (i : ℕ) (x y : A) → slice_get xs i ≡ Some x → slice_get (slice_set xs i y) i ≡ Some y
slice_get-slice_set [] i x y h = cc
slice_get-slice_set (a ∷ xs) zero x y h = refl
slice_get-slice_set (a ∷ xs) (suc i) x y h = slice_get-slice_set xs i x y h

-- the other places stay
pub slice_get-slice_set_other : {A : Type 0} (xs : List A) (i k : ℕ) (y : A) → k ≢ i → slice_get (slice_set xs i y) k ≡ slice_get xs k
slice_get-slice_set_other [] i k y n = refl
slice_get-slice_set_other (a ∷ xs) zero zero y n = absurd (n refl)
slice_get-slice_set_other (a ∷ xs) zero (suc k) y n = refl
slice_get-slice_set_other (a ∷ xs) (suc i) zero y n = refl
slice_get-slice_set_other (a ∷ xs) (suc i) (suc k) y n = slice_get-slice_set_other xs i k y (λ e. n (ap (λ m. suc m) e))

-- what is put into a place where it stands
pub slice_set-same : {A : Type 0} (xs : List A) (i : ℕ) (x : A) → slice_get xs i ≡ Some x → slice_set xs i x ≡ xs
slice_set-same [] i x h = refl
slice_set-same (a ∷ xs) zero x h = let same : a ≡ x = cc in ap (λ y. y ∷ xs) (sym same)
slice_set-same (a ∷ xs) (suc i) x h = ap (λ ys. a ∷ ys) (slice_set-same xs i x h)

-- the place past a list, in a longer one
slice_get-past : {A : Type 0} (xs : List A) (x : A) → slice_get (xs ++ x ∷ []) (length xs) ≡ Some x
slice_get-past [] x = refl
slice_get-past (y ∷ xs) x = slice_get-past xs x

-- the last place
pub slice_get-last : {A : Type 0} (xs : List A) (x : A) → slice_get (xs ++ x ∷ []) (length (xs ++ x ∷ []) - 1) ≡ Some x
slice_get-last xs x = let e : length (xs ++ x ∷ []) - 1 ≡ length xs = omega (arith, length_push xs x) in ap (λ n. slice_get (xs ++ x ∷ []) n) e ∙ slice_get-past xs x
