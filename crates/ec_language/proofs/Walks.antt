-- A walk with enough steps doesn't depend on how many there are.
use Rattle.std.proofs.Common.{◌≡◌, ℕ, zero, suc, ◌<◌, false, [], ◌∷◌, ◌++◌, length, refl, ap, ◌∙◌, arith, length-append}
use Rattle.ec_language.specs.Letters.{Text, is_empty}
use Rattle.ec_language.specs.ReadPieces.{Step, on, halt, walk}

-- each step that goes on leads to a smaller state
abbrev pub Falls : (S R : Type 0) → (S → Step S R) → (S → ℕ) → Type 0
Falls S R step size = (s t : S) → step s ≡ on t → size t < size s

fuel_step : {S R : Type 0} (step : S → Step S R) (none : R) (n m : ℕ) (s : S) (x : Step S R) → step s ≡ x
    → ((t : S) → step s ≡ on t → walk step none n t ≡ walk step none m t)
    → ◌≡◌ {A = R} (elim x [ on t ↦ walk step none n t | halt r ↦ r ]) (elim x [ on t ↦ walk step none m t | halt r ↦ r ])
fuel_step step none n m s (on t) e ih = ih t e
fuel_step step none n m s (halt r) e ih = refl

pub fuel : {S R : Type 0} (step : S → Step S R) (none : R) (size : S → ℕ) → Falls S R step size → (n m : ℕ) (s : S) → size s < n → size s < m
    → walk step none n s ≡ walk step none m s
fuel step none size down zero m s h k = absurd (omega arith)
fuel step none size down (suc n) zero s h k = absurd (omega arith)
fuel step none size down (suc n) (suc m) s h k =
    fuel_step step none n m s (step s) refl (λ t e. let d : size t < size s = down s t e in fuel step none size down n m t (omega arith) (omega arith))

-- a step that goes on
pub walk_on : {S R : Type 0} (step : S → Step S R) (none : R) (size : S → ℕ) → Falls S R step size → (s t : S) → step s ≡ on t
    → walk step none (suc (size s)) s ≡ walk step none (suc (size t)) t
walk_on {S} {R} step none size down s t e =
    let d : size t < size s = down s t e in
    let first : walk step none (suc (size s)) s ≡ walk step none (size s) t = ap (λ (x : Step S R). elim x [ on t ↦ walk step none (size s) t | halt r ↦ r ]) e in
    first ∙ fuel step none size down (size s) (suc (size t)) t d (omega arith)

-- a step that gives the result
pub walk_halt : {S R : Type 0} (step : S → Step S R) (none : R) (n : ℕ) (s : S) (r : R) → step s ≡ halt r → walk step none (suc n) s ≡ r
walk_halt {S} {R} step none n s r e = ap (λ (x : Step S R). elim x [ on t ↦ walk step none n t | halt r ↦ r ]) e

-- what stands behind a unit is shorter
pub shorter : (t u r : Text) → t ≡ u ++ r → is_empty u ≡ false → length r < length t
shorter t [] r e n = absurd (cc)
shorter t (b ∷ u) r e n = omega (arith, ap length e, length-append u r)
