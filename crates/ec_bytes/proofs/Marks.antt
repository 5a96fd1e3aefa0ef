-- Marks that are all set.
use Rattle.std.proofs.Common.{◌≡◌, ◌==◌, ◌∙◌, ap, ℕ, ◌<◌, zero, suc, Bool, true, false, List, [], ◌∷◌, length, replicate, arith, refl, ne_eqb}
use Rattle.std.proofs.lemmas.Bool.{both_ways}
use Rattle.std.specs.Int.{w32, w64, from_le_bytes}
use Rattle.std.specs.List.{list_all}
use Rattle.std.specs.Prelude.{slice_index}
use Rattle.ec_bytes.proofs.Cells.{first_unset}

-- marks that are all 1
pub ones : (marks : List ℕ) → list_all (λ mark. mark == 1) marks ≡ true → marks ≡ replicate (length marks) 1
ones [] all = refl
ones (zero ∷ marks) all = cc
ones (suc zero ∷ marks) all = ap (λ rest. 1 ∷ rest) (ones marks all)
ones (suc (suc m) ∷ marks) all = absurd (both_ways (list_all (λ mark. mark == 1) (suc (suc m) ∷ marks)) (first_unset m marks) all)
