-- Where a `switch` goes.
use Rattle.std.proofs.Common.{◌≡◌, refl, sym, ap, Some, None}
use Rattle.std.specs.Prelude.{ℤ}
use Rattle.ec_code.specs.declared.mark.Mark.{Mark}
use Rattle.ec_code.specs.Marks.{IsCaseOf, mark_view}
use Rattle.ec_meaning_defs.specs.evaluation.Results.{Res, on_number, over}
use Rattle.ec_meaning_defs.specs.evaluation.State.{State, stuck}
use Rattle.ec_meaning_defs.specs.resolved.Resolved.{case}
use Rattle.ec_meaning_defs.specs.resolved.Resolved as of
use Rattle.ec_memory_defs.specs.Memory.{ValueData, number, address}

-- the case of a number
pub is_case : (v : ValueData) (m : Mark) → IsCaseOf v (Some m) → (t : State) (k : of.Mark → Res) → on_number v t (λ z. k (case z)) ≡ k (mark_view m)
is_case (number z) m h t k = ap k (sym h)
is_case (address p) m h t k = absurd h

-- a pointer is no operand
pub no_case : (v : ValueData) → IsCaseOf v None → (t : State) (k : ℤ → Res) → on_number v t k ≡ over stuck t
no_case (number z) h t k = absurd h
no_case (address p) h t k = refl
