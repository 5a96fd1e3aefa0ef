-- What was taken of the arguments.
use Rattle.std.specs.Prelude.{ℕ, ℤ, Bool, true, false, List, map, Option, Some, None}
use Rattle.ec_meaning_defs.specs.functions.Functions.{Effect, misfit}
use Rattle.ec_bytes.specs.declared.scalar.address.Ptr.{Ptr}
use Rattle.ec_memory_defs.specs.Memory.{ValueData}
use Rattle.ec_values.specs.Words.{word_view}
use Rattle.ec_stdlib.specs.declared.arguments.TakenNumber.{TakenNumber}
use Rattle.ec_stdlib.specs.declared.arguments.TakenPointer.{TakenPointer}
use Rattle.ec_stdlib.specs.declared.arguments.Pair.{Pair}
use Rattle.ec_stdlib.specs.declared.arguments.Sizes.{Sizes}
use Rattle.ec_stdlib.specs.declared.arguments.Filling.{Filling}

abbrev pub number_view : Option TakenNumber → Option (ℤ × List ValueData)
number_view None = None
number_view (Some t) = Some (t.number, map word_view t.rest.now)

abbrev pub pointer_view : Option TakenPointer → Option (ℕ × List ValueData)
pointer_view None = None
pointer_view (Some t) = Some (t.ptr.0, map word_view t.rest.now)

abbrev pub given_nothing : Bool → Effect → Effect
given_nothing true effect = effect
given_nothing false effect = misfit

abbrev pub given_number : Option ℤ → (ℤ → Effect) → Effect
given_number None k = misfit
given_number (Some z) k = k z

abbrev pub given_pointer : Option Ptr → (ℕ → Effect) → Effect
given_pointer None k = misfit
given_pointer (Some p) k = k p.0

abbrev pub given_pair : Option Pair → (ℕ → ℕ → Effect) → Effect
given_pair None k = misfit
given_pair (Some p) k = k p.first.0 p.second.0

abbrev pub given_sizes : Option Sizes → (ℕ → ℕ → ℕ → Effect) → Effect
given_sizes None k = misfit
given_sizes (Some s) k = k s.first.0 s.second.0 s.count

abbrev pub given_filling : Option Filling → (ℕ → ℕ → ℕ → Effect) → Effect
given_filling None k = misfit
given_filling (Some f) k = k f.ptr.0 f.byte f.count
