-- The slot and the name that a run is connected to when it begins.
use Rattle.std.specs.Prelude.{ℕ, List, Option, Some, None}
use Rattle.ec_stepper.specs.declared.ready.Ready.{Ready}

abbrev pub ready_view : Option Ready → Option (ℕ × List ℕ)
ready_view None = None
ready_view (Some it) = Some (it.slot, it.name)
