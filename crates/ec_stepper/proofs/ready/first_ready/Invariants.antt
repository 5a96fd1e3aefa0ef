use Rattle.std.proofs.Common.{◌≡◌, ℕ, ◌+◌, length}
use Rattle.std.specs.Prelude.{List, option_map}
use Rattle.ec_link.specs.Slot.{states}
use Rattle.ec_link.specs.SlotState.{ready_slot}
use Rattle.ec_stepper.proofs.ready.first_ready.Given as goal

abbrev pub invariant-loop-rest : goal.invariant-loop-rest
invariant-loop-rest g l = record {
  found : ready_slot (states l.slots) ≡ option_map (λ (found : ℕ × List ℕ). (found.0 + l.number, found.1)) (ready_slot (states l.rest));
  long : l.number + length l.rest ≡ length l.slots;
}

abbrev pub decreases-loop-rest : goal.decreases-loop-rest
decreases-loop-rest g l = length l.rest
