use Rattle.std.proofs.Common.{◌≡◌, drop}
use Rattle.std.specs.List.{position_from}
use Rattle.ec_link.specs.Slot.{state_of}
use Rattle.ec_link.specs.SlotState.{is_free}
use Rattle.ec_link.proofs.connecting.first_free.Given as goal

abbrev pub invariant-loop-at : goal.invariant-loop-at
invariant-loop-at g l = position_from (λ slot. is_free l.target (state_of slot)) l.at (drop l.at l.slots) ≡ position_from (λ slot. is_free l.target (state_of slot)) 0 l.slots
