use Rattle.std.proofs.Common.{◌≤◌}
use Rattle.ec_machine.specs.Quick.{Comes, turning}
use Rattle.ec_machine.proofs.machine.Machine.turn.Given as goal

abbrev pub invariant-loop-focus : goal.invariant-loop-focus
invariant-loop-focus l = record {
  comes : Comes l.functions l.initial.self (turning l.inner) l.self (turning l.inner);
  turns : l.self.turns ≤ l.initial.self.turns;
}

abbrev pub decreases-loop-focus : goal.decreases-loop-focus
decreases-loop-focus l = l.self.turns
