use Rattle.std.proofs.Common.{◌≡◌, ◌≤◌, length}
use Rattle.ec_code.specs.Marks.{mark_view}
use Rattle.ec_code.specs.Views.{statements_view}
use Rattle.ec_meaning_defs.specs.evaluation.Evaluate.{Context, World, Step as Knowing}
use Rattle.ec_meaning_defs.specs.evaluation.Execute.{look_all}
use Rattle.ec_meaning_defs.specs.evaluation.State.{State}
use Rattle.ec_machine.specs.Weights.{statements_weight}
use Rattle.ec_machine.proofs.labels.first_holding.Given as goal

abbrev pub invariant-loop-left : goal.invariant-loop-left
invariant-loop-left l = record {
  same : (knowing : Knowing) (w : World) (c : Context) (t : State) →
      look_all knowing w (mark_view l.label) c (statements_view l.statements) t ≡ look_all knowing w (mark_view l.label) c (statements_view l.left) t;
  smaller : statements_weight l.left ≤ statements_weight l.statements;
}

abbrev pub decreases-loop-left : goal.decreases-loop-left
decreases-loop-left l = length l.left
