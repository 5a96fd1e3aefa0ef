use Rattle.std.proofs.Common.{◌≡◌, ◌≤◌, Bool, length}
use Rattle.ec_code.specs.Views.{statements_view}
use Rattle.ec_meaning_defs.specs.evaluation.Evaluate.{World, Step as Knowing}
use Rattle.ec_meaning_defs.specs.evaluation.Execute.{run_all}
use Rattle.ec_meaning_defs.specs.evaluation.State.{State}
use Rattle.ec_plain.specs.Answered.{at, context}
use Rattle.ec_machine.specs.Frames.{objects_of}
use Rattle.ec_machine.specs.Weights.{statements_weight}
use Rattle.ec_machine.proofs.quick.quick_list.Given as goal

abbrev pub invariant-loop-left : goal.invariant-loop-left
invariant-loop-left l = record {
  same : (knowing : Knowing) (w : World) (first : Bool) (s : State) →
      run_all knowing w (context l.start.0 (objects_of l.scope) first) (statements_view l.statements) (at s l.initial.store)
      ≡ run_all knowing w (context l.start.0 (objects_of l.scope) first) (statements_view l.left) (at s l.store);
  lighter : statements_weight l.left ≤ statements_weight l.statements;
}

abbrev pub decreases-loop-left : goal.decreases-loop-left
decreases-loop-left l = length l.left
