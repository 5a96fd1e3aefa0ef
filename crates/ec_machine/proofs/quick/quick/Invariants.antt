use Rattle.std.proofs.Common.{◌≡◌, ◌≤◌, Bool}
use Rattle.ec_code.specs.Views.{statement_view}
use Rattle.ec_meaning_defs.specs.evaluation.Evaluate.{World, Step as Knowing}
use Rattle.ec_meaning_defs.specs.evaluation.Execute.{run}
use Rattle.ec_meaning_defs.specs.evaluation.State.{State}
use Rattle.ec_plain.specs.Answered.{at, context}
use Rattle.ec_machine.specs.Frames.{objects_of}
use Rattle.ec_machine.specs.Weights.{statement_weight}
use Rattle.ec_machine.proofs.quick.quick.Given as goal

abbrev pub invariant-loop-next : goal.invariant-loop-next
invariant-loop-next l = record {
  same : (knowing : Knowing) (w : World) (first : Bool) (s : State) →
      run knowing w (context l.initial.line.0 (objects_of l.scope) first) (statement_view l.statement) (at s l.initial.store)
      ≡ run knowing w (context l.line.0 (objects_of l.scope) first) (statement_view l.left) (at s l.store);
  lighter : statement_weight l.left ≤ statement_weight l.statement;
}

abbrev pub decreases-loop-next : goal.decreases-loop-next
decreases-loop-next l = statement_weight l.left
