use Rattle.std.proofs.Common.{◌≡◌, ℕ, Bool, drop}
use Rattle.std.specs.Prelude.{map}
use Rattle.ec_code.specs.Views.{plain_step_view}
use Rattle.ec_meaning_defs.specs.evaluation.Evaluate.{World, Step as Knowing}
use Rattle.ec_meaning_defs.specs.evaluation.Results.{value}
use Rattle.ec_meaning_defs.specs.evaluation.State.{State}
use Rattle.ec_memory_defs.specs.Memory.{number}
use Rattle.ec_plain.specs.Answered.{at, context}
use Rattle.ec_plain.specs.Steps.{followed}
use Rattle.ec_plain.proofs.number.+number.Given as goal

abbrev pub invariant-follow-loop-step : goal.invariant-follow-loop-step
invariant-follow-loop-step l =
    (knowing : Knowing) (w : World) (line : ℕ) (first : Bool) (s : State) →
    followed knowing w (context line l.scope first) (map plain_step_view l.steps) (value (number l.begun) (at s l.store))
    ≡ followed knowing w (context line l.scope first) (map plain_step_view (drop l.step-index l.steps)) (value (number l.value) (at s l.store))
