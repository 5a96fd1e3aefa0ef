use Rattle.std.proofs.Common.{◌≡◌, ℕ, Bool, drop}
use Rattle.std.specs.Prelude.{map}
use Rattle.ec_code.specs.Views.{plain_step_view, plain_view}
use Rattle.ec_meaning_defs.specs.evaluation.Evaluate.{World, Step as Knowing, eval}
use Rattle.ec_meaning_defs.specs.evaluation.Results.{value}
use Rattle.ec_meaning_defs.specs.evaluation.State.{State}
use Rattle.ec_values.specs.Words.{word_view}
use Rattle.ec_plain.specs.Answered.{at, context}
use Rattle.ec_plain.specs.Steps.{followed}
use Rattle.ec_plain.proofs.whole.+evaluation.Given as goal

abbrev pub invariant-walk-loop-step : goal.invariant-walk-loop-step
invariant-walk-loop-step l =
    (knowing : Knowing) (w : World) (line : ℕ) (first : Bool) (s : State) →
    eval knowing w (context line l.scope first) (plain_view l.expression) (at s l.initial.store)
    ≡ followed knowing w (context line l.scope first) (map plain_step_view (drop l.step-index l.steps)) (value (word_view l.value) (at s l.store))
