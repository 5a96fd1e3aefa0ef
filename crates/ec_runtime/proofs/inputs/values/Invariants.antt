use Rattle.std.proofs.Common.{◌≡◌, ◌++◌, drop, map}
use Rattle.ec_meaning_defs.specs.evaluation.State.{State}
use Rattle.ec_call_defs.specs.Outcomes.{next, gives, with_memory}
use Rattle.ec_runtime.specs.Reading.{input_view, values_read}
use Rattle.ec_runtime.proofs.inputs.values.Given as goal

abbrev pub invariant-loop-it : goal.invariant-loop-it
invariant-loop-it l = (s : State) → values_read (map input_view l.inputs) (with_memory l.store s) ≡ next (values_read (map input_view (drop l.it-index l.inputs)) (with_memory l.store s)) (λ fields t. gives (l.texts ++ fields) t)
