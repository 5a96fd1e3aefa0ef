use Rattle.std.proofs.Common.{◌≡◌, ◌++◌, drop, map}
use Rattle.ec_meaning_defs.specs.evaluation.State.{State}
use Rattle.ec_call_defs.specs.Descriptors.{values_read}
use Rattle.ec_call_defs.specs.Outcomes.{next, gives, with_memory}
use Rattle.ec_runtime.specs.Statements.{set_view}
use Rattle.ec_runtime.proofs.describing.read_values.Given as goal

abbrev pub invariant-loop-one : goal.invariant-loop-one
invariant-loop-one l = (s : State) → values_read (map set_view l.given) (with_memory l.store s) ≡ next (values_read (map set_view (drop l.one-index l.given)) (with_memory l.store s)) (λ more t. gives (l.values ++ more) t)
