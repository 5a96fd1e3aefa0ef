use Rattle.std.proofs.Common.{◌≡◌, drop}
use Rattle.ec_ctypes.specs.views.Exprs.{exprs_view}
use Rattle.ec_resolving_defs.specs.Calling as rule
use Rattle.ec_resolve_expressions.proofs.call_forms.called_functions.any_calls_function.Given as goal

abbrev pub invariant-loop-e : goal.invariant-loop-e
invariant-loop-e l = rule.any_calls_function (exprs_view (drop l.e-index l.es)) ≡ rule.any_calls_function (exprs_view l.es)
