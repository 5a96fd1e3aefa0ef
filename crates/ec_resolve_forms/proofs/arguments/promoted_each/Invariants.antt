use Rattle.std.proofs.Common.{◌≡◌, map}
use Rattle.ec_code.specs.Views.{expression_view}
use Rattle.ec_resolve_forms.specs.Arguments.{promoted_list}
use Rattle.ec_resolve_forms.specs.Seen.{founds_view}
use Rattle.ec_resolve_forms.proofs.arguments.promoted_each.Given as goal

abbrev pub invariant-loop-f : goal.invariant-loop-f
invariant-loop-f l = map expression_view l.arguments ≡ promoted_list (founds_view l.yielded)
