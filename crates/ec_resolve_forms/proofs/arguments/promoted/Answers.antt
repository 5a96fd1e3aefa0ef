use Rattle.std.proofs.Common.{map}
use Rattle.ec_code.specs.Trees.{exps_of}
use Rattle.ec_code.specs.Views.{expression_view}
use Rattle.ec_resolve_forms.specs.Arguments.{promoted_list}
use Rattle.ec_resolve_forms.specs.Seen.{founds_view}
use Rattle.ec_resolve_forms.proofs.Passing.{same_exps, made_of}
use Rattle.ec_resolve_forms.proofs.arguments.promoted.Goals as goal

pub returns : goal.returns
returns c = made_of c.promoted_each.result (map expression_view) exps_of (same_exps (promoted_list (founds_view c.args.fs))) c.promoted_each.ensures
