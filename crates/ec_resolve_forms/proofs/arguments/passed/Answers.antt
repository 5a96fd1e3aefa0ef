use Rattle.std.proofs.Common.{map}
use Rattle.ec_code.specs.Trees.{exps_of}
use Rattle.ec_code.specs.Views.{expression_view}
use Rattle.ec_type_rules.specs.Views.{type_view}
use Rattle.ec_resolve_forms.specs.Seen.{founds_view}
use Rattle.ec_resolve_forms.proofs.Passing.{passed_same, made_of}
use Rattle.ec_resolve_forms.proofs.arguments.passed.Goals as goal

pub returns : goal.returns
returns c = made_of c.passed_each.result (map expression_view) exps_of (passed_same (map type_view c.args.params.now) (founds_view c.args.fs)) c.passed_each.ensures
