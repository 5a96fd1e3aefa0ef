use Rattle.std.proofs.Common.{false, refl, ap}
use Rattle.ec_code.specs.Views.{expression_view}
use Rattle.ec_resolving_defs.specs.Operands.{found}
use Rattle.ec_rules.specs.Seen.{operand_view}
use Rattle.ec_resolve_forms.proofs.Reaching.{asked_reached}
use Rattle.ec_resolve_forms.proofs.assignments.assign_rule.Goals as goal

pub returns : goal.returns
returns c =
    asked_reached c.with_join.result _ _ _ c.args.resolver.now _ c.with_join.ensures
    (ap (λ e. found (operand_view c.assign_rule-operand.result) e false) (c.assign_form-form.ensures (expression_view c.args.a.exp) (expression_view c.args.b.exp)))
    c.assign_rule-operand.ensures refl
