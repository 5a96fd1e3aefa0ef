use Rattle.std.proofs.Common.{◌∙◌, false, refl, ap}
use Rattle.ec_code.specs.Views.{expression_view}
use Rattle.ec_resolving_defs.specs.Operands.{found}
use Rattle.ec_rules.specs.Seen.{operand_view}
use Rattle.ec_resolve_forms.specs.Seen.{found_view}
use Rattle.ec_resolve_forms.proofs.Reaching.{form_reached, value_found}
use Rattle.ec_resolve_forms.proofs.unary.unary_rule.Goals as goal

pub returns-in_default : goal.returns-in_default
returns-in_default c =
    form_reached c.with_prefix.result _ _ c.args.resolver.now _ c.with_prefix.ensures
    (ap (λ e. found (operand_view c.unary_rule-operand.result) e false) (c.prefix_form-form.ensures (expression_view c.args.f.exp))
    ∙ value_found c.args.op (found_view c.args.f) (operand_view c.unary_rule-operand.result) c.in_default.not-Deref) c.unary_rule-operand.ensures refl
