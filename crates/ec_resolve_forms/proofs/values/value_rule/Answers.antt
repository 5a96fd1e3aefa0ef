use Rattle.std.proofs.Common.{ap, false, refl}
use Rattle.ec_code.specs.Views.{expression_view}
use Rattle.ec_resolving_defs.specs.Operands.{found}
use Rattle.ec_rules.specs.Seen.{operand_view}
use Rattle.ec_resolve_forms.proofs.Reaching.{form_reached}
use Rattle.ec_resolve_forms.proofs.values.value_rule.Goals as goal

pub returns : goal.returns
returns c =
    form_reached c.with_form.result _ _ c.args.resolver.now _ (c.with_form.ensures _ c.read.ensures)
    (ap (λ e. found (operand_view c.value_rule-operand.result) e false) (c.reading_of-reading.ensures (expression_view c.args.f.exp))) c.value_rule-operand.ensures refl
