use Rattle.std.proofs.Common.{false, refl, ap}
use Rattle.ec_code.specs.Views.{expression_view}
use Rattle.ec_resolving_defs.specs.Operands.{found}
use Rattle.ec_rules.specs.Seen.{operand_view}
use Rattle.ec_resolve_forms.proofs.Reaching.{asked_reached}
use Rattle.ec_resolve_forms.proofs.casts.cast_rule.Goals as goal

pub returns : goal.returns
returns c =
    asked_reached c.with_form.result _ _ _ c.args.resolver.now _ (c.with_form.ensures _ c.cast.ensures)
    (ap (λ e. found (operand_view c.cast_rule-operand.result) e false) (c.casting_of-form.ensures (expression_view c.args.f.exp)))
    c.cast_rule-operand.ensures refl
