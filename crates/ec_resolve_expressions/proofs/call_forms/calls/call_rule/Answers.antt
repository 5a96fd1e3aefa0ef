use Rattle.std.proofs.Common.{◌∙◌, List, refl, ap, subst}
use Rattle.ec_code.specs.Views.{expression_view}
use Rattle.ec_ctypes.specs.views.Exprs.{exprs_view}
use Rattle.ec_resolve_forms.specs.Seen.{founds_view}
use Rattle.ec_resolve_forms.proofs.Following.{then_reached}
use Rattle.ec_resolving_defs.specs.Operands as of
use Rattle.ec_rules.specs.Seen.{operand_view}
use Rattle.ec_scopes.specs.Entries.{place_view}
use Rattle.ec_scopes.specs.Seen.{world_of, IsDone}
use Rattle.ec_typing_defs.specs.Operands as checked
use Rattle.ec_typing_defs.specs.Operands.{OperandData}
use Rattle.ec_resolve_expressions.proofs.call_forms_lemmas.Calling.{form_done}
use Rattle.ec_resolve_expressions.proofs.call_forms.calls.call_rule.Goals as goal

pub returns : goal.returns
returns c =
    let at = place_view c.args.at in
    let es = exprs_view c.args.forms.now in
    let fs = founds_view c.args.fs in
    let mid = c.called.new.resolver in
    then_reached (of.called c.args.name.now es fs) (λ e. of.with_form (of.as_value e) (checked.call_rule at c.args.name.now es (of.operands_of fs))) c.args.resolver.now c.in_ok-exp.ensures
    (form_done (of.as_value (expression_view c.in_ok-exp.exp)) (checked.call_rule at c.args.name.now es (of.operands_of fs)) mid _ refl
    (subst (λ (os : List OperandData). IsDone (checked.call_rule at c.args.name.now es os (world_of mid.checker)) mid.checker c.call_rule.new.checker (operand_view c.in_ok-operand.operand)) (c.in_ok-operands.ensures ∙ ap (λ l. of.operands_of (founds_view l)) c.as_slice.ensures) c.in_ok-operand.ensures) refl)
