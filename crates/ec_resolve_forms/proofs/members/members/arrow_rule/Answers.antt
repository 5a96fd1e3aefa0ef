use Rattle.std.proofs.Common.{◌∙◌, true, refl, ap}
use Rattle.ec_code.specs.Views.{expression_view}
use Rattle.ec_resolve_forms.proofs.Reaching.{asked_reached}
use Rattle.ec_resolving_defs.specs.Operands.{found, member_at, member_exp}
use Rattle.ec_rules.specs.Seen.{operand_view}
use Rattle.ec_scopes.specs.Seen.{world_of}
use Rattle.ec_resolve_forms.proofs.members_lemmas.Passing.{member_found}
use Rattle.ec_resolve_forms.proofs.members.members.arrow_rule.Goals as goal

pub returns : goal.returns
returns c =
    let w = world_of c.args.resolver.now.checker in
    let e = expression_view c.args.f.exp in
    let o = operand_view c.in_ok-operand.operand in
    asked_reached c.with_form.result _ _ _ c.args.resolver.now _ (c.with_form.ensures _ c.member_at.ensures)
    (ap (λ x. found o x true) (ap (member_at e) c.in_ok-offset.ensures ∙ member_found w c.target_struct-number.result c.args.name.now e ∙ ap (λ k. member_exp w k c.args.name.now e) c.target_struct-number.ensures))
    c.in_ok-operand.ensures refl
