use Rattle.std.proofs.Common.{◌∙◌, ap, false, refl}
use Rattle.ec_code.specs.Views.{expression_view}
use Rattle.ec_resolve_values.specs.conversions.Scalars.{bumped_of, scalar_in}
use Rattle.ec_resolving_defs.specs.Operands.{found, over_type}
use Rattle.ec_rules.specs.Seen.{operand_view}
use Rattle.ec_scopes.specs.Seen.{world_of}
use Rattle.ec_type_rules.specs.Views.{type_view}
use Rattle.ec_resolve_forms.proofs.Reaching.{asked_reached, bumped_over}
use Rattle.ec_resolve_forms.proofs.assignments.bump_rule.Goals as goal

pub returns : goal.returns
returns c =
    let w = world_of c.args.resolver.now.checker in
    let x = expression_view c.args.f.exp in
    let ty = type_view c.args.f.operand.ty in
    let o = operand_view c.bump_rule-operand.result in
    asked_reached c.with_join.result _ _ _ c.args.resolver.now _ c.with_join.ensures
    (ap (λ e. found o e false) (c.bump_form-form.ensures x (expression_view c.leaf-one.result))
    ∙ ap (λ e. found o (over_type ty (λ t. bumped_of c.args.before c.args.up (scalar_in w t) x e)) false) c.leaf-one.ensures
    ∙ ap (λ e. found o e false) (bumped_over w c.args.before c.args.up ty x)) c.bump_rule-operand.ensures refl
