use Rattle.std.proofs.Common.{◌≡◌, ◌∙◌, rules, sym, ap}
use Rattle.ec_code.specs.declared.expression.Expression.{the_lemmas}
use Rattle.ec_code.specs.Views.{expression_view, plain_view}
use Rattle.ec_resolving_defs.specs.Operands.{without_use}
use Rattle.ec_resolve_forms.proofs.Uses.{plain_uses}
use Rattle.ec_resolve_forms.proofs.alone.without_use.Goals as goal

pub returns-in-Plain : goal.returns-in-Plain
returns-in-Plain c =
    let e : expression_view c.args.exp ≡ plain_view c.in-Plain.plain = search (rules, the_lemmas, c.in-Plain.is) in
    ap expression_view (sym c.in-Plain.is) ∙ e ∙ plain_uses c.in-Plain.plain ∙ ap without_use (sym e)
