use Rattle.std.proofs.Common.{◌≡◌, ◌∙◌, rules, sym, ap}
use Rattle.ec_code.specs.declared.expression.Expression.{the_lemmas}
use Rattle.ec_code.specs.Views.{head_view, plain_view}
use Rattle.ec_resolving_defs.specs.Operands.{without_use}
use Rattle.ec_resolve_forms.proofs.Uses.{plain_uses}
use Rattle.ec_resolve_forms.proofs.alone.head_without_use.Goals as goal

pub returns-in-Begun : goal.returns-in-Begun
returns-in-Begun c =
    let e : head_view c.args.head ≡ plain_view c.in-Begun.plain = search (rules, the_lemmas, c.in-Begun.is) in
    ap head_view (sym c.in-Begun.is) ∙ e ∙ plain_uses c.in-Begun.plain ∙ ap without_use (sym e)
