use Rattle.std.proofs.Common.{◌∙◌, sym, ap}
use Rattle.std.specs.Option.{option_and_then}
use Rattle.ec_ctypes.specs.declared.tree.expr.Expr.{Expr}
use Rattle.ec_ctypes.specs.views.Exprs.{expr_view}
use Rattle.ec_typing_defs.specs.Known.{literal_in}
use Rattle.ec_known.proofs.Tables.{literal_of}
use Rattle.ec_known.proofs.arguments.literal_at.Goals as goal

pub returns-in-Some : goal.returns-in-Some
returns-in-Some c =
    c.literal_in.ensures ∙ sym (literal_of c.args.count c.args.arguments.now ∙ ap (option_and_then (λ (e : Expr). literal_in (expr_view e))) (sym c.in-Some.ensures))

pub returns-in-None : goal.returns-in-None
returns-in-None c =
    sym (literal_of c.args.count c.args.arguments.now ∙ ap (option_and_then (λ (e : Expr). literal_in (expr_view e))) (sym c.in-None.ensures))
