use Rattle.std.proofs.Common.{◌≡◌, ◌∙◌, sym, ap, rules}
use Rattle.ec_ctypes.specs.declared.tree.expr.Expr.{the_lemmas}
use Rattle.ec_ctypes.specs.trees.Exprs.{identifier}
use Rattle.ec_ctypes.specs.views.Exprs.{expr_view}
use Rattle.ec_typing_defs.specs.Known.{is_symbol, library_symbols}
use Rattle.ec_typing_defs.specs.Tables.{is_one_of}
use Rattle.ec_known.proofs.arguments.is_symbol.Goals as goal

pub returns-in-Name : goal.returns-in-Name
returns-in-Name c =
    let named : expr_view c.args.e.now ≡ identifier c.in-Name.name = ap expr_view c.in-Name.is ∙ search (rules, the_lemmas) in
    c.is_symbol_name.ensures ∙ ap (is_one_of library_symbols) c.as_slice.ensures ∙ sym (ap is_symbol named)
