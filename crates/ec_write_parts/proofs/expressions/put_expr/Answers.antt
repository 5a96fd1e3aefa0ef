use Rattle.std.proofs.Common.{◌∙◌, sym, subst}
use Rattle.std.specs.Prelude.{OnOk}
use Rattle.ec_ctypes.specs.views.Exprs.{expr_view}
use Rattle.ec_cwrite.specs.Writes.{Writes}
use Rattle.ec_write_parts.proofs.AsRead.{expr_same}
use Rattle.ec_writing_defs.specs.Expressions.{expr_chunks}
use Rattle.ec_write_parts.proofs.expressions.put_expr.Goals as goal

pub returns-else-has_struct : goal.returns-else-has_struct
returns-else-has_struct c =
    subst (λ e. OnOk c.push_expr-else-has_struct.result (Writes c.args.out.now c.push_expr-else-has_struct.new.out (expr_chunks e)))
    (sym (expr_same c.args.line.0 (expr_view c.args.expr.now) (sym c.has_struct.ensures ∙ c.if-has_struct.false))) c.push_expr-else-has_struct.ensures
