-- What is read with so many levels left, by its form.
use Rattle.std.specs.Prelude.{ℕ}
use Rattle.ec_ctypes.specs.trees.Exprs.{ExprData}
use Rattle.ec_ctypes.specs.trees.Stmts.{StmtData, if_stmt}
use Rattle.ec_ctypes.specs.trees.Units.{TopData}
use Rattle.ec_ctypes.specs.views.Stmts.{stmt_of}
use Rattle.ec_language.specs.Productions.{Start, at}
use Rattle.ec_language.specs.Syntax.{limits}
use Rattle.ec_grammar.specs.Input.{Parser, ◌>>=◌, pure}
use Rattle.ec_grammar.specs.ReadStatements.{statement_by, block_item_by, item_by, else_option, nested_statements}
use Rattle.ec_csyntax.specs.Levels.{within_statements}
use Rattle.ec_csyntax.specs.declared.forms.Form.{Form}
use Rattle.ec_csyntax.specs.declared.forms.ItemForm.{ItemForm}
use Rattle.ec_csyntax.specs.declared.forms.TopForm.{TopForm}
use Rattle.ec_csyntax.specs.Forms.{first_kind, second_kind, item_kind, top_kind}

unfoldable pub statement_of : ℕ → Start → Form → Parser StmtData
statement_of levels x form =
    within_statements levels statement_by x (first_kind form) (second_kind form)

unfoldable pub block_item_of : ℕ → Start → ItemForm → Parser StmtData
block_item_of levels x form = within_statements levels block_item_by x (item_kind form)

unfoldable pub item_of : Start → TopForm → Parser TopData
item_of x form = within_statements limits.nesting item_by x (top_kind form)

-- what stands behind the test of an `if`
unfoldable pub branches : ℕ → Start → ExprData → Parser StmtData
branches levels x e = do
  s ← (nested_statements limits levels).statement
  o ← within_statements levels else_option
  pure (at x (if_stmt e s (stmt_of o)))
