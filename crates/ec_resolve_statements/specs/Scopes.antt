-- What stands in the scopes of choices and loops.
use Rattle.std.specs.Prelude.{true, false, Option, Some, None}
use Rattle.ec_ctypes.specs.trees.Exprs.{ExprData}
use Rattle.ec_ctypes.specs.trees.Stmts.{StmtData, StmtOption}
use Rattle.ec_meaning_defs.specs.resolved.Resolved.{Stm, choose, loop}
use Rattle.ec_resolving_defs.specs.Statements.{Around, scoped, condition, optional, optional_condition, behind_first_part, statement, otherwise}
use Rattle.ec_resolving_defs.specs.Storage.{Resolving, ◌>>=◌, pure}
use Rattle.ec_typing_defs.specs.Worlds.{Place}

abbrev pub if_parts : Around → Place → ExprData → StmtData → StmtOption → Resolving Stm
if_parts a at e s other = do
  x ← condition at e
  y ← scoped (statement a s)
  z ← otherwise a other
  pure (choose x y z)

abbrev pub while_parts : Around → Place → ExprData → StmtData → Resolving Stm
while_parts a at e s = do
  x ← condition at e
  y ← scoped (statement a s)
  pure (loop true (Some x) None y)

abbrev pub do_parts : Around → Place → StmtData → ExprData → Resolving Stm
do_parts a at s e = do
  y ← scoped (statement a s)
  x ← condition at e
  pure (loop false (Some x) None y)

abbrev pub for_loop : Around → Place → Option ExprData → Option ExprData → Option ExprData
    → StmtData → Resolving Stm
for_loop a at x y z s = do
  first ← optional at x
  test ← optional_condition at y
  behind ← optional at z
  body ← scoped (statement a s)
  pure (behind_first_part first (loop true test behind body))
