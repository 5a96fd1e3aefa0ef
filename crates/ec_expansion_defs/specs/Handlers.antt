-- The tests behind the call of a statement, one for each condition that has an action (PostgreSQL manual, 36.8.1).
use Rattle.std.specs.Prelude.{ℕ, pos, List, [], ◌∷◌, ◌++◌, Option, Some, None, codes}
use Prim.Native.String.{String}
use Rattle.ec_base.specs.declared.line.Line.{Line}
use Rattle.ec_ctypes.specs.declared.types.arith.Arith.TheVariants.{Int}
use Rattle.ec_ctypes.specs.declared.tree.expr.BinOp.TheVariants.{Eq, Lt}
use Rattle.ec_ctypes.specs.declared.embedded.emb.Cond.{Cond}
use Rattle.ec_ctypes.specs.declared.embedded.emb.Cond.TheVariants.{NotFound, Warning, Error}
use Rattle.ec_ctypes.specs.trees.Types.{arithmetic}
use Rattle.ec_ctypes.specs.trees.Exprs.{ExprData, integer, character, identifier, binary, call, index, member, ExprList, no_exprs, exprs}
use Rattle.ec_ctypes.specs.trees.Embedded.{ActionData, continue_action, goto_action, print_action, stop_action, break_action, next_action, call_action}
use Rattle.ec_ctypes.specs.trees.Stmts.{StmtData, stmt, StmtKindData, expr_stmt, if_stmt, break_stmt, continue_stmt, goto_stmt, no_stmt}

-- an int constant
abbrev pub int_constant : ℕ → ExprData
int_constant n = integer n (arithmetic Int)

-- a member of the communication area
abbrev pub area_member : String → ExprData
area_member name = member (identifier (codes "sqlca")) (codes name)

-- what is tested for a condition
abbrev pub condition : Cond → ExprData
condition NotFound = binary Eq (area_member "sqlcode") (int_constant 100)
condition Warning = binary Eq (index (area_member "sqlwarn") (int_constant 0)) (character (pos 87))
condition Error = binary Lt (area_member "sqlcode") (int_constant 0)

abbrev pub called : String → ExprList → StmtKindData
called name es = expr_stmt (call (codes name) es)

-- the statement that an action is, if it does anything
abbrev pub action_statement : ActionData → Option StmtKindData
action_statement continue_action = None
action_statement (goto_action l) = Some (goto_stmt l)
action_statement print_action = Some (called "sqlprint" no_exprs)
action_statement stop_action = Some (called "exit" (exprs (int_constant 1) no_exprs))
action_statement break_action = Some break_stmt
action_statement next_action = Some continue_stmt
action_statement (call_action f es) = Some (expr_stmt (call f es))

abbrev pub test_of : Line → Cond → Option StmtKindData → List StmtData
test_of line c None = []
test_of line c (Some s) = stmt line (if_stmt (condition c) (stmt line s) no_stmt) ∷ []

abbrev pub test_for : Line → Cond → Option ActionData → List StmtData
test_for line c None = []
test_for line c (Some a) = test_of line c (action_statement a)

-- The tests in their order, by the action that holds for each condition.
abbrev pub tests : Line → (Cond → Option ActionData) → List StmtData
tests line action = test_for line NotFound (action NotFound)
    ++ (test_for line Warning (action Warning) ++ test_for line Error (action Error))
