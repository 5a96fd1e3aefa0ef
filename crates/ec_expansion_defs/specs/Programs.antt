-- The program that is written for a program with embedded SQL.
use Rattle.std.specs.Prelude.{ℕ, List, [], ◌∷◌, Option, option_map, option_and_then, slice_get}
use Rattle.ec_ctypes.specs.trees.Checked.{MarkData, BoundData, TypedData}
use Rattle.ec_ctypes.specs.trees.Embedded.{EmbData}
use Rattle.ec_ctypes.specs.trees.Exprs.{ExprData}
use Rattle.ec_ctypes.specs.trees.Stmts.{stmt, StmtKindData, expr_stmt, block_stmt}
use Rattle.ec_ctypes.specs.trees.Units.{TopData, UnitData}
use Rattle.ec_arguments.specs.Arguments.{Call}
use Rattle.ec_typing_defs.specs.statement_parts.Handlers.{action_among}
use Rattle.ec_writing_defs.specs.Programs.{last_line}
use Rattle.ec_expansion_defs.specs.Calls.{call_of, call_expr}
use Rattle.ec_expansion_defs.specs.Handlers.{tests}
use Rattle.ec_expansion_defs.specs.Statements.{listed_stmts, written_tops}

-- a block with the call, and the tests for the conditions that have an action at this statement. All have its line
abbrev pub block_of : List MarkData → EmbData → Call ExprData → StmtKindData
block_of handlers e c =
    block_stmt (listed_stmts
    (stmt e.line (expr_stmt (call_expr e.line.0 c)) ∷ tests e.line (action_among handlers e.place)))

-- what is written in the place of the statement of this number, whose hosts are bound
abbrev pub block_for : List MarkData → List EmbData → ℕ → EmbData → BoundData → Option StmtKindData
block_for handlers es n e b = option_map (block_of handlers e) (call_of es n e b)

abbrev pub embedded : List MarkData → List EmbData → List BoundData → ℕ → Option StmtKindData
embedded handlers es bounds n = option_and_then
    (λ e. option_and_then (block_for handlers es n e) (slice_get bounds n)) (slice_get es n)

abbrev pub tops_of : TypedData → List BoundData → List TopData
tops_of p bounds = written_tops (embedded p.handlers p.unit.embs bounds) p.unit.tops

-- a program of these parts, without embedded statements, which ends where its text does
abbrev pub unit_of : List TopData → UnitData
unit_of tops = record {
  tops = tops;
  embs = [];
  last = record { 0 = last_line (record { tops = tops; embs = []; last = record { 0 = 0 } }) };
}

-- The written program, by what is bound for each statement in their order.
abbrev pub written_program : TypedData → List BoundData → UnitData
written_program p bounds = unit_of (tops_of p bounds)
