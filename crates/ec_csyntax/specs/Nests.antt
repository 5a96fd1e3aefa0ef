-- Function values that read statements and blocks one level deeper, with so many levels left where they stand.
use Rattle.std.specs.Prelude.{ℕ, List, Result}
use Rattle.std.specs.declared.alloc.Global.{Global}
use denote.Ref.{MutBor}
use Rattle.ec_ctypes.specs.declared.tree.stmt.Stmt.{Stmt}
use Rattle.ec_ctypes.specs.views.Stmts.{stmt_view}
use Rattle.ec_language.specs.Syntax.{limits}
use Rattle.ec_grammar.specs.declared.failure.Failure.{Failure}
use Rattle.ec_grammar.specs.Input.{Reads}
use Rattle.ec_grammar.specs.ReadStatements.{nested_statements}
use Rattle.ec_cursor.specs.Nests.{Needs, Ensures}
use Rattle.ec_cursor.specs.States.{Left, seen}
use Rattle.ec_csyntax.specs.declared.statements.Statements.{Statements}
use Rattle.ec_csyntax.specs.Views.{each_stmt}

pub record NestsStatements (levels : ℕ) (pre : Needs) (post : Ensures Stmt) : Type 0 where
  pub callable : (alloc : Global) (old : MutBor Left) → pre alloc old levels
  pub reads : (alloc : Global) (old new : MutBor Left) (r : Result Stmt Failure)
      → post alloc old levels r new
      → Reads stmt_view ((nested_statements limits levels).statement (seen old.now))
      r (seen new.now)

pub record NestsBlocks (levels : ℕ) (pre : Needs) (post : Ensures (List Stmt)) : Type 0 where
  pub callable : (alloc : Global) (old : MutBor Left) → pre alloc old levels
  pub reads : (alloc : Global) (old new : MutBor Left) (r : Result (List Stmt) Failure)
      → post alloc old levels r new
      → Reads each_stmt ((nested_statements limits levels).block (seen old.now)) r (seen new.now)

-- ---- the same, of the function values that the readers of a level hold

abbrev pub StatementsNest : {S B : Type 0}
    → (S → Needs) → (S → Ensures Stmt) → Statements S B → Type 0
StatementsNest pre post s = NestsStatements s.levels (pre s.statement) (post s.statement)

abbrev pub BlocksNest : {S B : Type 0}
    → (B → Needs) → (B → Ensures (List Stmt)) → Statements S B → Type 0
BlocksNest pre post s = NestsBlocks s.levels (pre s.block) (post s.block)
