-- That statements, functions and the items of programs are copied.
use Rattle.std.specs.Prelude.{ℕ, Bool, List, [], ◌∷◌, Option}
use Rattle.ec_ctypes.specs.trees.Embedded.{EmbData}
use Rattle.ec_ctypes.specs.trees.Stmts.{StmtData, StmtKindData, StmtList}
use Rattle.ec_ctypes.specs.trees.Types.{TyData}
use Rattle.ec_ctypes.specs.trees.Units.{FuncData, TopData, func_top}
use Rattle.ec_written_laws.specs.bound.Numbers.{stmt_numbers, stmts_numbers, body_numbers, tops_numbers}
use Rattle.ec_expansion_defs.specs.Statements.{written_stmt, written_items, written_func, written_tops}
use Rattle.ec_typing_defs.specs.Tables.{Named}
use Rattle.ec_typing_defs.specs.Statements as checked
use Rattle.ec_typing_defs.specs.Programs as checked_programs
use Rattle.ec_resolving_defs.specs.Statements.{statement, statements}
use Rattle.ec_resolving_defs.specs.Programs.{function_rule, tops_rule}
use Rattle.ec_resolving_defs.specs.Agreement.{around_of}
use Rattle.ec_sim_statement_laws.specs.statement.Copies.{IsCopy, AreCopies}
use Rattle.ec_sim_statement_laws.specs.expression.Laws.{ExpressionsAreAlike, TypesAreAlike, LengthsAreAlike, InitializersAreAlike}
use Rattle.ec_sim_statement_laws.specs.expression.Lengths.{BaseHasLengths}
use Rattle.ec_sim_statement_laws.specs.expression.Varchars.{VarcharObjectsAreAlike, OuterLengthsAreAlike}
use Rattle.ec_sim_program_laws.specs.program.Copied.{Whole, in_function, at_top, IsCopied, Any}
use Rattle.ec_sim_program_laws.specs.program.Embedded.{inside}
use Rattle.ec_sim_program_laws.specs.program.Shape.{StandsAlone, ItemsStand, ParamsHaveLengths, BodyStands, TopsStand}

-- what is taken of the parts of declarations and statements
pub record PartsAreAlike : Type 0 where
  pub expressions : ExpressionsAreAlike
  pub types : TypesAreAlike
  pub lengths : LengthsAreAlike
  pub initializers : InitializersAreAlike
  pub objects : VarcharObjectsAreAlike
  pub outer_lengths : OuterLengthsAreAlike

module _ (g : Whole) (es : List EmbData) (embedded : ℕ → Option StmtKindData) where
  -- a statement that stands alone, on whichever line
  abbrev pub StatementsAreCopied : Type 0
  StatementsAreCopied = (body loop : Bool) (labels : Named (Unit {0})) (result : Option TyData)
      (s : StmtData) → StandsAlone es s → (line : ℕ) (behind : List ℕ)
      → IsCopied g (IsCopy g.Stands line) (in_function (stmt_numbers s behind))
      (in_function behind)
      (checked.statement (inside es body loop labels result) s)
      (checked.statement (inside [] body loop labels result) (written_stmt embedded s))
      (statement (around_of (inside es body loop labels result)) s)
      (statement (around_of (inside [] body loop labels result)) (written_stmt embedded s))

  -- the items of a block
  abbrev pub ItemsAreCopied : Type 0
  ItemsAreCopied = (body loop : Bool) (labels : Named (Unit {0})) (result : Option TyData)
      (ss : StmtList) → ItemsStand es ss → (line : ℕ) (behind : List ℕ)
      → IsCopied g (AreCopies g.Stands line) (in_function (stmts_numbers ss behind))
      (in_function behind)
      (checked.statements (inside es body loop labels result) ss)
      (checked.statements (inside [] body loop labels result) (written_items embedded ss))
      (statements (around_of (inside es body loop labels result)) ss)
      (statements (around_of (inside [] body loop labels result)) (written_items embedded ss))

  abbrev pub FunctionsAreCopied : Type 0
  FunctionsAreCopied = (f : FuncData) → BaseHasLengths f.base → ParamsHaveLengths f.params
      → BodyStands es f.body → (behind : List ℕ) (ts : List TopData)
      → IsCopied g Any (at_top (body_numbers f.body behind) (func_top f ∷ ts)) (at_top behind ts)
      (checked_programs.function_rule es f)
      (checked_programs.function_rule [] (written_func embedded f))
      (function_rule es f) (function_rule [] (written_func embedded f))

  abbrev pub TopsAreCopied : Type 0
  TopsAreCopied = (ts : List TopData) → TopsStand es ts → (behind : List ℕ)
      → IsCopied g Any (at_top (tops_numbers ts behind) ts) (at_top behind [])
      (checked_programs.tops_rule es ts)
      (checked_programs.tops_rule [] (written_tops embedded ts))
      (tops_rule es ts) (tops_rule [] (written_tops embedded ts))
