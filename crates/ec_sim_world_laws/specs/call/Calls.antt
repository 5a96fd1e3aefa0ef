-- A call of the library that is written for a statement, where it stands: what is asked of it, and to what it is resolved.
use Rattle.std.specs.Prelude.{◌≡◌, ℕ, ◌+◌, Bool, true, false, List, [], ◌∷◌, length, Some}
use Rattle.ec_base.specs.declared.line.Line.{Line}
use Rattle.ec_ctypes.specs.trees.Exprs.{ExprData}
use Rattle.ec_ctypes.specs.trees.Stmts.{StmtData, stmt, expr_stmt}
use Rattle.ec_ctypes.specs.trees.Types.{void}
use Rattle.ec_arguments.specs.Arguments.{Arg, pointer, Call, Cut, name_of}
use Rattle.ec_arguments.specs.Rules.{is_call}
use Rattle.ec_arguments.specs.Writing.{arguments}
use Rattle.ec_typing_defs.specs.Expressions as checked
use Rattle.ec_typing_defs.specs.Library.{pointer_argument}
use Rattle.ec_typing_defs.specs.Operands.{OperandData, computed, value_rule}
use Rattle.ec_typing_defs.specs.Statements as checked_statements
use Rattle.ec_typing_defs.specs.Worlds.{Place, World, Rule, out, ◌>>=◌}
use Rattle.ec_expansion_defs.specs.Calls.{call_expr}
use Rattle.ec_phases_defs.specs.written.Calls.{call_with}
use Rattle.ec_meaning_defs.specs.resolved.Resolved.{Exp, library_call, no_exps}
use Rattle.ec_resolving_defs.specs.Calling.{calls_function}
use Rattle.ec_resolving_defs.specs.Expressions.{expr}
use Rattle.ec_resolving_defs.specs.Operands.{found}
use Rattle.ec_resolving_defs.specs.Statements.{Around, statement}
use Rattle.ec_resolving_defs.specs.Storage.{LibraryCall, Storage, reached, with_call}
use Rattle.ec_sim_statement_laws.specs.argument.Arguments.{AreArguments}
use Rattle.ec_sim_statement_laws.specs.expression.Worlds.{KeepsReserved, AllKeepReserved}
use Rattle.ec_sim_statement_laws.specs.statement.Blocks.{call_stm}

-- an expression as a value, by the checks
abbrev pub checked_value : Place → ExprData → Rule OperandData
checked_value at e = checked.expr at e >>= value_rule at

-- a call on this line
abbrev pub cut_of : {A : Type 0} → ℕ → Call A → Cut A
cut_of line c = record { line = line; call = c }

-- ---- what is asked

-- where a call stands
module _ (at : Place) (w : World) (is_text : ExprData → Bool) where
  -- no function is called in a pointer, the checks find no fault in it, and see by its type whether it may lead to a text
  pub record IsSeen (e : ExprData) : Type 0 where
    pub silent : calls_function e ≡ false
    pub without_fault : (checked_value at e w).found ≡ []
    pub kind : pointer_argument (checked_value at e w).answer.type ≡ pointer (is_text e)

  -- each pointer among these arguments
  abbrev pub AreSeen : List (Arg ExprData) → Type 0
  AreSeen [] = Unit {0}
  AreSeen (pointer e ∷ more) = IsSeen e × AreSeen more
  AreSeen (_ ∷ more) = AreSeen more

-- A call in written C, where no reserved name stands for anything: its pointers are resolved, and it keeps the rules by what is seen of them
pub record StandsThere (at : Place) (t : Storage) (w : World) (g : ExprData → Exp)
    (is_text : ExprData → Bool) (line : ℕ) (c : Call ExprData) : Type 0 where
  pub written : w.written ≡ true
  pub reserved_here : KeepsReserved w.here
  pub reserved_outer : AllKeepReserved w.outer
  pub pointers : AreArguments at t w g (arguments (cut_of line c))
  pub seen : AreSeen at w is_text (arguments (cut_of line c))
  pub rules : is_call is_text c ≡ true

-- ---- to what it is resolved

-- the call that is made, with what its pointers are resolved to
abbrev pub made_for : (ExprData → Exp) → ℕ → Call ExprData → LibraryCall
made_for g line c = (name_of c, arguments (cut_of line (call_with g c)))

-- It is one call of the library more, without a value, with no fault, and nothing else is made or known behind it
pub record IsMade (at : Place) (t : Storage) (w : World) (g : ExprData → Exp)
    (line : ℕ) (c : Call ExprData) : Type 0 where
  pub resolved : expr at (call_expr line c) t w
      ≡ reached (found (computed (Some void)) (library_call (length t.calls) no_exps) false)
      (with_call (made_for g line c) t) w
  pub checked : checked.expr at (call_expr line c) w ≡ out (computed (Some void)) [] w

-- the place of a statement on this line that stands next, and what is known in it
abbrev pub next_at : World → Line → Place
next_at w line = record { number = w.places; line = line }

abbrev pub place_passed : World → World
place_passed w = record w { places = w.places + 1 }

-- the call as a statement
abbrev pub call_statement : Line → Call ExprData → StmtData
call_statement line c = stmt line (expr_stmt (call_expr line.0 c))

-- whatever stands round it
pub record IsMadeAlone (t : Storage) (w : World) (g : ExprData → Exp) (line : Line)
    (c : Call ExprData) : Type 0 where
  pub resolved : (a : Around) → statement a (call_statement line c) t w
      ≡ reached (call_stm line.0 (length t.calls)) (with_call (made_for g line.0 c) t)
      (place_passed w)
  pub checked : (a : checked_statements.Around)
      → checked_statements.statement a (call_statement line c) w ≡ out tt [] (place_passed w)
