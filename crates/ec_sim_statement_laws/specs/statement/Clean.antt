-- Programs whose expressions call no library, and whose embedded statements stand where something holds of their line and number.
use Rattle.std.specs.Prelude.{◌≡◌, ℕ, false, List, Option, Some, None, slice_get}
use Rattle.ec_meaning_defs.specs.resolved.Programs.{Function, Program}
use Rattle.ec_meaning_defs.specs.resolved.Resolved.{Exp, Stm, on_line, nothing, evaluate, declare, initialize, block, choose, loop, leave, next, return, goto, label, select, embedded_statement, Stms, no_stms, stms}
use Rattle.ec_meaning_defs.specs.evaluation.Evaluate.{Task, calls, turn_of, look_for}
use Rattle.ec_sim_statement_laws.specs.statement.Blocks.{has_call, have_call}

abbrev pub CallsNone : Exp → Type 0
CallsNone e = has_call e ≡ false

abbrev pub CallsNoneIn : Option Exp → Type 0
CallsNoneIn None = Unit {0}
CallsNoneIn (Some e) = CallsNone e

-- by what holds of an embedded statement on a line
module _ (P : ℕ → ℕ → Type 0) where
  abbrev mutual
    -- a statement that stands on this line
    pub Clean : ℕ → Stm → Type 0
    Clean line (on_line n x) = Clean n x
    Clean line nothing = Unit {0}
    Clean line (evaluate e) = CallsNone e
    Clean line (declare i size) = Unit {0}
    Clean line (initialize i size es) = have_call es ≡ false
    Clean line (block sizes b) = AllClean line b
    Clean line (choose e a b) = CallsNone e × Clean line a × Clean line b
    Clean line (loop first test behind x) = CallsNoneIn test × CallsNoneIn behind × Clean line x
    Clean line leave = Unit {0}
    Clean line next = Unit {0}
    Clean line (return e) = CallsNoneIn e
    Clean line (goto l) = Unit {0}
    Clean line (label l x) = Clean line x
    Clean line (select e x) = CallsNone e × Clean line x
    Clean line (embedded_statement n) = P line n

    pub AllClean : ℕ → Stms → Type 0
    AllClean line no_stms = Unit {0}
    AllClean line (stms a b) = Clean line a × AllClean line b

  abbrev pub CleanTask : Task → Type 0
  CleanTask (calls line f vs) = Unit {0}
  CleanTask (turn_of c test behind x) = CallsNoneIn test × CallsNoneIn behind × Clean c.line x
  CleanTask (look_for c l b) = AllClean c.line b

  -- the bodies of functions, whichever line a call stands on
  abbrev pub CleanFunctions : List Function → Type 0
  CleanFunctions fs =
      (f : ℕ) (g : Function) → slice_get fs f ≡ Some g → (line : ℕ) → AllClean line g.body

  abbrev pub CleanProgram : Program → Type 0
  CleanProgram p = CleanFunctions p.functions
