-- Runs of the first `main` behind the opening are whole runs.
use Rattle.std.proofs.Common.{◌≡◌, ◌∙◌, refl, sym, ap, ℕ, List, [], ◌++◌, Option, Some, None, Ok, Err, slice_get}
use Rattle.ec_base.specs.declared.stop.Trap.TheVariants as traps
use Rattle.ec_code.specs.declared.program.Program.{Program as Coded}
use Rattle.ec_code.specs.Views.{program_view}
use Rattle.ec_meaning_defs.specs.evaluation.Agree.{state_of}
use Rattle.ec_meaning_defs.specs.evaluation.Evaluate.{Step as Knowing}
use Rattle.ec_meaning_defs.specs.evaluation.Results.{Res, value, on, broke, continued, went, back, over}
use Rattle.ec_meaning_defs.specs.evaluation.State.{Answer, Ending, State, trapped}
use Rattle.ec_meaning_defs.specs.evaluation.Whole.{main_run, observed, opening_state, seen}
use Rattle.ec_machine.specs.declared.machine.Machine.{Machine}
use Rattle.ec_machine.specs.Goes.{at, tasks}
use Rattle.ec_memory.specs.declared.store.MakeStop.TheVariants as makes
use Rattle.ec_interp.specs.opening.Opens.{Opens}
use Rattle.ec_meaning_defs.specs.resolved.Programs.{opening_objects}
use Rattle.ec_interp.specs.running.Runs.{Run}
use Rattle.ec_interp.specs.running.Sessions.{Session, placed}
use Rattle.ec_interp.specs.Stepping.{Begins, run_of}

-- ---- whole runs

module _ (knowing : Knowing) (p : Coded) where
  abbrev pub whole_run : ℕ → Run
  whole_run turns = run_of knowing (program_view p) turns

  -- behind the opening comes the first `main`
  pub opened_run : (m : Machine) → Opens (opening_objects (program_view p)) (Ok tt) [] m.store → (k : ℕ) (s : State) → whole_run m.turns k s ≡ main_run knowing (tasks knowing p.functions k) (slice_get (program_view p).functions p.main) (at s m)
  opened_run m o k s = o (record s { turns = m.turns }) (λ t. main_run knowing (tasks knowing p.functions k) (slice_get (program_view p).functions p.main) t)

  pub spent_run : (m : Machine) → Opens (opening_objects (program_view p)) (Err makes.Spent) [] m.store → (k : ℕ) (s : State) → whole_run m.turns k s ≡ over (trapped traps.Spent 1) (at s m)
  spent_run m o k s = o (record s { turns = m.turns }) (λ t. main_run knowing (tasks knowing p.functions k) (slice_get (program_view p).functions p.main) t)

-- what is seen of an answer
pub seen_output : (o : Res) → (observed o).output ≡ (state_of o).output
seen_output (value v s) = refl
seen_output (on s) = refl
seen_output (broke s) = refl
seen_output (continued s) = refl
seen_output (went l s) = refl
seen_output (back v s) = refl
seen_output (over e s) = refl

pub seen_errors : (o : Res) → (observed o).errors ≡ (state_of o).errors
seen_errors (value v s) = refl
seen_errors (on s) = refl
seen_errors (broke s) = refl
seen_errors (continued s) = refl
seen_errors (went l s) = refl
seen_errors (back v s) = refl
seen_errors (over e s) = refl

pub seen_conversation : (o : Res) → (observed o).conversation ≡ (state_of o).conversation
seen_conversation (value v s) = refl
seen_conversation (on s) = refl
seen_conversation (broke s) = refl
seen_conversation (continued s) = refl
seen_conversation (went l s) = refl
seen_conversation (back v s) = refl
seen_conversation (over e s) = refl

-- of a machine's end, whatever is known of the state
pub seen_placed : (y : Option Session) (rest : List Answer) (e : Ending) (s : State) (m : Machine) → seen e (at (placed y rest s) m) ≡ seen e (at s m)
seen_placed None rest e s m = refl
seen_placed (Some y) rest e s m = refl

-- the state in which a run begins is one that the library knows
pub begun_so : (x : Option Session) (ready : Option (ℕ × List ℕ)) (answers : List Answer) (turns : ℕ) → Begins x ready → placed x answers (opening_state ready answers turns) ≡ opening_state ready answers turns
begun_so None ready answers turns b = refl
begun_so (Some x) ready answers turns b = λ i. record (opening_state ready answers turns) { connections = b.0 i; current = b.1 i; descriptors = b.2 i }
