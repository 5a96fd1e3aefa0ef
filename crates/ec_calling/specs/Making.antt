-- What a library knows of a run, and what the beginning of a call over it does.
use Rattle.std.specs.Prelude.{ℕ, Bool, true, false, List, Option, Some, None, Result, Ok, Err}
use Rattle.ec_base.specs.declared.line.Line.{Line}
use Rattle.ec_call_defs.specs.Steps.{settled}
use Rattle.ec_link.specs.declared.logged.Logged.{Logged}
use Rattle.ec_link.specs.declared.rack.Rack.{Rack}
use Rattle.ec_link.specs.Rack.{log_of}
use Rattle.ec_machine.specs.declared.stop.End.TheVariants as ends
use Rattle.ec_machine.specs.declared.stop.Stop.{Stop}
use Rattle.ec_machine.specs.declared.stop.Stop.TheVariants as stop
use Rattle.ec_meaning_defs.specs.evaluation.Evaluate.{World}
use Rattle.ec_meaning_defs.specs.evaluation.Results.{Res, over}
use Rattle.ec_meaning_defs.specs.evaluation.State.{Answer, State, turns_spent}
use Rattle.ec_memory_defs.specs.Memory.{Memory}
use Rattle.ec_interp.specs.declared.running.library.Progress.{Progress}
use Rattle.ec_interp.specs.declared.running.library.Progress.TheVariants as progress
use Rattle.ec_interp.specs.running.Sessions.{Going, Leads, Part, SameLog, Session, holding, placed}
use Rattle.ec_runtime.specs.Calling.{connections_of}
use Rattle.ec_runtime.specs.Proceeding.{waiting_of}
use Rattle.ec_runtime.specs.declared.library.Library.{Library}
use Rattle.ec_runtime.specs.declared.library.Progress.{Progress as Far}
use Rattle.ec_runtime.specs.declared.library.Progress.TheVariants as far
use Rattle.ec_runtime.specs.declared.stop.CallStop.{CallStop}
use Rattle.ec_runtime.specs.declared.stop.CallStop.TheVariants as calls
use Rattle.ec_stopping_defs.specs.Places.{at_places}
use Rattle.ec_stopping_defs.specs.Resuming.{Asking, residual}

-- ---- what the library answers

abbrev pub progress_of : Far → Progress
progress_of far.Asks = progress.Asks
progress_of far.Done = progress.Done

-- how a run goes on behind that, with its traps at this line
abbrev pub answer_of : Line → Result Far CallStop → Result Progress Stop
answer_of line (Ok x) = Ok (progress_of x)
answer_of line (Err (calls.Trapped trap)) = Err (stop.Over (ends.Trapped trap line))
answer_of line (Err calls.OutOfMemory) = Err stop.OutOfMemory

-- ---- what a call that waits still has to do

-- its codes are told with the line of the call, and its traps with that of the statement
abbrev pub going_by : ℕ × Asking → Going
going_by it line s = settled line (residual it.0 it.1 s)

abbrev pub going_in : Option (ℕ × Asking) → Option Going
going_in None = None
going_in (Some it) = Some (going_by it)

-- ---- where a run stands

-- where a run stands between its requests: its memory, the turns that are left, and what the library knows
pub record Position : Type 0 where
  pub memory : Memory
  pub turns : ℕ
  pub known : Option Session

abbrev pub position : Memory → ℕ → Option Session → Position
position m turns x = record { memory = m; turns = turns; known = x }

module _ {X : Type 0} {F : X → Type 0} where
  -- its connections and descriptors, and this log
  abbrev pub session_at : List Logged → Library X F → Session
  session_at log it = record {
    connections = connections_of it.connections;
    current = it.connections.current;
    descriptors = it.areas;
    log = log;
  }

  abbrev pub known_at : List Logged → Library X F → Option Session
  known_at log it = Some (session_at log it)

  -- the log is what the rack's has at its places
  abbrev pub known_of : Rack X F → Library X F → List ℕ → Option Session
  known_of rack it places = known_at (at_places (log_of rack) places) it

  abbrev pub position_at : Memory → ℕ → List Logged → Library X F → Position
  position_at m turns log it = position m turns (known_at log it)

  abbrev pub going_of : Library X F → Option Going
  going_of it = going_in (waiting_of it)

-- ---- parts of a call

-- what goes on where a turn was taken, or the end of the run
abbrev pub turned : Bool → State → (State → Res) → Res
turned true s go = go s
turned false s go = over turns_spent s

-- a run at a position: over its memory, its turns and what the library knows, with these answers still to come
abbrev pub running : Position → List Answer → State → State
running p answers s = holding p.memory p.turns (placed p.known answers s)

-- a part was begun at one position, and stands at another: nothing was asked, and over any answers it leads where it says
pub record Begun (part : Part) (line : ℕ) (old new : Position)
    (going : Option Going) (result : Result Progress Stop) : Type 0 where
  pub quiet : SameLog old.known new.known
  pub does : (w : World) (first : Bool) (s : State) (rest : List Answer)
      → Leads line result going (part w first (running old rest s)) (running new rest s)
