-- Runs that stop before each request, beside what their program means.
use Rattle.std.specs.Prelude.{◌≡◌, ℕ, ◌≤◌, List, [], ◌++◌, Option, Some, None}
use Rattle.ec_code.specs.declared.program.Program.{Program as Coded}
use Rattle.ec_code.specs.Views.{program_view}
use Rattle.ec_link.specs.declared.logged.Logged.{Logged}
use Rattle.ec_link.specs.declared.request.Request.{Request}
use Rattle.ec_meaning_defs.specs.observed.Observed.{answers_in}
use Rattle.ec_meaning_defs.specs.observed.Run.{IsFront}
use Rattle.ec_meaning_defs.specs.resolved.Programs.{Program}
use Rattle.ec_meaning_defs.specs.evaluation.Evaluate.{Step as Knowing}
use Rattle.ec_meaning_defs.specs.evaluation.State.{Answer, Ending, exited, trapped, turns_spent, waits, stuck}
use Rattle.ec_meaning_defs.specs.evaluation.Whole.{Observed, program_meaning, ready_connections, ready_name, whole_within}
use Rattle.ec_machine.specs.declared.machine.Machine.{Machine as Frames}
use Rattle.ec_memory_defs.specs.Memory.{Memory}
use Rattle.ec_interp.specs.running.LibraryRuns.{GoesWith}
use Rattle.ec_interp.specs.running.Printing.{Prints, PrintsLast}
use Rattle.ec_interp.specs.running.Runs.{Run}
use Rattle.ec_interp.specs.running.Sessions.{Going, Said, Session}
use Rattle.ec_interp.specs.declared.end.RunEnd.{RunEnd}
use Rattle.ec_interp.specs.declared.end.RunEnd.TheVariants as end
use Rattle.ec_interp.specs.declared.end.Step.{Step}
use Rattle.ec_interp.specs.declared.end.Step.TheVariants as step
use Rattle.ec_interp.specs.declared.machine.Machine.{Machine}

-- the machine has not run yet
pub record IsNew (m : Machine) : Type 0 where
  pub store : m.frames.store ≡ []
  pub no_frames : m.frames.frames ≡ []
  pub no_objects : m.frames.scope.count ≡ 0

-- a library begins a run over a slot and a name that are connected, or over none
abbrev pub Begins : Option Session → Option (ℕ × List ℕ) → Type 0
Begins None ready = Unit {0}
Begins (Some x) ready = (x.connections ≡ ready_connections ready)
    × (x.current ≡ ready_name ready) × (x.descriptors ≡ [])

-- the run of a program from a state without objects, with so many turns
abbrev pub run_of : Knowing → Program → ℕ → Run
run_of knowing p turns k s = whole_within knowing p k (record s { memory = []; turns = turns })

-- Where a machine stands that was left before a request: it is the run that began with this known of it, over the answers to what was said
pub record IsAsking (knowing : Knowing) (p : Coded) (turns : ℕ) (x : Session) (said : List Logged)
    (y : Option Session) (going : Option Going) (m : Frames) : Type 0 where
  pub printed : List ℕ
  pub complained : List ℕ
  pub is_said : Said (Some x) y said
  pub asks : Going
  pub is : going ≡ Some asks
  pub goes : GoesWith turns (run_of knowing (program_view p) turns) (Some x) y printed complained said
      knowing p.functions m asks
  pub fewer : m.turns ≤ turns

-- ---- what a step of a run shows

-- `held` and `faults` are the members of the sinks
module _ {O E : Type 0} (held : O → Option (List ℕ)) (faults : O → ℕ)
    (held' : E → Option (List ℕ)) (faults' : E → ℕ) (out out' : O) (err err' : E) where
  -- `output` and `errors` were printed before, `seen` is what is seen of the run over the answers so far, and `said` is all that was said
  module _ (output errors : List ℕ) (seen : Observed) (said : List Logged) where
    -- the run ends or waits so, the outputs took the rest of what it prints, and the memory is its memory
    pub record ShowsAll (store : Memory) (ending : Ending) : Type 0 where
      pub printed : List ℕ
      pub complained : List ℕ
      pub output_rest : seen.output ≡ output ++ printed
      pub errors_rest : seen.errors ≡ errors ++ complained
      pub prints : Prints held faults held' faults' out out' err err' printed complained
      pub conversation : seen.conversation ≡ said
      pub memory : store ≡ seen.memory
      pub ends : seen.ending ≡ ending

    -- an output failed, behind the front of the rest
    pub record ShowsFault : Type 0 where
      pub printed : List ℕ
      pub complained : List ℕ
      pub prints : PrintsLast held faults held' faults' out out' err err' printed complained
      pub output_front : IsFront (output ++ printed) seen.output
      pub errors_front : IsFront (errors ++ complained) seen.errors
      pub conversation : IsFront said seen.conversation

    -- the run was left, and the outputs took the front of the rest
    pub record ShowsFront : Type 0 where
      pub printed : List ℕ
      pub complained : List ℕ
      pub prints : Prints held faults held' faults' out out' err err' printed complained
      pub output_front : IsFront (output ++ printed) seen.output
      pub errors_front : IsFront (errors ++ complained) seen.errors
      pub conversation : IsFront said seen.conversation

    abbrev pub Shows : Memory → Option (Option ℕ × Request) → Step → Type 0
    Shows store None step.Asks = ⊥
    Shows store (Some a) step.Asks = ShowsAll store (waits a.0 a.1)
    Shows store asking (step.Ended (end.Exited n)) = ShowsAll store (exited n)
    Shows store asking (step.Ended (end.Trapped trap line)) = ShowsAll store (trapped trap line.0)
    Shows store asking (step.Ended end.TurnsSpent) = ShowsAll store turns_spent
    Shows store asking (step.Ended end.Stuck) = ShowsAll store stuck
    Shows store asking (step.Ended end.WriteFault) = ShowsFault
    Shows store asking (step.Ended end.OutOfMemory) = ShowsFront

-- A step was made of a run that began with `x` known of it and so many turns, behind `said`: `y`, `going` and `asking` are what is known behind it, and `output` and `errors` what it had printed, by the slot and the name that are connected when it begins
pub record Steps {O E : Type 0} (held : O → Option (List ℕ)) (faults : O → ℕ)
    (held' : E → Option (List ℕ)) (faults' : E → ℕ) (knowing : Knowing) (p : Coded) (turns : ℕ)
    (x : Session) (said : List Logged) (output errors : Option (ℕ × List ℕ) → List ℕ)
    (y : Option Session) (going : Option Going) (asking : Option (Option ℕ × Request))
    (out out' : O) (err err' : E) (m : Frames) (result : Step) : Type 0 where
  pub growth : List Logged
  pub is_said : Said (Some x) y (said ++ growth)
  pub shows : (ready : Option (ℕ × List ℕ)) → Begins (Some x) ready
      → Shows held faults held' faults' out out' err err' (output ready) (errors ready)
      (program_meaning knowing (program_view p) turns ready (answers_in (said ++ growth)))
      (said ++ growth) m.store asking result
  pub stands : result ≡ step.Asks → IsAsking knowing p turns x (said ++ growth) y going m
