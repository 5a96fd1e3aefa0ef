-- What a step of the machine keeps: the answer of the whole run.
use Rattle.std.specs.Prelude.{◌≡◌, ℕ, ◌<◌, List, ◌++◌, map, Option, reverse, Result, Ok, Err}
use Rattle.ec_base.specs.declared.stop.Trap.TheVariants.{Spent}
use Rattle.ec_code.specs.declared.program.Function.{Function}
use Rattle.ec_code.specs.declared.statement.Statement.{Statement}
use Rattle.ec_code.specs.Views.{function_view, statements_view}
use Rattle.ec_meaning_defs.specs.evaluation.Agree.{CountsTurns}
use Rattle.ec_meaning_defs.specs.evaluation.Evaluate.{Context, World, Step as Knowing}
use Rattle.ec_meaning_defs.specs.evaluation.Execute.{meaning, run_all}
use Rattle.ec_meaning_defs.specs.evaluation.Results.{Res, on_done, over, exits_with, value}
use Rattle.ec_meaning_defs.specs.evaluation.State.{State, Ending, exited, trapped, turns_spent, stuck}
use Rattle.ec_meaning_defs.specs.evaluation.Whole.{without_atoms}
use Rattle.ec_memory.specs.declared.store.MakeStop.{MakeStop}
use Rattle.ec_memory.specs.declared.store.MakeStop.TheVariants as makes
use Rattle.ec_machine.specs.declared.frame.Focus.{Focus}
use Rattle.ec_machine.specs.declared.frame.Focus.TheVariants as focus
use Rattle.ec_machine.specs.declared.frame.Frame.{Frame}
use Rattle.ec_machine.specs.declared.frame.Frame.TheVariants as frame
use Rattle.ec_machine.specs.declared.frame.Way.{Way}
use Rattle.ec_machine.specs.declared.machine.Machine.{Machine}
use Rattle.ec_machine.specs.declared.stop.End.{End}
use Rattle.ec_machine.specs.declared.stop.End.TheVariants as ends
use Rattle.ec_machine.specs.declared.stop.Stop.{Stop}
use Rattle.ec_machine.specs.declared.stop.Stop.TheVariants as stop
use Rattle.ec_machine.specs.Frames.{Env, denote, here, led, outside, plug, resume, without_last}
use Rattle.ec_memory_defs.specs.Memory.{ValueData}
use Rattle.ec_meaning_defs.specs.resolved.Resolved.{embedded}
use Rattle.ec_values.specs.Words.{word_view}

-- the tasks of a program, for runs of at most so many turns
abbrev pub tasks : Knowing → List Function → ℕ → World
tasks knowing fs k = meaning knowing (map function_view fs) k

-- those of a program that has nothing that only a step knows
abbrev pub world : List Function → ℕ → World
world fs k = tasks without_atoms fs k

-- A step that the machine runs with: what it does is the same however many turns the tasks may take beyond those that are left, and it knows calls of the library, but no embedded statement
pub record Fits (knowing : Knowing) : Type 0 where
  pub counts : CountsTurns knowing
  pub embeds : (w : World) (c : Context) (n : ℕ) (s : State) →
      knowing w c (embedded n) s ≡ over stuck s

abbrev pub ending_view : End → Ending
ending_view (ends.Exited n) = exited n
ending_view (ends.Trapped t line) = trapped t line.0
ending_view ends.TurnsSpent = turns_spent
ending_view ends.Stuck = stuck

-- a state with the memory and the turns of a machine
abbrev pub at : State → Machine → State
at s m = record s { memory = m.store; turns = m.turns }

abbrev pub env_of : Machine → Env
env_of m = record { scope = m.scope; first = m.first; values = m.values; otherwise = m.otherwise }

-- where the frames stand once the last values were taken
abbrev pub taken : ℕ → Env → Env
taken n e = record e { values = without_last n e.values }

-- an answer is that of what stopped the machine
abbrev pub Stops : Stop → State → Res → Type 0
Stops (stop.Over e) s o = o ≡ over (ending_view e) s
Stops stop.OutOfMemory s o = Unit {0}

-- from an answer on, the machine stands at a focus with that answer
abbrev pub Stands : Knowing → World → State → Machine → Result Focus Stop → Res → Type 0
Stands knowing w s m (Ok f) o =
    o ≡ resume knowing w (env_of m) (reverse m.frames)
    (denote knowing w (env_of m) m.line m.text f (at s m))
Stands knowing w s m (Err x) o = Stops x (at s m) o

-- what a part of the run leads to, from where the machine stood, is what it stands at now
abbrev pub Goes : List Function → Machine → Env →
    (Knowing → World → State → Res) → Result Focus Stop → Machine → Type 0
Goes fs old e part result new =
    (knowing : Knowing) → Fits knowing → (k : ℕ) (s : State) → old.turns < k
    → Stands knowing (tasks knowing fs k) s new result (resume knowing (tasks knowing fs k) e
    (reverse old.frames) (part knowing (tasks knowing fs k) (at s old)))

-- how the run ends, where there is an ending
abbrev pub IsOver : Stop → Ending → Type 0
IsOver (stop.Over e) x = x ≡ ending_view e
IsOver stop.OutOfMemory x = ⊥

-- what is left where objects were made: a computation goes on, or there was no room on this line
abbrev pub Makes : ℕ → Result (Unit {0}) MakeStop → Res → Res → State → Type 0
Makes line (Ok v) o next s = o ≡ next
Makes line (Err makes.Spent) o next s = o ≡ over (trapped Spent line) s
Makes line (Err makes.OutOfMemory) o next s = Unit {0}

-- what is left of a computation that may end the run: it goes on, or it is over
abbrev pub Passes : Result (Unit {0}) Stop → Res → Res → State → Type 0
Passes (Ok v) o next s = o ≡ next
Passes (Err x) o next s = Stops x s o

-- the first `main` ends the run so
abbrev pub EndsWith : Option ValueData → End → Type 0
EndsWith v e = (s : State) → exits_with v s ≡ over (ending_view e) s

-- what a computation without an effect leads to: a value or a flow, or the end of the run
abbrev pub Returns : Result Focus Stop → (State → Res) → Type 0
Returns (Ok (focus.Value v)) o = (s : State) → o s ≡ value (word_view v) s
Returns (Ok (focus.Leads f)) o = (s : State) → o s ≡ led f s
Returns (Ok f) o = ⊥
Returns (Err x) o = (s : State) → Stops x s (o s)

-- where no object was made, there was no room on this line, or no memory
abbrev pub IsNoRoom : ℕ → MakeStop → Stop → Type 0
IsNoRoom line makes.Spent x = IsOver x (trapped Spent line)
IsNoRoom line makes.OutOfMemory x = x ≡ stop.OutOfMemory

-- a computation is the end of the run
abbrev pub Ends : End → (State → Res) → Type 0
Ends e o = (s : State) → o s ≡ over (ending_view e) s

-- from one computation on, the machine stands before another; or what stopped it is what the first leads to
abbrev pub Enters : Knowing → World → State → Machine →
    Result (Unit {0}) Stop → Machine → Res → Res → Type 0
Enters knowing w s old (Ok v) new o next =
    resume knowing w (env_of old) (reverse old.frames) o
    ≡ resume knowing w (env_of new) (reverse new.frames) next
Enters knowing w s old (Err x) new o next = Stops x (at s new) o

-- the way out of a function waits, behind the statements that stand behind the one that is run
pub record WaitsOutside (x : Way) (rest : List Statement) (old new : Machine) : Type 0 where
  pub more : List Frame
  pub frames : new.frames ≡ old.frames ++ more
  pub resumes : (knowing : Knowing) (w : World) (o : Res) →
      resume knowing w (env_of new) (reverse new.frames) o
      ≡ resume knowing w (outside x (env_of old)) (reverse old.frames)
      (plug knowing w (env_of old) (frame.Call x) (on_done o
      (λ u. run_all knowing w (here (env_of old) x.line) (statements_view rest) u)))
