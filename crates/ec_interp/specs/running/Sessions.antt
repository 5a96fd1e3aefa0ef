-- What a library knows of a run, and what a call of it does.
use Rattle.std.specs.Prelude.{◌≡◌, ◌⊎◌, ℕ, Bool, List, [], ◌∷◌, ◌++◌, Option, Some, None, Result, Ok, Err}
use Rattle.ec_bytes.specs.declared.scalar.address.Ptr.{Ptr}
use Rattle.ec_link.specs.declared.logged.Logged.{Logged}
use Rattle.ec_link.specs.declared.request.Request.{Request}
use Rattle.ec_memory_defs.specs.Memory.{Memory, ValueData}
use Rattle.ec_meaning_defs.specs.observed.Observed.{answers_in}
use Rattle.ec_meaning_defs.specs.resolved.Resolved.{library}
use Rattle.ec_meaning_defs.specs.evaluation.Agree.{Agree, Always, Grows, WhenAnswered, state_of}
use Rattle.ec_meaning_defs.specs.evaluation.Evaluate.{World, Step as Knowing}
use Rattle.ec_meaning_defs.specs.evaluation.Expanded.{itself}
use Rattle.ec_meaning_defs.specs.evaluation.Results.{Res, on, over}
use Rattle.ec_meaning_defs.specs.evaluation.State.{Answer, Connection, Item, State, waits}
use Rattle.ec_plain.specs.Answered.{context}
use Rattle.ec_machine.specs.declared.stop.Stop.{Stop}
use Rattle.ec_machine.specs.declared.stop.Stop.TheVariants as stop
use Rattle.ec_machine.specs.Goes.{Fits, ending_view}
use Rattle.ec_interp.specs.declared.running.library.Progress.{Progress}
use Rattle.ec_interp.specs.declared.running.library.Progress.TheVariants as progress

-- ---- steps

-- a step that only adds to what was printed and said
abbrev pub Adds : Knowing → Type 0
Adds knowing = Agree Always (WhenAnswered []) Grows 0 [] knowing knowing itself

-- a step that whole runs go by
pub record Suits (knowing : Knowing) : Type 0 where
  pub fits : Fits knowing
  pub adds : Adds knowing

-- ---- states

-- what a library knows of a state beside its memory, and all that was said
pub record Session : Type 0 where
  pub connections : List Connection
  pub current : Option (List ℕ)
  pub descriptors : List (List ℕ × List Item)
  pub log : List Logged

-- a state with what is known of it, and with these answers still to come. A library that knows nothing of it leaves it as it is
abbrev pub placed : Option Session → List Answer → State → State
placed None answers s = s
placed (Some x) answers s =
    record s {
      connections = x.connections;
      current = x.current;
      descriptors = x.descriptors;
      answers = answers;
    }

-- what was said from one to the other
abbrev pub Said : Option Session → Option Session → List Logged → Type 0
Said None None growth = growth ≡ []
Said None (Some y) growth = ⊥
Said (Some x) None growth = ⊥
Said (Some x) (Some y) growth = y.log ≡ x.log ++ growth

-- a state in which more was said
abbrev pub saying : List Logged → State → State
saying growth s = record s { conversation = s.conversation ++ growth }

-- a state with this memory and these turns
abbrev pub holding : Memory → ℕ → State → State
holding m turns s = record s { memory = m; turns = turns }

-- ---- calls

-- what a call that waits with a request still has to do, by the line of its statement, from a state with its memory, its turns and the answers
abbrev pub Going : Type 0
Going = ℕ → State → Res

-- what a part of a call leads to is what it answers: the call is done and the run goes on, or it waits and goes on as this says, or the run is over; and only a call that waits is kept. After want of memory, what was said is a front of what is said
abbrev pub Leads : ℕ → Result Progress Stop → Option Going → Res → State → Type 0
Leads line (Ok progress.Done) None o s = o ≡ on s
Leads line (Ok progress.Done) (Some g) o s = ⊥
Leads line (Ok progress.Asks) None o s = ⊥
Leads line (Ok progress.Asks) (Some g) o s = o ≡ g line s
Leads line (Err (stop.Over e)) None o s = o ≡ over (ending_view e) s
Leads line (Err (stop.Over e)) (Some g) o s = ⊥
Leads line (Err stop.OutOfMemory) None o s = (more : List Logged)
    × ((state_of o).conversation ≡ s.conversation ++ more)
Leads line (Err stop.OutOfMemory) (Some g) o s = ⊥

-- a part of a call, by the tasks and by whether it stands in the first `main`
abbrev pub Part : Type 0
Part = World → Bool → State → Res

-- A part of a call was carried out: over the answers that came, and then any others, it leads where it says, and leaves exactly the others
pub record Carried (part : Part) (line : ℕ) (m : Memory) (turns : ℕ) (x : Option Session) (m' : Memory) (turns' : ℕ) (y : Option Session)
    (g : Option Going) (result : Result Progress Stop) (growth : List Logged) : Type 0 where
  pub said : Said x y growth
  pub does : (w : World) (first : Bool) (s : State) (rest : List Answer)
      → Leads line result g
      (part w first (holding m turns (placed x (answers_in growth ++ rest) s)))
      (holding m' turns' (placed y rest (saying growth s)))

-- a call was begun, whose first pointers have these values
abbrev pub Started : Knowing → ℕ → List ValueData → ℕ → List Ptr → Memory → ℕ → Option Session → Memory → ℕ → Option Session
    → Option Going → Result Progress Stop → Type 0
Started knowing number given line scope m turns x m' turns' y g result =
    Carried (λ w first s. knowing w (context line scope first) (library number given) s) line m turns x m' turns' y g result []

-- a call was gone on with that still had to do this
pub record Resumed (was : Going) (line : ℕ) (m : Memory) (x : Option Session) (m' : Memory) (y : Option Session) (g : Option Going)
    (result : Result Progress Stop) : Type 0 where
  pub growth : List Logged
  pub carried : (turns : ℕ) → Carried (λ w first s. was line s) line m turns x m' turns y g result growth

-- nothing was said
abbrev pub SameLog : Option Session → Option Session → Type 0
SameLog None None = Unit {0}
SameLog None (Some y) = ⊥
SameLog (Some x) None = ⊥
SameLog (Some x) (Some y) = y.log ≡ x.log

-- one exchange was said
abbrev pub OneMore : Option Session → Option Session → Type 0
OneMore None None = Unit {0}
OneMore None (Some y) = ⊥
OneMore (Some x) None = ⊥
OneMore (Some x) (Some y) = (e : Logged) × (y.log ≡ x.log ++ e ∷ [])

-- or it may not have been said, where there was no memory
abbrev pub AsksOnce : Result Progress Stop → Option Session → Option Session → Type 0
AsksOnce (Ok p) x y = OneMore x y
AsksOnce (Err (stop.Over e)) x y = OneMore x y
AsksOnce (Err stop.OutOfMemory) x y = OneMore x y ⊎ SameLog x y

-- where there is no answer it waits with this request
abbrev pub WaitsFor : Option Going → Option (Option ℕ × Request) → Type 0
WaitsFor None asking = asking ≡ None
WaitsFor (Some g) None = ⊥
WaitsFor (Some g) (Some a) =
    (line : ℕ) (s : State) → g line (record s { answers = [] }) ≡ over (waits a.0 a.1) (record s { answers = [] })
