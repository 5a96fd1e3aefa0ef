-- What a run of the machine does from a focus on, where a library makes the calls: it comes to another focus, or it is left. `x` and `y` are what the library knows before and behind.
use Rattle.std.specs.Prelude.{◌≡◌, ◌⊎◌, ℕ, ◌<◌, ◌≤◌, ◌^◌, List, ◌++◌, Option, Some, None}
use Rattle.ec_code.specs.declared.program.Function.{Function}
use Rattle.ec_link.specs.declared.logged.Logged.{Logged}
use Rattle.ec_meaning_defs.specs.observed.Observed.{answers_in}
use Rattle.ec_meaning_defs.specs.evaluation.Agree.{Grows, state_of}
use Rattle.ec_meaning_defs.specs.evaluation.Evaluate.{Step as Knowing}
use Rattle.ec_meaning_defs.specs.evaluation.Results.{over}
use Rattle.ec_meaning_defs.specs.evaluation.State.{Answer, State}
use Rattle.ec_machine.specs.declared.frame.Focus.{Focus}
use Rattle.ec_machine.specs.declared.machine.Machine.{Machine}
use Rattle.ec_machine.specs.declared.stop.End.{End}
use Rattle.ec_machine.specs.Goes.{at, ending_view}
use Rattle.ec_interp.specs.declared.running.halt.Halt.{Halt}
use Rattle.ec_interp.specs.declared.running.halt.Halt.TheVariants as halt
use Rattle.ec_interp.specs.running.Printing.{Prints, PrintsLast}
use Rattle.ec_interp.specs.running.Runs.{Run, answer_going, answer_with}
use Rattle.ec_interp.specs.running.Sessions.{Going, OneMore, Said, SameLog, Session, placed}

-- a state, with what was printed on both outputs and said since
abbrev pub grown : List ℕ → List ℕ → List Logged → State → State
grown printed complained growth s =
    record s {
      output = s.output ++ printed;
      errors = s.errors ++ complained;
      conversation = s.conversation ++ growth;
    }

module _ (turns : ℕ) (run : Run) (x y : Option Session)
    (printed complained : List ℕ) (growth : List Logged) where
  -- a run of so many turns comes to a focus, over the answers that came and then any others, and leaves exactly the others
  abbrev pub LeadsWith : Knowing → List Function → Machine → Focus → Type 0
  LeadsWith knowing fs new g =
      (k : ℕ) (s : State) (rest : List Answer) → turns < k
      → run k (placed x (answers_in growth ++ rest) s)
      ≡ answer_with knowing fs k new g (placed y rest (grown printed complained growth s))

  -- it comes to a request of a call that still has to do this
  abbrev pub GoesWith : Knowing → List Function → Machine → Going → Type 0
  GoesWith knowing fs new g =
      (k : ℕ) (s : State) (rest : List Answer) → turns < k
      → run k (placed x (answers_in growth ++ rest) s)
      ≡ answer_going knowing fs k new g (placed y rest (grown printed complained growth s))

  -- it is over with this ending, with the memory and the turns of the machine
  abbrev pub EndsWith : Machine → End → Type 0
  EndsWith new e =
      (k : ℕ) (s : State) (rest : List Answer) → turns < k
      → run k (placed x (answers_in growth ++ rest) s)
      ≡ over (ending_view e) (at (placed y rest (grown printed complained growth s)) new)

  -- it prints and says this first
  abbrev pub BeginsWith : Type 0
  BeginsWith =
      (k : ℕ) (s : State) (rest : List Answer) → turns < k
      → Grows (grown printed complained growth s)
      (state_of (run k (placed x (answers_in growth ++ rest) s)))

module _ {O E : Type 0} (held : O → Option (List ℕ)) (faults : O → ℕ) (held' : E → Option (List ℕ))
    (faults' : E → ℕ) (turns : ℕ) (run : Run) (x y : Option Session)
    (out out' : O) (err err' : E) (new : Machine) where
  -- a run comes to a focus, and the outputs took what it printed
  pub record ComesWith (knowing : Knowing) (fs : List Function) (g : Focus) : Type 0 where
    pub printed : List ℕ
    pub complained : List ℕ
    pub growth : List Logged
    pub said : Said x y growth
    pub prints : Prints held faults held' faults' out out' err err' printed complained
    pub leads : LeadsWith turns run x y printed complained growth knowing fs new g
    pub fewer : new.turns ≤ turns

  -- it is over, and the outputs took what it printed
  pub record IsOverWith (e : End) : Type 0 where
    pub printed : List ℕ
    pub complained : List ℕ
    pub growth : List Logged
    pub said : Said x y growth
    pub prints : Prints held faults held' faults' out out' err err' printed complained
    pub ends : EndsWith turns run x y printed complained growth new e

  -- an output failed, behind the front of what it prints
  pub record IsFaultWith : Type 0 where
    pub printed : List ℕ
    pub complained : List ℕ
    pub growth : List Logged
    pub said : Said x y growth
    pub prints : PrintsLast held faults held' faults' out out' err err' printed complained
    pub begins : BeginsWith turns run x y printed complained growth

  -- it was left, and the outputs took the front of what it prints
  pub record IsLeftWith : Type 0 where
    pub printed : List ℕ
    pub complained : List ℕ
    pub growth : List Logged
    pub said : Said x y growth
    pub prints : Prints held faults held' faults' out out' err err' printed complained
    pub begins : BeginsWith turns run x y printed complained growth

  -- it comes to a request that waits, and the outputs took what it printed
  pub record AsksWith (knowing : Knowing) (fs : List Function) (going : Option Going) : Type 0 where
    pub printed : List ℕ
    pub complained : List ℕ
    pub growth : List Logged
    pub said : Said x y growth
    pub prints : Prints held faults held' faults' out out' err err' printed complained
    pub asks : Going
    pub is : going ≡ Some asks
    pub goes : GoesWith turns run x y printed complained growth knowing fs new asks
    pub fewer : new.turns ≤ turns

  abbrev pub HaltsWith : Knowing → List Function → Option Going → Halt → Type 0
  HaltsWith knowing fs going halt.Asks = AsksWith knowing fs going
  HaltsWith knowing fs going (halt.Over e) = IsOverWith e
  HaltsWith knowing fs going halt.WriteFault = IsFaultWith
  HaltsWith knowing fs going halt.OutOfMemory = IsLeftWith

-- one exchange was said, unless there was no memory
abbrev pub HaltsOnce : Halt → Option Session → Option Session → Type 0
HaltsOnce halt.Asks x y = OneMore x y
HaltsOnce (halt.Over e) x y = OneMore x y
HaltsOnce halt.WriteFault x y = OneMore x y
HaltsOnce halt.OutOfMemory x y = OneMore x y ⊎ SameLog x y

-- only a call that waits is kept
abbrev pub Idle : Halt → Option Going → Type 0
Idle halt.Asks going = Unit {0}
Idle (halt.Over e) going = going ≡ None
Idle halt.WriteFault going = going ≡ None
Idle halt.OutOfMemory going = going ≡ None

-- up to a request the run takes a turn, and so many requests of the call may be left that a machine
-- counts them
abbrev pub TakesTurn : Halt → ℕ → ℕ → ℕ → Type 0
TakesTurn halt.Asks turns turns' n' = (turns' < turns) × (n' < 2 ^ 64)
TakesTurn (halt.Over e) turns turns' n' = Unit {0}
TakesTurn halt.WriteFault turns turns' n' = Unit {0}
TakesTurn halt.OutOfMemory turns turns' n' = Unit {0}

-- from one request to the next it takes a turn, or fewer requests of the call are left
abbrev pub Nears : Halt → ℕ → ℕ → ℕ → ℕ → Type 0
Nears halt.Asks turns turns' n n' =
    ((turns' < turns) × (n' < 2 ^ 64)) ⊎ ((turns' ≡ turns) × (n' < n))
Nears (halt.Over e) turns turns' n n' = Unit {0}
Nears halt.WriteFault turns turns' n n' = Unit {0}
Nears halt.OutOfMemory turns turns' n n' = Unit {0}
