-- What a part of a call does that asks a server whose answers aren't known beforehand: over the answers that came, and then any others, it leads where it says and leaves exactly the others.
use Rattle.std.specs.Prelude.{◌≡◌, ℕ, nat_eq, false, List, [], ◌∷◌, ◌++◌, Option, Result, Ok, Err}
use Rattle.std.specs.declared.alloc.Global.{Global}
use Rattle.std.specs.declared.dyn_box.DynBox.{DynBox}
use Rattle.ec_link.specs.declared.logged.Logged.{Logged}
use Rattle.ec_link.specs.declared.rack.Rack.{Rack}
use Rattle.ec_link.specs.Calls.{Asks}
use Rattle.ec_link.specs.Conn.{slot_of}
use Rattle.ec_link.specs.Logged.{Talk}
use Rattle.ec_memory_defs.specs.Memory.{Memory}
use Rattle.ec_meaning_defs.specs.observed.Observed.{answers_in}
use Rattle.ec_meaning_defs.specs.evaluation.State.{Answer, Connection, State}
use Rattle.ec_meaning_defs.specs.observed.Run.{IsFront}
use Rattle.ec_call_defs.specs.Areas.{Areas}
use Rattle.ec_call_defs.specs.Growth.{state_of}
use Rattle.ec_call_defs.specs.Outcomes.{Text, Outcome}
use Rattle.ec_runtime.specs.declared.open.Open.{Open}
use Rattle.ec_runtime.specs.declared.stop.Stop.{Stop}
use Rattle.ec_runtime.specs.declared.stop.Stop.TheVariants as stops
use Rattle.ec_runtime.specs.Opening.{open_view}
use Rattle.ec_runtime.specs.Says.{Says}

-- what code sees of a state: the memory, the connections that are open, in the order in which they were opened, and the name of the current one
pub record Seen : Type 0 where
  pub memory : Memory
  pub connections : List Connection
  pub current : Option Text

-- a state with what is seen, and with these answers. The descriptors are what they are
abbrev pub placed : Seen → List Answer → State → State
placed x answers s = record s {
  memory = x.memory;
  connections = x.connections;
  current = x.current;
  answers = answers;
}

-- the same with these descriptors
abbrev pub placed_with : Seen → Areas → List Answer → State → State
placed_with x areas answers s = record s {
  memory = x.memory;
  connections = x.connections;
  current = x.current;
  descriptors = areas;
  answers = answers;
}

-- a state in which more was said
abbrev pub saying : List Logged → State → State
saying growth s = record s { conversation = s.conversation ++ growth }

-- how what is seen comes into a state, with these answers
abbrev pub Placing : Type 0
Placing = List Answer → State → State

-- after want of memory, what was said is a front of what is said
abbrev pub LeftFrom : {A : Type 0} → (State → Outcome A) → Placing → List Logged → Result A Stop →
    Type 0
LeftFrom action from growth (Ok a) = Unit {0}
LeftFrom action from growth (Err stops.Finished) = Unit {0}
LeftFrom action from growth (Err (stops.Trapped trap)) = Unit {0}
LeftFrom action from growth (Err stops.OutOfMemory) =
    (s : State) (rest : List Answer) → IsFront (s.conversation ++ growth)
    (state_of (action (from (answers_in growth ++ rest) s))).conversation

pub record DoesFrom {A : Type 0} (action : State → Outcome A) (from to : Placing)
    (growth : List Logged) (result : Result A Stop) : Type 0 where
  pub says : (s : State) (rest : List Answer) →
      Says result (action (from (answers_in growth ++ rest) s)) (to rest (saying growth s))
  pub left : LeftFrom action from growth result

-- a part that leaves the descriptors, whatever they are
abbrev pub Left : {A : Type 0} → (State → Outcome A) → Seen → List Logged → Result A Stop → Type 0
Left action x growth result = LeftFrom action (placed x) growth result

abbrev pub Does : {A : Type 0} → (State → Outcome A) → Seen → Seen → List Logged →
    Result A Stop → Type 0
Does action x y growth result = DoesFrom action (placed x) (placed y) growth result

-- a part that finds and leaves these descriptors
abbrev pub DoesWith : {A : Type 0} → (State → Outcome A) → Seen → Areas → Seen → Areas →
    List Logged → Result A Stop → Type 0
DoesWith action x a y b growth result =
    DoesFrom action (placed_with x a) (placed_with y b) growth result

-- ---- one connection among others

-- the connections that were opened before one and behind it, and the name of the current one
pub record Around : Type 0 where
  pub before : List Connection
  pub behind : List Connection
  pub current : Option Text

abbrev pub among : Around → Connection → List Connection
among around c = around.before ++ c ∷ around.behind

-- what is seen of a memory, and of a connection among others
abbrev pub seen : {X : Type 0} {F : X → Type 0} → Around → Memory → Open X F → Seen
seen around m o = record {
  memory = m;
  connections = among around (open_view o);
  current = around.current;
}

-- no connection has the slot
abbrev pub NoneAt : ℕ → List Connection → Type 0
NoneAt slot [] = Unit {0}
NoneAt slot (c ∷ cs) = (nat_eq c.slot slot ≡ false) × NoneAt slot cs

-- no connection that was opened before has the slot
abbrev pub Apart : ℕ → Around → Type 0
Apart slot around = NoneAt slot around.before

module _ {X : Type 0} {F : X → Type 0} (talk : DynBox X Global F → Option Talk)
    (faults : DynBox X Global F → ℕ) where
  -- the same over a rack: the log and the talk of the connection's link grew by what was said, and it keeps its name
  pub record Over {A : Type 0} (action : State → Outcome A)
      (m : Memory) (old : Rack X F) (was : Open X F) (m' : Memory)
      (new : Rack X F) (now : Open X F) (result : Result A Stop) : Type 0 where
    pub growth : List Logged
    pub asks : Asks talk faults old was.conn new now.conn growth
    pub named : now.name ≡ was.name
    pub does : (around : Around) → Apart (slot_of was.conn) around
        → Does action (seen around m was) (seen around m' now) growth result

  -- the same for a part that finds and leaves these descriptors
  pub record OverWith {A : Type 0} (action : State → Outcome A)
      (m : Memory) (a : Areas) (old : Rack X F) (was : Open X F) (m' : Memory) (b : Areas)
      (new : Rack X F) (now : Open X F) (result : Result A Stop) : Type 0 where
    pub growth : List Logged
    pub asks : Asks talk faults old was.conn new now.conn growth
    pub named : now.name ≡ was.name
    pub does : (around : Around) → Apart (slot_of was.conn) around
        → DoesWith action (seen around m was) a (seen around m' now) b growth result
