-- What a library shows, and what its calls promise.
use Rattle.std.specs.Prelude.{◌≡◌, ℕ, false, List, [], ◌∷◌, ◌++◌, map, reverse, Option, None, Result, Ok, Err}
use Rattle.std.specs.declared.alloc.Global.{Global}
use Rattle.std.specs.declared.dyn_box.DynBox.{DynBox}
use Rattle.ec_link.specs.declared.connection.Conn.{Conn}
use Rattle.ec_link.specs.declared.logged.Logged.{Logged}
use Rattle.ec_link.specs.declared.rack.Rack.{Rack}
use Rattle.ec_link.specs.declared.slot.Slot.{Slot}
use Rattle.ec_link.specs.Calls.{TakesReady}
use Rattle.ec_link.specs.Conn.{slot_of}
use Rattle.ec_link.specs.Logged.{Talk}
use Rattle.ec_link.specs.Rack.{slots_of}
use Rattle.ec_link.specs.Slot.{states}
use Rattle.ec_link.specs.SlotState.{ready_slot}
use Rattle.ec_memory_defs.specs.Memory.{Memory}
use Rattle.ec_meaning_defs.specs.observed.Observed.{answers_in}
use Rattle.ec_meaning_defs.specs.evaluation.State as state
use Rattle.ec_meaning_defs.specs.evaluation.State.{Answer, Connection, State}
use Rattle.ec_meaning_defs.specs.evaluation.Results.{on, over}
use Rattle.ec_meaning_defs.specs.evaluation.Whole.{ready_connections, ready_name}
use Rattle.ec_call_defs.specs.Areas.{Areas}
use Rattle.ec_call_defs.specs.Connections.{same_name}
use Rattle.ec_meaning_defs.specs.observed.Run.{IsFront}
use Rattle.ec_call_defs.specs.Growth.{state_of}
use Rattle.ec_call_defs.specs.Outcomes.{Text, Outcome}
use Rattle.ec_call_defs.specs.Steps.{settled}
use Rattle.ec_runtime.specs.declared.library.Library.{Library}
use Rattle.ec_runtime.specs.declared.sessions.Sessions.{Sessions}
use Rattle.ec_runtime.specs.declared.stop.Stop.{Stop}
use Rattle.ec_runtime.specs.declared.stop.CallStop.{CallStop}
use Rattle.ec_runtime.specs.declared.stop.CallStop.TheVariants as calls
use Rattle.ec_runtime.specs.Does.{Does, DoesWith, Placing, Seen, placed_with, saying}
use Rattle.ec_runtime.specs.Opening.{open_view}
use Rattle.ec_runtime.specs.Racks.{AllTaken, Beside, GivesAll, Moves}

-- the program goes on or stops as the call says, on whatever line it stands
abbrev pub Answers : Result (Unit {0}) CallStop → Outcome (Unit {0}) → State → Type 0
Answers (Ok x) o s = (line : ℕ) → settled line o ≡ on s
Answers (Err (calls.Trapped trap)) o s = (line : ℕ) →
    settled line o ≡ over (state.trapped trap line) s
Answers (Err calls.OutOfMemory) o s = Unit {0}

-- after want of memory, what was said is a front of what is said
abbrev pub Stopped : (State → Outcome (Unit {0})) →
    Placing → List Logged → Result (Unit {0}) CallStop → Type 0
Stopped action from growth (Ok a) = Unit {0}
Stopped action from growth (Err (calls.Trapped trap)) = Unit {0}
Stopped action from growth (Err calls.OutOfMemory) =
    (s : State) (rest : List Answer) → IsFront (s.conversation ++ growth)
    (state_of (action (from (answers_in growth ++ rest) s))).conversation

-- over the answers that came, and then any others, the call leads where it says and leaves exactly the others
pub record Carries (action : State → Outcome (Unit {0})) (from to : Placing)
    (growth : List Logged) (result : Result (Unit {0}) CallStop) : Type 0 where
  pub says : (s : State) (rest : List Answer) → Answers result
      (action (from (answers_in growth ++ rest) s)) (to rest (saying growth s))
  pub left : Stopped action from growth result

-- no connection has the name
abbrev pub NoneNamed : Text → List Connection → Type 0
NoneNamed name [] = Unit {0}
NoneNamed name (c ∷ cs) = (same_name c.name name ≡ false) × NoneNamed name cs

-- no two connections have one name
abbrev pub AllNamed : List Connection → Type 0
AllNamed [] = Unit {0}
AllNamed (c ∷ cs) = NoneNamed c.name cs × AllNamed cs

module _ {X : Type 0} {F : X → Type 0} where
  -- the connections of a library, in the order in which they were opened, and their links
  abbrev pub connections_of : Sessions X F → List Connection
  connections_of it = map open_view it.sessions.items

  abbrev pub conns_of : Sessions X F → List (Conn X F)
  conns_of it = map (λ o. o.conn) it.sessions.items

  -- what code sees of a memory and a library
  abbrev pub seen_by : Memory → Sessions X F → Seen
  seen_by m it = record { memory = m; connections = connections_of it; current = it.current }

  -- what it sees comes into a state, with its descriptors
  abbrev pub placed_by : Memory → Library X F → Placing
  placed_by m it = placed_with (seen_by m it.connections) it.areas

  -- the slots of the connections are taken, and no two connections have one slot or one name
  pub record Holds (it : Sessions X F) (rack : Rack X F) : Type 0 where
    pub taken : AllTaken (states (slots_of rack)) (conns_of it)
    pub named : AllNamed (connections_of it)

  -- no two connections have one slot
  abbrev pub AllBeside : List (Conn X F) → Type 0
  AllBeside [] = Unit {0}
  AllBeside (conn ∷ conns) = Beside (slot_of conn) conns × AllBeside conns

  -- the links are those that were there, and names that were apart still are
  pub record Stays (was now : Sessions X F) : Type 0 where
    pub links : conns_of now ≡ conns_of was
    pub named : AllNamed (connections_of was) → AllNamed (connections_of now)

  -- the slot that was ready is taken, and its link is that of the connection; or no slot was ready
  abbrev pub TakesFirst : List (Slot X F) → List (Conn X F) → List (Slot X F) → Type 0
  TakesFirst before [] after = (ready_slot (states before) ≡ None) × (after ≡ before)
  TakesFirst before (conn ∷ []) after = TakesReady before after conn
  TakesFirst before (conn ∷ other ∷ conns) after = ⊥

  pub record Opens (before : List (Slot X F))
      (it : Sessions X F) (after : List (Slot X F)) : Type 0 where
    pub connections : connections_of it ≡ ready_connections (ready_slot (states before))
    pub current : it.current ≡ ready_name (ready_slot (states before))
    pub taken : TakesFirst before (conns_of it) after

  -- the connections are given back, the one opened last first
  abbrev pub Closes : List (Slot X F) → Sessions X F → List (Slot X F) → Type 0
  Closes before it after = GivesAll before (reverse (conns_of it)) after

  module _ (talk : DynBox X Global F → Option Talk) (faults : DynBox X Global F → ℕ) where
    -- a part of a call was carried out over the connections of a library
    pub record Changes {A : Type 0} (action : State → Outcome A) (m : Memory) (old : Rack X F)
        (was : Sessions X F) (m' : Memory) (new : Rack X F) (now : Sessions X F)
        (result : Result A Stop) : Type 0 where
      pub growth : List Logged
      pub moves : Moves talk faults old (conns_of was) new (conns_of now) growth
      pub does : Does action (seen_by m was) (seen_by m' now) growth result

    -- the same for a part that finds and leaves these descriptors
    pub record ChangesWith {A : Type 0} (action : State → Outcome A) (m : Memory) (a : Areas)
        (old : Rack X F) (was : Sessions X F) (m' : Memory) (b : Areas)
        (new : Rack X F) (now : Sessions X F) (result : Result A Stop) : Type 0 where
      pub growth : List Logged
      pub moves : Moves talk faults old (conns_of was) new (conns_of now) growth
      pub does : DoesWith action (seen_by m was) a (seen_by m' now) b growth result

    -- a call was carried out
    pub record Called (action : State → Outcome (Unit {0})) (m : Memory) (old : Rack X F)
        (was : Library X F) (m' : Memory) (new : Rack X F) (now : Library X F)
        (result : Result (Unit {0}) CallStop) : Type 0 where
      pub growth : List Logged
      pub moves : Moves talk faults old (conns_of was.connections) new
          (conns_of now.connections) growth
      pub carries : Carries action (placed_by m was) (placed_by m' now) growth result
