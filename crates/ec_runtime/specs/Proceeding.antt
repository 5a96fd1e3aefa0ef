-- Where a call of a library is, and what it promises from one request to the next.
use Rattle.std.specs.Prelude.{◌≡◌, ◌<◌, ℕ, List, ◌++◌, Option, Some, None, Result, Ok, Err, ◌⊎◌, [], ◌∷◌}
use Rattle.std.specs.declared.alloc.Global.{Global}
use Rattle.std.specs.declared.dyn_box.DynBox.{DynBox}
use Rattle.ec_arguments.specs.Arguments.{Cut}
use Rattle.ec_base.specs.declared.line.Line.{Line}
use Rattle.ec_link.specs.declared.logged.Logged.{Logged}
use Rattle.ec_link.specs.declared.rack.Rack.{Rack}
use Rattle.ec_link.specs.declared.request.Request.{Request}
use Rattle.ec_link.specs.Logged.{Talk}
use Rattle.ec_memory_defs.specs.Memory.{Memory}
use Rattle.ec_meaning_defs.specs.observed.Observed.{answers_in}
use Rattle.ec_meaning_defs.specs.observed.Run.{IsFront}
use Rattle.ec_meaning_defs.specs.evaluation.State.{Answer, Connection, State}
use Rattle.ec_call_defs.specs.Areas.{Areas}
use Rattle.ec_call_defs.specs.Growth.{state_of}
use Rattle.ec_call_defs.specs.Outcomes.{Outcome, finished, gives, over, trapped}
use Rattle.ec_stopping_defs.specs.Resuming.{Asking, asks_for, is_asked_over, started, stepped}
use Rattle.ec_stopping_defs.specs.Saying.{exchange_of, requests_left}
use Rattle.ec_runtime.specs.declared.library.Library.{Library}
use Rattle.ec_runtime.specs.declared.library.Pending.{Pending}
use Rattle.ec_runtime.specs.declared.library.Progress.{Progress}
use Rattle.ec_runtime.specs.declared.library.Progress.TheVariants as progress
use Rattle.ec_runtime.specs.declared.stop.Stop.{Stop}
use Rattle.ec_runtime.specs.declared.stop.Stop.TheVariants as stops
use Rattle.ec_runtime.specs.declared.stop.CallStop.{CallStop}
use Rattle.ec_runtime.specs.declared.stop.CallStop.TheVariants as calls
use Rattle.ec_runtime.specs.declared.waiting.UnderWay.{UnderWay}
use Rattle.ec_runtime.specs.declared.waiting.Waiting.{Waiting}
use Rattle.ec_runtime.specs.Calling.{connections_of, conns_of, placed_by}
use Rattle.ec_runtime.specs.Does.{Placing, saying}
use Rattle.ec_runtime.specs.Racks.{Moves}
use Rattle.ec_runtime.specs.Waiting.{asking_of, Fits}

-- how far a call is behind a part
abbrev pub progress_of : Result (Option Waiting) Stop → Result Progress CallStop
progress_of (Ok None) = Ok progress.Done
progress_of (Ok (Some it)) = Ok progress.Asks
progress_of (Err stops.Finished) = Ok progress.Done
progress_of (Err (stops.Trapped trap)) = Err (calls.Trapped trap)
progress_of (Err stops.OutOfMemory) = Err calls.OutOfMemory

-- and what is under way
abbrev pub kept_of : Line → Result (Option Waiting) Stop → Option UnderWay
kept_of line (Ok None) = None
kept_of line (Ok (Some it)) = Some (record { line = line; waiting = it })
kept_of line (Err stop) = None

-- the request that waits, with the line of its call
abbrev pub waiting_in : List Connection → Option UnderWay → Option (ℕ × Asking)
waiting_in cs None = None
waiting_in cs (Some it) = Some (it.line.0, asking_of cs it.waiting)

-- with the slot that it goes to
abbrev pub asked_of : Option (ℕ × Asking) → Option (Option ℕ × Request)
asked_of None = None
asked_of (Some it) = Some (is_asked_over it.1, asks_for it.1)

abbrev pub pending_view : Option Pending → Option (Option ℕ × Request)
pending_view None = None
pending_view (Some it) = Some (it.slot, it.request.now)

-- how many requests it still makes at most
abbrev pub left_of : Option (ℕ × Asking) → ℕ
left_of None = 0
left_of (Some it) = requests_left it.1

-- where it asks further, fewer requests are left
abbrev pub Nears : Result Progress CallStop → ℕ → ℕ → Type 0
Nears (Ok progress.Asks) before after = after < before
Nears (Ok progress.Done) before after = Unit {0}
Nears (Err stop) before after = Unit {0}

-- what is under way fits the connections and descriptors
abbrev pub UnderWayFits : List Connection → Areas → Option UnderWay → Type 0
UnderWayFits cs areas None = Unit {0}
UnderWayFits cs areas (Some it) = Fits cs areas (Some it.waiting)

-- a call is at its end in this state, where it got with a code or without
abbrev pub IsEnd : Outcome (Option Asking) → State → Type 0
IsEnd (gives None t) s = t ≡ s
IsEnd (gives (Some u) t) s = ⊥
IsEnd (finished t) s = t ≡ s
IsEnd (over halt t) s = ⊥

-- A call of this line asks exactly this next, which is kept; or it is at its end, or traps, and nothing is under way. This
-- state is reached. Of want of memory nothing is said
abbrev pub Proceeds : Result Progress CallStop → Option (ℕ × Asking) → ℕ →
    Outcome (Option Asking) → State → Type 0
Proceeds (Ok progress.Asks) kept line o s =
    (u : Asking) × (kept ≡ Some (line, u)) × (o ≡ gives (Some u) s)
Proceeds (Ok progress.Done) kept line o s = (kept ≡ None) × IsEnd o s
Proceeds (Err (calls.Trapped trap)) kept line o s =
    (kept ≡ None) × (o ≡ over (trapped trap) s)
Proceeds (Err calls.OutOfMemory) kept line o s = kept ≡ None

-- after want of memory, what was said is a front of what is said
abbrev pub StoppedAt : (State → Outcome (Option Asking)) → Placing → List Logged →
    Result Progress CallStop → Type 0
StoppedAt action from growth (Ok progress) = Unit {0}
StoppedAt action from growth (Err (calls.Trapped trap)) = Unit {0}
StoppedAt action from growth (Err calls.OutOfMemory) =
    (s : State) (rest : List Answer) → IsFront (s.conversation ++ growth)
    (state_of (action (from (answers_in growth ++ rest) s))).conversation

-- this was said: the request that waited, with its answer
abbrev pub IsAsked : Asking → List Logged → Type 0
IsAsked u growth = (a : Answer) × (growth ≡ exchange_of u a ∷ [])

-- and nothing else; after want of memory maybe nothing
abbrev pub IsOnce : Asking → Result Progress CallStop → List Logged → Type 0
IsOnce u (Ok progress) growth = IsAsked u growth
IsOnce u (Err (calls.Trapped trap)) growth = IsAsked u growth
IsOnce u (Err calls.OutOfMemory) growth = (growth ≡ []) ⊎ IsAsked u growth

module _ {X : Type 0} {F : X → Type 0} where
  abbrev pub waiting_of : Library X F → Option (ℕ × Asking)
  waiting_of it = waiting_in (connections_of it.connections) it.under_way

  abbrev pub IsFit : Library X F → Type 0
  IsFit it = UnderWayFits (connections_of it.connections) it.areas it.under_way

  -- a call was begun: nothing was said, and no answer was taken
  abbrev pub Starts : Cut ℕ → Memory → Library X F → Memory → Library X F →
      Result Progress CallStop → Type 0
  Starts c m was m' now result = (s : State) (rest : List Answer) →
      Proceeds result (waiting_of now) c.line
      (started c (placed_by m was rest s)) (placed_by m' now rest s)

  module _ (talk : DynBox X Global F → Option Talk) (faults : DynBox X Global F → ℕ) where
    -- a request was made, and the call goes on to the next one or to its end
    pub record Resumes (line : ℕ) (u : Asking) (m : Memory) (old : Rack X F)
        (was : Library X F) (m' : Memory) (new : Rack X F) (now : Library X F)
        (result : Result Progress CallStop) : Type 0 where
      pub growth : List Logged
      pub moves : Moves talk faults old (conns_of was.connections) new
          (conns_of now.connections) growth
      pub proceeds : (s : State) (rest : List Answer) → Proceeds result (waiting_of now) line
          (stepped line u (placed_by m was (answers_in growth ++ rest) s))
          (placed_by m' now rest (saying growth s))
      pub once : IsOnce u result growth
      pub left : StoppedAt (stepped line u) (placed_by m was) growth result
