-- What a step of a machine does, and what its whole run does.
use Rattle.std.specs.Prelude.{◌≡◌, ◌⊎◌, ℕ, List, [], ◌∷◌, ◌++◌, length, slice_get, Option}
use Rattle.std.specs.declared.alloc.Global.{Global}
use Rattle.std.specs.declared.dyn_box.DynBox.{DynBox}
use Rattle.ec_calling.specs.Leading.{places_of}
use Rattle.ec_interp.specs.Ends.{halt_of}
use Rattle.ec_interp.specs.Stepping.{Shows}
use Rattle.ec_interp.specs.running.LibraryRuns.{Nears, TakesTurn}
use Rattle.ec_interp.specs.declared.end.RunEnd.TheVariants as end
use Rattle.ec_interp.specs.declared.end.Step.{Step}
use Rattle.ec_interp.specs.declared.end.Step.TheVariants as step
use Rattle.ec_link.specs.declared.connection.Conn.{Conn}
use Rattle.ec_link.specs.declared.logged.Logged.{Logged}
use Rattle.ec_link.specs.declared.rack.Rack.{Rack}
use Rattle.ec_link.specs.Logged.{Talk}
use Rattle.ec_link.specs.Rack.{log_of, slots_of}
use Rattle.ec_link.specs.Slot.{states}
use Rattle.ec_link.specs.SlotState.{TakenAt}
use Rattle.ec_runtime.specs.Calling.{Holds, conns_of}
use Rattle.ec_runtime.specs.Proceeding.{IsFit, asked_of, waiting_of}
use Rattle.ec_runtime.specs.Racks.{Beside, Moves}
use Rattle.ec_stepper.specs.declared.machine.Machine.{Machine}
use Rattle.ec_stepper.specs.declared.standing.Standing.{Standing}
use Rattle.ec_stepper.specs.declared.standing.Standing.TheVariants as standing
use Rattle.ec_stepper.specs.Running.{IsOf, meaning_over, requests_of, said_in}
use Rattle.ec_stepper.specs.Standing.{standing_behind}

-- what of an output was there before a step: where a request waited, all that the program shows up to it
abbrev pub before : Standing → List ℕ → List ℕ
before standing.New shown = []
before standing.Begun shown = []
before standing.Asks shown = shown
before standing.Ended shown = []
before standing.Released shown = []

-- how much is said in a step: one exchange where a request waited, but after want of memory maybe none; and else none
abbrev pub SaysOnce : Step → List Logged → Type 0
SaysOnce step.Asks growth = (e : Logged) × (growth ≡ e ∷ [])
SaysOnce (step.Ended (end.Exited n)) growth = (e : Logged) × (growth ≡ e ∷ [])
SaysOnce (step.Ended (end.Trapped trap line)) growth = (e : Logged) × (growth ≡ e ∷ [])
SaysOnce (step.Ended end.TurnsSpent) growth = (e : Logged) × (growth ≡ e ∷ [])
SaysOnce (step.Ended end.Stuck) growth = (e : Logged) × (growth ≡ e ∷ [])
SaysOnce (step.Ended end.WriteFault) growth = (e : Logged) × (growth ≡ e ∷ [])
SaysOnce (step.Ended end.OutOfMemory) growth =
    (growth ≡ []) ⊎ ((e : Logged) × (growth ≡ e ∷ []))

abbrev pub Says : Standing → Step → List Logged → Type 0
Says standing.New result growth = growth ≡ []
Says standing.Begun result growth = growth ≡ []
Says standing.Asks result growth = SaysOnce result growth
Says standing.Ended result growth = growth ≡ []
Says standing.Released result growth = growth ≡ []

module _ {X : Type 0} {F : X → Type 0} where
  -- the machine runs the same program, within the turns and over the slot with which it was begun
  pub record RunsSame (m m' : Machine X F) : Type 0 where
    pub program : m'.run.program.now ≡ m.run.program.now
    pub calls : m'.calls.now ≡ m.calls.now
    pub turns : m'.turns ≡ m.turns
    pub ready : m'.ready ≡ m.ready

  -- the slots that are taken by others, of none of one's own connections, are those that were, and they are as they were
  pub record SparesOthers (old : Rack X F) (was : List (Conn X F))
      (new : Rack X F) (now : List (Conn X F)) : Type 0 where
    pub stay : (i : ℕ) → TakenAt (states (slots_of old)) i → Beside i was
        → Beside i now × (slice_get (slots_of new) i ≡ slice_get (slots_of old) i)
    pub were : (i : ℕ) → TakenAt (states (slots_of new)) i → Beside i now
        → TakenAt (states (slots_of old)) i × Beside i was

  -- a step up to a request takes a turn, or fewer requests of the call are left
  abbrev pub Nearer : Standing → Step → Machine X F → Machine X F → Type 0
  Nearer standing.New result m m' = ⊥
  Nearer standing.Begun result m m' =
      TakesTurn (halt_of result) m.turns m'.run.frames.turns (requests_of m')
  Nearer standing.Asks result m m' =
      Nears (halt_of result) m.run.frames.turns m'.run.frames.turns (requests_of m) (requests_of m')
  Nearer standing.Ended result m m' = ⊥
  Nearer standing.Released result m m' = ⊥

  module _ (talk : DynBox X Global F → Option Talk) (faults : DynBox X Global F → ℕ)
      {O E : Type 0} (held : O → Option (List ℕ)) (puts : O → ℕ)
      (told : E → Option (List ℕ)) (tells : E → ℕ) where
    -- The machine was run on, from one step to another. It waits, ends or was left as `Shows` says of what its program means
    -- over the answers to its exchanges, behind what had been shown before.
    pub record Reaches (m : Machine X F) (rack : Rack X F) (m' : Machine X F) (rack' : Rack X F)
        (out out' : O) (err err' : E) (result : Step) : Type 0 where
      -- what was said, at places of the machine's
      pub growth : List Logged
      pub noted : m'.places ≡ m.places ++ places_of (length (log_of rack)) growth
      pub moves : Moves talk faults rack (conns_of m.library.connections) rack'
          (conns_of m'.library.connections) growth
      pub spares : SparesOthers rack (conns_of m.library.connections) rack'
          (conns_of m'.library.connections)
      pub shows : Shows held puts told tells out out' err err'
          (before m.standing (meaning_over m (said_in (log_of rack) m)).output)
          (before m.standing (meaning_over m (said_in (log_of rack) m)).errors)
          (meaning_over m (said_in (log_of rack') m')) (said_in (log_of rack') m')
          m'.run.frames.store (asked_of (waiting_of m'.library)) result
      pub same : RunsSame m m'
      pub standing : m'.standing ≡ standing_behind result
      pub of : result ≡ step.Asks → IsOf (log_of rack') m'
      pub fits : IsFit m'.library
      pub holds : Holds m'.library.connections rack'

    -- One step was made: what was said is the request that waited, if one did.
    pub record Advances (m : Machine X F) (rack : Rack X F) (m' : Machine X F) (rack' : Rack X F)
        (out out' : O) (err err' : E) (result : Step) : Type 0 where
      pub reaches : Reaches m rack m' rack' out out' err err' result
      pub says : Says m.standing result reaches.growth
      pub nearer : Nearer m.standing result m m'
