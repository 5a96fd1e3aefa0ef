-- What the run of a program does to the slots of a rack.
use Rattle.std.specs.Prelude.{◌≡◌, ◌⊎◌, ℕ, Option, Some, None, List, [], ◌∷◌, Contains, slice_get, slice_set}
use Rattle.ec_link.specs.declared.logged.Logged.{Logged}
use Rattle.ec_link.specs.declared.slot.Slot.{Slot}
use Rattle.ec_link.specs.Logged.{talk_of}
use Rattle.ec_link.specs.Slot.{states}
use Rattle.ec_link.specs.SlotState.{SlotState, Slots, ready_slot, free, taken}
use Rattle.ec_runtime.specs.Racks.{AllOwn, HasOther, open_in}

-- the slot of the connection that a program begins with, if one was ready
abbrev pub first_slots : Option (ℕ × List ℕ) → List ℕ
first_slots None = []
first_slots (Some found) = found.0 ∷ []

-- the slots, of which that one is taken
abbrev pub taken_first : Option (ℕ × List ℕ) → List SlotState → List SlotState
taken_first None slots = slots
taken_first (Some found) slots = slice_set slots found.0 (taken found.1)

-- the slot of a connection to the first ready slot of a rack
abbrev pub begun_slots : List SlotState → List ℕ
begun_slots slots = first_slots (ready_slot slots)

-- slot i was taken, and is free
pub record IsFreed (i : ℕ) (old new : List SlotState) : Type 0 where
  pub name : List ℕ
  pub was : slice_get old i ≡ Some (taken name)
  pub now : slice_get new i ≡ Some (free name)

-- What a run does to the slots. The first ready one is taken, if there is one, and from there on each exchange does to the
-- slots what it says, and asks for a connection or is over the slot of one that is open. The slot of each connection that
-- is open at the end, by what was said, is free again, and no other slot changes then. A slot that the program didn't begin
-- with, and over which nothing was said, is as it was, with its link; but a free one's link may have been asked where it had
-- no memory to answer.
pub record RunsOver {X : Type 0} {F : X → Type 0} (before : List (Slot X F))
    (growth : List Logged) (after : List (Slot X F)) : Type 0 where
  pub ended : List SlotState
  pub exchanged : Slots
      (taken_first (ready_slot (states before)) (states before)) growth ended
  pub own : AllOwn (begun_slots (states before)) growth
  pub freed : (i : ℕ) → Contains (open_in (begun_slots (states before)) growth) i →
      IsFreed i ended (states after)
  pub stays : (i : ℕ) → (Contains (open_in (begun_slots (states before)) growth) i → ⊥) →
      slice_get (states after) i ≡ slice_get ended i
  pub others : (i : ℕ) → (Contains (begun_slots (states before)) i → ⊥) →
      talk_of i growth ≡ [] → (slice_get after i ≡ slice_get before i)
      ⊎ HasOther (slice_get before i) (slice_get after i)
