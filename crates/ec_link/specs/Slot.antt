-- What a slot shows: how it stands, and its link.
use Rattle.std.specs.Prelude.{ℕ, Option, Some, None, option_and_then, List, map, slice_get}
use Rattle.std.specs.declared.alloc.Global.{Global}
use Rattle.std.specs.declared.dyn_box.DynBox.{DynBox}
use Rattle.ec_link.specs.declared.slot.Slot.{Slot}
use Rattle.ec_link.specs.declared.slot.Slot.TheVariants.{Free, Ready, Taken, Dropped}
use Rattle.ec_link.specs.Logged.{Talk}
use Rattle.ec_link.specs.SlotState.{SlotState, free, ready, taken, dropped}

module _ {X : Type 0} {F : X → Type 0} where
  -- a slot without its link
  abbrev pub state_of : Slot X F → SlotState
  state_of (Free name _) = free name
  state_of (Ready name _) = ready name
  state_of (Taken name) = taken name
  state_of (Dropped name) = dropped name

  -- the slots of a rack without their links
  abbrev pub states : List (Slot X F) → List SlotState
  states slots = map state_of slots

  -- the link in a slot, if it is there
  abbrev pub link_in : Slot X F → Option (DynBox X Global F)
  link_in (Free _ link) = Some link
  link_in (Ready _ link) = Some link
  link_in _ = None

  -- the link in slot i, if there is such a slot and the link is there
  abbrev pub link_at : List (Slot X F) → ℕ → Option (DynBox X Global F)
  link_at slots i = option_and_then link_in (slice_get slots i)

  -- the talk of the link in slot i, where the link is there and tells it
  abbrev pub talk_at : (DynBox X Global F → Option Talk) → List (Slot X F) → ℕ → Option Talk
  talk_at talk slots i = option_and_then talk (link_at slots i)
