-- What a rack shows.
use Rattle.std.specs.Prelude.{List}
use Rattle.ec_link.specs.declared.logged.Logged.{Logged}
use Rattle.ec_link.specs.declared.slot.Slot.{Slot}
use Rattle.ec_link.specs.declared.rack.Rack.{Rack}

module _ {X : Type 0} {F : X → Type 0} where
  -- the slots of a rack
  abbrev pub slots_of : Rack X F → List (Slot X F)
  slots_of rack = rack.slots

  -- the exchanges that a rack has made, in order
  abbrev pub log_of : Rack X F → List Logged
  log_of rack = rack.log
