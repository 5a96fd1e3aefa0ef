-- The part that braces in a list initialize.
use Rattle.ec_typing_defs.specs.Initializers.{Slot as SlotData}
use Rattle.ec_scopes.specs.Entries.{type_view}
use Rattle.ec_initializers.specs.declared.parts.Slot.{Slot}
use Rattle.ec_initializers.specs.Frames.{known_frames}

abbrev pub slot_view : Slot → SlotData
slot_view s = (type_view s.ty, known_frames s.rest)
