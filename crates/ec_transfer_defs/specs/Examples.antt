-- Memories and hosts of the worked examples.
use Rattle.std.specs.Prelude.{ℕ, negsuc, List, [], ◌∷◌, Option, Some, None, codes}
use Rattle.ec_ctypes.specs.declared.types.arith.Arith.{Arith}
use Rattle.ec_ctypes.specs.declared.types.arith.Arith.TheVariants.{Short}
use Rattle.ec_memory_defs.specs.Cells.{set_cells, filled_cells}
use Rattle.ec_memory_defs.specs.Memory.{Memory, alive, pointer_to}
use Rattle.ec_transfer_defs.specs.Area.{area_raised}
use Rattle.ec_transfer_defs.specs.Hosts.{Holding, integer, IndicatorData, HostData}
use Rattle.ec_transfer_defs.specs.Conversion.{Stored, field_stored}

-- one object of these bytes
abbrev pub one_of : List ℕ → Memory
one_of bytes = alive (set_cells bytes) ∷ []

-- an object of these bytes, and an indicator of `size` bytes, each of them 9
abbrev pub with_nines : List ℕ → ℕ → Memory
with_nines bytes size = alive (set_cells bytes) ∷ alive (filled_cells size 9) ∷ []

-- the bytes of a pointer into the second object
abbrev pub to_second : ℕ → List ℕ
to_second offset = offset ∷ 0 ∷ 0 ∷ 0 ∷ 2 ∷ 0 ∷ 0 ∷ 0 ∷ []

-- an area whose bytes are all 7
abbrev pub sevens : Memory
sevens = alive (filled_cells 256 7) ∷ []

-- the area behind a field that is no number of type int, on line 12
abbrev pub refused_int : Memory
refused_int = area_raised sevens (negsuc 203) (codes "42804") (codes "not a number of type int") 12

-- the host that the first object is, without an indicator
abbrev pub alone : Holding → HostData
alone holds = record { holds = holds; place = pointer_to 1 0; step = 1; indicator = None }

-- indicators of this type from a pointer on, so many bytes apart
abbrev pub told_at : Arith → ℕ → ℕ → IndicatorData
told_at kind place step = record { kind = kind; place = place; step = step }

-- the host that the first object is, with the second object as its indicator
abbrev pub beside : Arith → Holding → HostData
beside kind holds = record {
  holds = holds;
  place = pointer_to 1 0;
  step = 1;
  indicator = Some (told_at kind (pointer_to 2 0) 1);
}

-- values of type short from a pointer on, so many bytes apart, without an indicator
abbrev pub shorts_at : ℕ → ℕ → HostData
shorts_at place step =
    record { holds = integer Short; place = place; step = step; indicator = None }

-- a host that is nowhere, whose indicators are the first object, two bytes apart
abbrev pub told_by_shorts : HostData
told_by_shorts = record {
  holds = integer Short;
  place = 0;
  step = 1;
  indicator = Some (told_at Short (pointer_to 1 0) 2);
}

-- what a field leaves in the first row
abbrev pub left_by : Memory → HostData → Option (List ℕ) → Stored
left_by m h field = field_stored m h 0 field
