-- What is left to be initialized, and where an expression or a list in braces goes, as the definition has it.
use Rattle.std.specs.Prelude.{ℕ, List, [], ◌∷◌, Option, Some, None, option_map}
use Rattle.ec_ctypes.specs.trees.Types.{TyData}
use Rattle.ec_resolving_defs.specs.Initializers as of
use Rattle.ec_scopes.specs.Entries.{type_view}
use Rattle.ec_typing_defs.specs.Initializers.{Frames, next_part, going_in, max_depth}
use Rattle.ec_typing_defs.specs.Operands.{OperandData}
use Rattle.ec_typing_defs.specs.Worlds.{World}
use Rattle.ec_resolve_initials.specs.declared.goals.Aim.{Aim}
use Rattle.ec_resolve_initials.specs.declared.goals.Slot.{Slot}
use Rattle.ec_resolve_initials.specs.declared.left.Left.{Left}
use Rattle.ec_resolve_initials.specs.declared.left.Next.{Next}
use Rattle.ec_initializers.specs.Frames.{known_frames}
use Rattle.ec_resolve_initials.specs.Spots.{spots_view, next_place}

abbrev pub left_view : Left → of.Left
left_view l = of.left (known_frames l.frames) (spots_view l.spots)

-- the part that comes next, with what is left behind it
abbrev pub next_by : Option Next → Frames → Option (Option TyData × Frames)
next_by None fs = None
next_by (Some next) fs = Some (type_view next.ty, fs)

abbrev pub offset_by : Option Next → ℕ
offset_by None = 0
offset_by (Some next) = next.offset

abbrev pub goal_view : Aim → of.Goal
goal_view a = record { type = type_view a.ty; offset = a.offset; behind = spots_view a.rest.spots }

-- the spots once the first part of an object is gone into, if it has one with a type
abbrev pub opened_spots : World → ℕ → Option TyData → List of.Spot → List of.Spot
opened_spots w offset None ss = ss
opened_spots w offset (Some t) ss =
    of.spot_behind (of.spot_at offset) (of.part_shape w (Some t)) ∷ ss

-- the part that braces in a list initialize, with what is left behind it, and its place
abbrev pub slot_view : Slot → Option TyData × Option Frames
slot_view s = (type_view s.ty, known_frames s.rest.frames)

abbrev pub slot_place : Slot → ℕ × List of.Spot
slot_place s = next_place s.offset (spots_view s.rest.spots)

-- what is left behind an expression that goes to the next part, or into it
abbrev pub frames_by : World → OperandData → Option (Option TyData × Frames) → Option Frames
frames_by w o None = Some []
frames_by w o (Some p) = elim p.0 [
  | None ↦ None
  | Some t ↦ option_map (λ q. q.1) (going_in max_depth w o t p.1)
]

-- the same, where the type of its value is known
abbrev pub typed_frames : Option TyData → Option Frames → Option Frames
typed_frames None fs = None
typed_frames (Some t) fs = fs

abbrev pub frames_behind : OperandData → Option Frames → World → Option Frames
frames_behind o None w = None
frames_behind o (Some fs) w = typed_frames o.type (frames_by w o (next_part fs))

-- the part that braces in a list initialize, and what is left behind it
abbrev pub slot_at : Option (Option TyData × Frames) → Option TyData × Option Frames
slot_at None = (None, Some [])
slot_at (Some p) = elim p.0 [ None ↦ (None, None) | Some t ↦ (Some t, Some p.1) ]

abbrev pub slot_in : Option Frames → Option TyData × Option Frames
slot_in None = (None, None)
slot_in (Some fs) = slot_at (next_part fs)
