-- What is left to be initialized, as the definitions see it.
use Rattle.std.specs.Prelude.{◌≡◌, ℕ, zero, suc, ◌+◌, List, [], ◌∷◌, ◌++◌, map, reverse, drop, Option, Some, None, option_map, IfSome, ◌&&◌, if◌then◌else◌}
use Rattle.ec_ctypes.specs.declared.types.ty.Ty.{Ty}
use Rattle.ec_ctypes.specs.trees.Types.{TyData, array}
use Rattle.ec_ctypes.specs.views.Types.{ty_view}
use Rattle.ec_language.specs.Letters.{Text}
use Rattle.ec_typing_defs.specs.Tables.{Named}
use Rattle.ec_typing_defs.specs.Worlds.{World}
use Rattle.ec_typing_defs.specs.Initializers.{FrameData, elements_left, any_elements, members_left, Frames, parts_of, behind_first, first_type, first_part, is_text_alone, literal_length, elements_begun}
use Rattle.ec_typing_defs.specs.Types.{is_char_array}
use Rattle.ec_ctypes.specs.trees.Exprs.{InitList}
use Rattle.ec_scopes.specs.Entries.{type_view, named_view}
use Rattle.ec_initializers.specs.declared.frames.Frame.{Frame}
use Rattle.ec_initializers.specs.declared.frames.Frame.TheVariants.{Elements, Any, Members, NoMembers}
use Rattle.ec_initializers.specs.declared.frames.Taken.{Taken}

-- the members behind so many
abbrev pub shared_members : Named (Option Ty) → ℕ → FrameData
shared_members members at = members_left (drop at (map (λ m. m.1) (named_view type_view members)))

abbrev pub frame_view : Frame → FrameData
frame_view (Elements ty n) = elements_left (ty_view ty) n
frame_view (Any ty n) = any_elements (ty_view ty) n
frame_view (Members members at) = shared_members members at
frame_view NoMembers = members_left []

-- the innermost part is the last
abbrev pub frames_view : List Frame → Frames
frames_view fs = reverse (map frame_view fs)

-- what comes next in one part, and what is left of it
abbrev pub frame_taken : FrameData → Option (Option TyData × FrameData)
frame_taken (elements_left t zero) = None
frame_taken (elements_left t (suc n)) = Some (Some t, elements_left t n)
frame_taken (any_elements t n) = Some (Some t, any_elements t (n + 1))
frame_taken (members_left []) = None
frame_taken (members_left (m ∷ ms)) = Some (m, members_left ms)

-- how many elements were begun, where their number is unknown
abbrev pub frame_begun : FrameData → ℕ
frame_begun (elements_left t n) = 0
frame_begun (any_elements t n) = n
frame_begun (members_left ms) = 0

abbrev pub taken_view : Option Taken → Option (Option TyData × FrameData)
taken_view o = option_map (λ t. (type_view t.part, frame_view t.rest)) o

-- a part that is taken, with what is left behind it
abbrev pub next_by : Option (Option Ty) → Frames → Option (Option TyData × Frames)
next_by None fs = None
next_by (Some part) fs = Some (type_view part, fs)

-- frames that are known, or none
abbrev pub known_frames : Option (List Frame) → Option Frames
known_frames o = option_map frames_view o

-- where an expression goes, with what is left behind it
abbrev pub gone_to : Option Ty → Frames → Option (TyData × Frames)
gone_to None fs = None
gone_to (Some t) fs = Some (ty_view t, fs)

-- The first part of an object is gone into: its type, and what is left behind it.
abbrev pub Opens : World → TyData → Frames → Option Ty → Frames → Type 0
Opens w t before first after = (type_view first ≡ first_part w t)
    × IfSome first (λ _. after ≡ behind_first (parts_of w t) ++ before)

-- the same of a struct with these members
abbrev pub OpensMembers : Named (Option Ty) → Frames → Option Ty → Frames → Type 0
OpensMembers ms before first after =
    (type_view first ≡ first_type (map (λ m. m.1) (named_view type_view ms)))
    × IfSome first (λ _. after ≡ behind_first (shared_members ms 0 ∷ []) ++ before)

-- how many elements a list gives an array of these
abbrev pub listed_count : TyData → InitList → Frames → ℕ
listed_count t is fs = if is_char_array (array t 0) && is_text_alone is then literal_length is
    else elements_begun fs
