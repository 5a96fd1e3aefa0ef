-- Initializers (ISO/IEC 9899:1999, 6.7.8; at file level 6.6).
use Rattle.std.specs.Prelude.{ℕ, zero, suc, ◌+◌, ◌^◌, Bool, true, false, not, ◌&&◌, ◌||◌, nat_le, List, [], ◌∷◌, ◌++◌, length, map, Option, Some, None, is_some, if◌then◌else◌}
use Rattle.ec_base.specs.declared.fault.FaultKind.TheVariants.{F14, F19}
use Rattle.ec_ctypes.specs.trees.Types.{TyData, void, arithmetic, pointer, array, structure}
use Rattle.ec_ctypes.specs.trees.Exprs.{ExprData, string, InitData, one, many, InitList, no_inits, inits}
use Rattle.ec_typing_defs.specs.Types.{is_scalar, is_structure, is_char_array, same_type, is_assignable}
use Rattle.ec_typing_defs.specs.Constants.{is_known}
use Rattle.ec_typing_defs.specs.Worlds.{Place, MembersData, unlisted, begun, listed, World, Rule, ◌>>=◌, ◌>>◌, pure, ask, note, demand, members_of}
use Rattle.ec_typing_defs.specs.Operands.{OperandData, value_rule, is_null}
use Rattle.ec_typing_defs.specs.Expressions.{expr}

-- ---- what is left to be initialized

-- a part of an object of which some elements or members are left
pub data FrameData : Type 0 where
  -- elements of this type, and how many are left
  elements_left : TyData → ℕ → FrameData
  -- any number of elements of this type, and how many were begun
  any_elements : TyData → ℕ → FrameData
  -- the types of the members that are left
  members_left : List (Option TyData) → FrameData

-- The parts that are left, innermost first, in braces (6.7.8, 17 to 20); none where it isn't known which these are, since a type has a fault.
abbrev pub Frames : Type 0
Frames = List FrameData

-- the next element or member, and what is left behind it
abbrev pub next_part : Frames → Option (Option TyData × Frames)
next_part [] = None
next_part (elements_left t zero ∷ fs) = next_part fs
next_part (elements_left t (suc n) ∷ fs) = Some (Some t, elements_left t n ∷ fs)
next_part (any_elements t n ∷ fs) = Some (Some t, any_elements t (n + 1) ∷ fs)
next_part (members_left [] ∷ fs) = next_part fs
next_part (members_left (m ∷ ms) ∷ fs) = Some (m, members_left ms ∷ fs)

abbrev pub member_types : Option MembersData → List (Option TyData)
member_types None = []
member_types (Some unlisted) = []
member_types (Some begun) = []
member_types (Some (listed ms)) = map (λ m. m.1) ms

-- all parts of an object of this type. A scalar in braces has one, itself
abbrev pub parts_of : World → TyData → Frames
parts_of w (array t zero) = any_elements t 0 ∷ []
parts_of w (array t (suc n)) = elements_left t (suc n) ∷ []
parts_of w (structure k) = members_left (member_types (members_of k w)) ∷ []
parts_of w void = []
parts_of w (arithmetic a) = elements_left (arithmetic a) 1 ∷ []
parts_of w (pointer t) = elements_left (pointer t) 1 ∷ []

-- what is left of the parts behind the first
abbrev pub behind_first : Frames → Frames
behind_first fs = elim (next_part fs) [ None ↦ [] | Some p ↦ p.1 ]

-- ---- one expression

-- a literal may initialize an array of characters (6.7.8, 14)
abbrev pub is_text_for : OperandData → TyData → Bool
is_text_for o t = is_some o.literal && is_char_array t

abbrev pub is_same_struct : Option TyData → TyData → Bool
is_same_struct None t = false
is_same_struct (Some s) t = is_structure t && same_type s t

-- The expression initializes a whole object of this type, and not its first part (6.7.8, 13, 14 and 20).
abbrev pub is_whole : OperandData → TyData → Bool
is_whole o t = is_scalar t || is_text_for o t || is_same_struct o.type t

-- the first part of an object, if it has one with a type
abbrev pub first_type : List (Option TyData) → Option TyData
first_type [] = None
first_type (t ∷ ts) = t

abbrev pub first_part : World → TyData → Option TyData
first_part w (array t n) = Some t
first_part w (structure k) = first_type (member_types (members_of k w))
first_part w void = None
first_part w (arithmetic a) = None
first_part w (pointer t) = None

-- Where an expression goes that stands where an object of this type begins: to the object as a whole, or into its first part, at most so many parts deep. The type that it initializes, and what is left.
abbrev pub going_in : ℕ → World → OperandData → TyData → Frames → Option (TyData × Frames)
going_in zero w o t fs = None
going_in (suc n) w o t fs = elim (is_whole o t) [
  | true ↦ Some (t, fs)
  | false ↦ elim (first_part w t) [
    | None ↦ None
    | Some inner ↦ going_in n w o inner (behind_first (parts_of w t) ++ fs)
  ]
]

-- More parts than stand one in another in any program: a text has at most 2^24 bytes.
abbrev pub max_depth : ℕ
max_depth = 2 ^ 32

-- The bytes of a literal fit; for its zero byte there may be no room (6.7.8, 2 and 14).
abbrev pub has_room : ℕ → Option ℕ → Bool
has_room n None = false
has_room zero (Some m) = true
has_room (suc n) (Some m) = nat_le m (suc n)

-- Whether an expression with this type of its value may initialize an object (6.7.8, 2, 11 and 13 to 16).
abbrev pub suits : OperandData → TyData → TyData → Bool
suits o (array t n) s = is_text_for o (array t n) && has_room n o.literal
suits o (structure k) s = same_type (structure k) s
suits o t s = is_assignable t s (is_null o)

-- F19: at file level it is known before the program runs (6.6, 7 and 9; 6.7.8, 4).
abbrev pub is_fixed_value : OperandData → Bool
is_fixed_value o = is_known o.constant || o.is_fixed

unfoldable pub fixed_rule : Place → Bool → OperandData → Rule (Unit {0})
fixed_rule at global o =
    elim o.type [ None ↦ pure tt | Some t ↦ demand at F19 (not global || is_fixed_value o) ]

-- the expression as a value, which is known where it has to be
abbrev pub init_value : Place → Bool → ExprData → Rule OperandData
init_value at global e = do
  o ← expr at e >>= value_rule at
  fixed_rule at global o
  pure o

-- F14: the expression may initialize an object of this type.
unfoldable pub suits_rule : Place → OperandData → TyData → Rule (Unit {0})
suits_rule at o t = elim o.type [ None ↦ pure tt | Some s ↦ demand at F14 (suits o t s) ]

-- ---- lists in braces

abbrev pub go_by : Place → OperandData → Option (TyData × Frames) → Rule (Option Frames)
go_by at o None = pure None
go_by at o (Some p) = suits_rule at o p.0 >> pure (Some p.1)

abbrev pub go_to : Place → OperandData → Option (Option TyData × Frames) → Rule (Option Frames)
go_to at o None = note at F14 >> pure (Some [])
go_to at o (Some p) = elim p.0 [
  | None ↦ pure None
  | Some t ↦ do
    found ← ask (λ w. going_in max_depth w o t p.1)
    go_by at o found
]

-- One expression of a list goes to the next part, or into it; F14 where no part is left (6.7.8, 2).
unfoldable pub part_rule : Place → Option Frames → OperandData → Rule (Option Frames)
part_rule at None o = pure None
part_rule at (Some fs) o = elim o.type [ None ↦ pure None | Some s ↦ go_to at o (next_part fs) ]

-- the part that braces in a list initialize, and what is left behind it
abbrev pub Slot : Type 0
Slot = Option TyData × Option Frames

abbrev pub slot_of : Place → Option (Option TyData × Frames) → Rule Slot
slot_of at None = note at F14 >> pure (None, Some [])
slot_of at (Some p) = elim p.0 [ None ↦ pure (None, None) | Some t ↦ pure (Some t, Some p.1) ]

unfoldable pub slot_rule : Place → Option Frames → Rule Slot
slot_rule at None = pure (None, None)
slot_rule at (Some fs) = slot_of at (next_part fs)

abbrev pub is_literal : ExprData → Bool
is_literal (string s) = true
is_literal _ = false

-- a literal alone, in braces
abbrev pub is_text_alone : InitList → Bool
is_text_alone (inits (one e) no_inits) = is_literal e
is_text_alone _ = false

-- braces within the braces of a scalar (6.7.8, 11)
abbrev pub has_inner_braces : InitList → Bool
has_inner_braces (inits (many is) js) = true
has_inner_braces _ = false

-- what a list in braces initializes: the parts of the object, or it as a whole where this is a literal alone
abbrev pub braced_parts : World → TyData → InitList → Frames
braced_parts w t is = if is_char_array t && is_text_alone is then elements_left t 1 ∷ []
    else parts_of w t

-- ---- the type of an array whose length its initializer tells (6.7.8, 22)

abbrev pub literal_length : InitList → ℕ
literal_length (inits (one (string s)) is) = length s + 1
literal_length _ = 0

-- how many elements were begun: the outermost part tells
abbrev pub elements_begun : Frames → ℕ
elements_begun [] = 0
elements_begun (any_elements t n ∷ []) = n
elements_begun (f ∷ fs) = elements_begun fs

abbrev pub with_length : TyData → InitList → Option Frames → Option TyData
with_length t is None = None
with_length t is (Some fs) =
    Some (array t
    (if is_char_array (array t 0) && is_text_alone is then literal_length is
    else elements_begun fs))

abbrev pub completed : TyData → InitList → Option Frames → Option TyData
completed (array t zero) is fs = with_length t is fs
completed t is fs = Some t

abbrev pub literal_array : TyData → Option ℕ → Option TyData
literal_array t None = None
literal_array t (Some n) = Some (array t (n + 1))

abbrev pub completed_by : TyData → OperandData → Option TyData
completed_by (array t zero) o = if is_char_array (array t zero) then literal_array t o.literal
    else None
completed_by t o = Some t

-- ---- initializers in their order

abbrev pub single_by : Place → Option TyData → OperandData → Rule (Option TyData)
single_by at None o = pure None
single_by at (Some t) o = suits_rule at o t >> pure (completed_by t o)

-- F14 for braces within the braces of a scalar
unfoldable pub braces_rule : Place → Option TyData → InitList → Rule (Unit {0})
braces_rule at None is = pure tt
braces_rule at (Some t) is = demand at F14 (not (is_scalar t && has_inner_braces is))

abbrev pub braced_frames : Option TyData → InitList → World → Option Frames
braced_frames None is w = None
braced_frames (Some t) is w = Some (braced_parts w t is)

abbrev pub completed_in_braces : Option TyData → InitList → Option Frames → Option TyData
completed_in_braces None is rest = None
completed_in_braces (Some t) is rest = completed t is rest

abbrev mutual
  -- what initializes an object of this type: its type, with its length
  pub initializer : Place → Bool → Option TyData → InitData → Rule (Option TyData)
  initializer at global t (one e) = do
    o ← init_value at global e
    single_by at t o
  initializer at global t (many is) = do
    braces_rule at t is
    fs ← ask (braced_frames t is)
    rest ← fill at global fs is
    pure (completed_in_braces t is rest)

  -- the list initializes these parts
  pub fill : Place → Bool → Option Frames → InitList → Rule (Option Frames)
  fill at global fs no_inits = pure fs
  fill at global fs (inits i is) = do
    rest ← fill_part at global fs i
    fill at global rest is

  -- One expression goes to the next part or into it; braces initialize the next part.
  pub fill_part : Place → Bool → Option Frames → InitData → Rule (Option Frames)
  fill_part at global fs (one e) = do
    o ← init_value at global e
    part_rule at fs o
  fill_part at global fs (many is) = do
    slot ← slot_rule at fs
    braces_rule at slot.0 is
    gs ← ask (braced_frames slot.0 is)
    fill at global gs is >> pure slot.1
