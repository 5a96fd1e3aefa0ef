-- What initializers store, and where (ISO/IEC 9899:1999, 6.7.8).
use Rattle.std.specs.Prelude.{ℕ, zero, suc, ◌+◌, Bool, true, false, List, [], ◌∷◌, ◌++◌, take, Option, Some, None, option_map, if◌then◌else◌}
use Rattle.ec_ctypes.specs.declared.types.sizes.Shape.{Shape}
use Rattle.ec_ctypes.specs.trees.Types.{TyData, array, structure}
use Rattle.ec_ctypes.specs.trees.Exprs.{ExprData, InitData, one, many, InitList, no_inits, inits}
use Rattle.ec_ctypes.specs.Layout.{no_members, with_member, offset_behind}
use Rattle.ec_language.specs.Letters.{Text}
use Rattle.ec_typing_defs.specs.Known.{literal_in}
use Rattle.ec_typing_defs.specs.Constants.{ConstData, variable, trapping, known}
use Rattle.ec_typing_defs.specs.Worlds.{Place, World, shape_in}
use Rattle.ec_typing_defs.specs.Operands.{OperandData}
use Rattle.ec_typing_defs.specs.Initializers as checked
use Rattle.ec_typing_defs.specs.Initializers.{FrameData, elements_left, any_elements, members_left, Frames, next_part, parts_of, is_whole, is_text_for, first_part, going_in, max_depth, braced_frames, completed_in_braces}
use Rattle.ec_memory_defs.specs.Memory.{ValueData, number, address, pointer_to, ScalarType, scalar_type, encoded}
use Rattle.ec_meaning_defs.specs.resolved.Operations.{value_as}
use Rattle.ec_meaning_defs.specs.resolved.Resolved.{Exp, object, member, constant, store, copy, put, convert, Exps, no_exps, exps}
use Rattle.ec_resolving_defs.specs.Conversions.{within_limit, size_in, as_known_type}
use Rattle.ec_resolving_defs.specs.Storage.{Resolving, ◌>>=◌, ◌>>◌, pure, checks, ask, arrange, without_last_literal}
use Rattle.ec_resolving_defs.specs.Operands.{Found, value_rule}
use Rattle.ec_resolving_defs.specs.Expressions.{expr}

-- ---- what is stored in an object, by the offset in it

pub data PartData : Type 0 where
  -- a value of this type
  scalar_part : ℕ → ScalarType → Exp → PartData
  -- the bytes of a literal
  text_part : ℕ → Text → PartData
  -- a struct of this size, from its address
  struct_part : ℕ → ℕ → Exp → PartData

abbrev pub place_in_object : ℕ → Exp → Exp
place_in_object zero e = e
place_in_object (suc n) e = member (suc n) e

-- a part as it is stored in an object of a function
abbrev pub part_stored : Exp → PartData → Exp
part_stored at (scalar_part offset kind e) = store kind (place_in_object offset at) e
part_stored at (text_part offset text) = put text (place_in_object offset at)
part_stored at (struct_part offset size e) = copy size (place_in_object offset at) e

abbrev pub parts_stored : Exp → List PartData → Exps
parts_stored at [] = no_exps
parts_stored at (p ∷ ps) = exps (part_stored at p) (parts_stored at ps)

-- what is known of a value before the program runs: a constant, or the address of an object (6.6, 9)
abbrev pub known_value : Exp → Option ValueData
known_value (constant v) = Some v
known_value (object n) = Some (address (pointer_to n 0))
known_value (convert from to e) = option_map (value_as to) (known_value e)
known_value _ = None

abbrev pub scalar_bytes : ℕ → ScalarType → Option ValueData → List (ℕ × List ℕ) → List (ℕ × List ℕ)
scalar_bytes offset kind None more = more
scalar_bytes offset kind (Some v) more = (offset, encoded kind v) ∷ more

-- the parts of a global, as bytes
abbrev pub parts_known : List PartData → List (ℕ × List ℕ)
parts_known [] = []
parts_known (scalar_part offset kind e ∷ ps) =
    scalar_bytes offset kind (known_value e) (parts_known ps)
parts_known (text_part offset text ∷ ps) = (offset, text) ∷ parts_known ps
parts_known (struct_part offset size e ∷ ps) = parts_known ps

-- ---- one expression

-- the bytes of a literal that an array of this type takes: its zero byte is there already
abbrev pub text_for : TyData → Option Text → Text
text_for (array t zero) (Some text) = text
text_for (array t (suc n)) (Some text) = take (suc n) text
text_for t text = []

abbrev pub scalar_stored : ℕ → Option ScalarType → Exp → List PartData
scalar_stored offset None e = []
scalar_stored offset (Some kind) e = scalar_part offset kind e ∷ []

abbrev pub value_stored : World → ℕ → TyData → Found → List PartData
value_stored w offset (structure k) f = struct_part offset (size_in w (structure k)) f.exp ∷ []
value_stored w offset t f =
    scalar_stored offset (scalar_type t) (as_known_type f.operand.type (Some t) f.exp)

-- An expression is stored at an offset as a value of a type. A literal that initializes an array of characters makes no object
unfoldable pub stored_at : ℕ → Option TyData → ExprData → Found → Resolving (List PartData)
stored_at offset None e f = pure []
stored_at offset (Some t) e f = elim (is_text_for f.operand t) [
  | true ↦ arrange without_last_literal >> pure (text_part offset (text_for t (literal_in e)) ∷ [])
  | false ↦ ask (λ w. value_stored w offset t f)
]

-- at file level an integer constant is known by its value
abbrev pub known_exp : ConstData → Exp → Exp
known_exp variable e = e
known_exp trapping e = e
known_exp (known z) e = constant (number z)

abbrev pub fixed_exp : Bool → Found → Found
fixed_exp global f = if global then record f { exp = known_exp f.operand.constant f.exp } else f

abbrev pub init_value : Place → Bool → ExprData → Resolving Found
init_value at global e = do
  f ← expr at e >>= value_rule at
  checks (checked.fixed_rule at global f.operand)
  pure (fixed_exp global f)

-- ---- where the parts that are left stand: one of these stands beside each of them

-- where the object begins of which elements or members are left, and the shape of what is done of it
pub record Spot : Type 0 where
  pub base : ℕ
  pub done : Shape

abbrev pub spot_at : ℕ → Spot
spot_at offset = record { base = offset; done = no_members }

abbrev pub shape_or_none : Option Shape → Shape
shape_or_none None = no_members
shape_or_none (Some shape) = shape

abbrev pub part_shape : World → Option TyData → Shape
part_shape w None = no_members
part_shape w (Some t) = shape_or_none (within_limit (shape_in w t))

-- the offset of the next part, of this type, and what stands behind it
abbrev pub next_offset : Spot → Shape → ℕ
next_offset spot shape = spot.base + offset_behind spot.done.size shape

abbrev pub spot_behind : Spot → Shape → Spot
spot_behind spot shape = record { base = spot.base; done = with_member spot.done shape }

abbrev pub take_spot : Shape → List Spot → ℕ × List Spot
take_spot shape [] = (0, [])
take_spot shape (s ∷ ss) = (next_offset s shape, spot_behind s shape ∷ ss)

abbrev pub behind_spot : List Spot → List Spot
behind_spot [] = []
behind_spot (s ∷ ss) = ss

-- the offset of the next part, and where what is left behind it stands
abbrev pub next_spot : World → Frames → List Spot → ℕ × List Spot
next_spot w [] ss = (0, [])
next_spot w (elements_left t zero ∷ fs) ss = next_spot w fs (behind_spot ss)
next_spot w (elements_left t (suc n) ∷ fs) ss = take_spot (part_shape w (Some t)) ss
next_spot w (any_elements t n ∷ fs) ss = take_spot (part_shape w (Some t)) ss
next_spot w (members_left [] ∷ fs) ss = next_spot w fs (behind_spot ss)
next_spot w (members_left (m ∷ ms) ∷ fs) ss = take_spot (part_shape w m) ss

-- what is left of the parts of an object behind the first
abbrev pub spots_behind_first : World → ℕ → Option (Option TyData × Frames) → List Spot
spots_behind_first w offset None = []
spots_behind_first w offset (Some p) = spot_behind (spot_at offset) (part_shape w p.0) ∷ []

-- An expression goes into the first part, and into its first part, until it is a whole one, at most so many parts deep: what is left on the way
abbrev pub spots_in : ℕ → World → OperandData → ℕ → TyData → List Spot → List Spot
spots_in zero w o offset t ss = ss
spots_in (suc n) w o offset t ss = elim (is_whole o t) [
  | true ↦ ss
  | false ↦ elim (first_part w t) [
    | None ↦ ss
    | Some inner ↦
        spots_in n w o offset inner (spots_behind_first w offset (next_part (parts_of w t)) ++ ss)
  ]
]

-- what is left to be initialized, and where it stands
pub record Left : Type 0 where
  pub frames : Option Frames
  pub spots : List Spot

abbrev pub left : Option Frames → List Spot → Left
left fs ss = record { frames = fs; spots = ss }

abbrev pub next_in : World → Option Frames → List Spot → ℕ × List Spot
next_in w None ss = (0, [])
next_in w (Some fs) ss = next_spot w fs ss

-- where an expression goes: the type that it initializes, the offset, and what is left behind it
pub record Goal : Type 0 where
  pub type : Option TyData
  pub offset : ℕ
  pub behind : List Spot

abbrev pub goal_type : Option (TyData × Frames) → Option TyData
goal_type p = option_map (λ q. q.0) p

abbrev pub goal_by : World → OperandData → ℕ × List Spot → Option (Option TyData × Frames) → Goal
goal_by w o next None = record { type = None; offset = next.0; behind = [] }
goal_by w o next (Some p) = elim p.0 [
  | None ↦ record { type = None; offset = next.0; behind = next.1 }
  | Some t ↦ record {
    type = goal_type (going_in max_depth w o t p.1);
    offset = next.0;
    behind = spots_in max_depth w o next.0 t next.1;
  }
]

abbrev pub goal_of : OperandData → Left → World → Goal
goal_of o l w = elim l.frames [
  | None ↦ record { type = None; offset = 0; behind = [] }
  | Some fs ↦ goal_by w o (next_spot w fs l.spots) (next_part fs)
]

-- ---- initializers in their order

abbrev pub Filled : Type 0
Filled = Left × List PartData

abbrev mutual
  -- what initializes an object of this type: its type, with its length, and what is stored in it
  pub initializer : Place → Bool → Option TyData → InitData
      → Resolving (Option TyData × List PartData)
  initializer at global t (one e) = do
    f ← init_value at global e
    ty ← checks (checked.single_by at t f.operand)
    parts ← stored_at 0 t e f
    pure (ty, parts)
  initializer at global t (many is) = do
    fs ← ask (braced_frames t is)
    filled ← fill at global (left fs (spot_at 0 ∷ [])) is
    pure (completed_in_braces t is filled.0.frames, filled.1)

  -- the list initializes these parts
  pub fill : Place → Bool → Left → InitList → Resolving Filled
  fill at global l no_inits = pure (l, [])
  fill at global l (inits i is) = do
    part ← fill_part at global l i
    more ← fill at global part.0 is
    pure (more.0, part.1 ++ more.1)

  -- One expression goes to the next part or into it; braces initialize the next part.
  pub fill_part : Place → Bool → Left → InitData → Resolving Filled
  fill_part at global l (one e) = do
    f ← init_value at global e
    goal ← ask (goal_of f.operand l)
    fs ← checks (checked.part_rule at l.frames f.operand)
    parts ← stored_at goal.offset goal.type e f
    pure (left fs goal.behind, parts)
  fill_part at global l (many is) = do
    next ← ask (λ w. next_in w l.frames l.spots)
    slot ← checks (checked.slot_rule at l.frames)
    gs ← ask (braced_frames slot.0 is)
    inner ← fill at global (left gs (spot_at next.0 ∷ [])) is
    pure (left slot.1 next.1, inner.1)
