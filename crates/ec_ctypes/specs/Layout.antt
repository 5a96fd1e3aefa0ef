-- Size, alignment and the offsets of members (ISO/IEC 9899:1999, 6.2.6, 6.5.3.4 and 6.7.2.1). Sizes and offsets are in bytes and have no upper end. Each scalar is aligned to its size, an array to its elements, and a struct to its widest member.
use Rattle.std.specs.Prelude.{◌≡◌, ℕ, zero, suc, ◌+◌, ◌*◌, ◌^◌, ◌<◌, ◌≤◌, max, List, [], ◌∷◌, ◌++◌, map, Option, Some, None, option_map, option_and_then, slice_get, take, if◌then◌else◌, nat_eq, nat_le}
use Rattle.std.specs.Int.{next_multiple_of}
use Rattle.std.specs.Cmp.Lexicographic.{pointwise}
use Rattle.ec_ctypes.specs.declared.types.arith.Arith.{Arith}
use Rattle.ec_ctypes.specs.declared.types.arith.Arith.TheVariants.{Bool, Char, UChar, Short, UShort, Int, UInt, Long, ULong, LLong, ULLong}
use Rattle.ec_ctypes.specs.declared.types.sizes.Shape.{Shape}
use Rattle.ec_ctypes.specs.trees.Types.{TyData, void, arithmetic, pointer, array, structure, MemberData, StructData}

abbrev pub arith_size : Arith → ℕ
arith_size Bool = 1
arith_size Char = 1
arith_size UChar = 1
arith_size Short = 2
arith_size UShort = 2
arith_size Int = 4
arith_size UInt = 4
arith_size Long = 8
arith_size ULong = 8
arith_size LLong = 8
arith_size ULLong = 8

abbrev pub pointer_size : ℕ
pointer_size = 8

abbrev pub scalar : ℕ → Shape
scalar size = record { size = size; align = size }

abbrev pub repeated : ℕ → Shape → Shape
repeated count element = record { size = count * element.size; align = element.align }

-- the shape of a type, where `shapes` has those of the structs by their numbers. void and a type that is not complete have none: an array without a length, which has the count 0, and a struct whose members are not listed
abbrev pub shape_among : List (Option Shape) → TyData → Option Shape
shape_among shapes void = None
shape_among shapes (arithmetic t) = Some (scalar (arith_size t))
shape_among shapes (pointer t) = Some (scalar pointer_size)
shape_among shapes (array t zero) = None
shape_among shapes (array t (suc n)) = option_map (repeated (suc n)) (shape_among shapes t)
shape_among shapes (structure k) = option_and_then (λ shape. shape) (slice_get shapes k)

-- where a member of this shape starts that stands behind `used` bytes
abbrev pub offset_behind : ℕ → Shape → ℕ
offset_behind used member = next_multiple_of used member.align

-- members so far, and one more behind them: the bytes up to its end, and the greatest alignment
abbrev pub with_member : Shape → Shape → Shape
with_member before member = record {
  size = offset_behind before.size member + member.size;
  align = max before.align member.align;
}

-- no members so far
abbrev pub no_members : Shape
no_members = record { size = 0; align = 1 }

-- the members so far, and then these
abbrev pub with_members : List (Option Shape) → Shape → List MemberData → Option Shape
with_members shapes before [] = Some before
with_members shapes before (m ∷ ms) = option_and_then
    (λ member. with_members shapes (with_member before member) ms) (shape_among shapes m.1)

-- the shape of a struct with these members: its size is rounded up to its alignment
abbrev pub struct_shape : List (Option Shape) → List MemberData → Option Shape
struct_shape shapes [] = None
struct_shape shapes (m ∷ ms) =
    option_map (λ all. record { size = next_multiple_of all.size all.align; align = all.align })
    (with_members shapes no_members (m ∷ ms))

-- the shapes of structs, each over the shapes of those before it
abbrev pub shapes_behind : List (Option Shape) → List StructData → List (Option Shape)
shapes_behind shapes [] = shapes
shapes_behind shapes (d ∷ ds) = shapes_behind (shapes ++ struct_shape shapes d.members ∷ []) ds

abbrev pub shapes_of : List StructData → List (Option Shape)
shapes_of structs = shapes_behind [] structs

-- the shape of a type among these structs
abbrev pub shape_of : List StructData → TyData → Option Shape
shape_of structs ty = shape_among (shapes_of structs) ty

-- the offset and the type of the first member of this name, of members that stand behind others
abbrev pub member_behind : List (Option Shape) →
    Shape → List ℕ → List MemberData → Option (ℕ × TyData)
member_behind shapes before name [] = None
member_behind shapes before name (m ∷ ms) =
    option_and_then
    (λ member. if pointwise nat_eq m.0 name then Some (offset_behind before.size member, m.1)
    else member_behind shapes (with_member before member) name ms) (shape_among shapes m.1)

-- the offset and the type of the member of this name, in the struct of this number
abbrev pub member_of : List StructData → ℕ → List ℕ → Option (ℕ × TyData)
member_of structs k name = option_and_then
    (λ d. member_behind (shapes_of (take k structs)) no_members name d.members)
    (slice_get structs k)

-- a shape of at most 2^24 bytes
abbrev pub limited : Option Shape → Option Shape
limited None = None
limited (Some shape) = if nat_le shape.size 16777216 then Some shape else None

-- what is kept of structs: the shape of each, where it has one within the limit
abbrev pub kept_shapes : List StructData → List (Option Shape)
kept_shapes structs = map limited (shapes_of structs)

-- a size that is within the limit, and an alignment that some type has
pub record IsSmall (shape : Shape) : Type 0 where
  pub size : shape.size ≤ 2 ^ 24
  pub positive : 0 < shape.align
  pub align : shape.align ≤ 8

-- no array
abbrev pub IsElement : TyData → Type 0
IsElement void = Unit {0}
IsElement (arithmetic t) = Unit {0}
IsElement (pointer t) = Unit {0}
IsElement (array t n) = ⊥
IsElement (structure k) = Unit {0}

-- this type is `count` of these elements, row by row
pub record HasElements (ty : TyData) (count : ℕ) (element : TyData) : Type 0 where
  pub single : IsElement element
  pub positive : 0 < count
  pub small : count ≤ 2 ^ 24
  pub shape : (structs : List StructData) →
      shape_of structs ty ≡ option_map (repeated count) (shape_of structs element)

-- this type has no shape within the limit, whatever the structs
abbrev pub IsTooMany : TyData → Type 0
IsTooMany ty = (structs : List StructData) → limited (shape_of structs ty) ≡ None
