-- Types, members and structs as the code holds them: their layout, and which of them are integers, are those of their data.
use Rattle.std.specs.Prelude.{◌≡◌, ◌≢◌, ℕ, ◌^◌, ◌<◌, ◌≤◌, List, map, Option, Some, IfSome}
use Rattle.ec_base.specs.declared.fault.LimitKind.{LimitKind}
use Rattle.ec_base.specs.declared.fault.LimitKind.TheVariants.{L1}
use Rattle.ec_ctypes.specs.declared.types.arith.Arith.{Arith}
use Rattle.ec_ctypes.specs.declared.types.sizes.Shape.{Shape}
use Rattle.ec_ctypes.specs.declared.types.ty.Ty.{Ty}
use Rattle.ec_ctypes.specs.declared.types.ty.StructDef.{StructDef}
use Rattle.ec_ctypes.specs.trees.Types.{TyData, arithmetic, structure}
use Rattle.ec_ctypes.specs.views.Types.{ty_view, member_view, structs_view}
use Rattle.ec_ctypes.specs.Layout.{no_members, with_members, struct_shape, shapes_of, shape_of, member_behind, member_of, HasElements, IsTooMany}

-- the shape of a type among these structs
abbrev pub shape_in : List StructDef → Ty → Option Shape
shape_in structs ty = shape_of (structs_view structs) (ty_view ty)

-- the shape of the struct of this number
abbrev pub shape_at : List StructDef → ℕ → Option Shape
shape_at structs id = shape_of (structs_view structs) (structure id)

-- the shape of a struct with these members, which stands behind these structs
abbrev pub shape_behind : List StructDef → List (List ℕ × Ty) → Option Shape
shape_behind structs members =
    struct_shape (shapes_of (structs_view structs)) (map member_view members)

-- the bytes up to the end of the last of these members, and the widest alignment of one
abbrev pub members_in : List StructDef → List (List ℕ × Ty) → Option Shape
members_in structs members =
    with_members (shapes_of (structs_view structs)) no_members (map member_view members)

-- the offset and the type of the first of these members that has this name
abbrev pub named_in : List StructDef → List (List ℕ × Ty) → List ℕ → Option (ℕ × TyData)
named_in structs members name =
    member_behind (shapes_of (structs_view structs)) no_members name (map member_view members)

-- the offset and the type of the member of this name, in the struct of this number
abbrev pub member_in : List StructDef → ℕ → List ℕ → Option (ℕ × TyData)
member_in structs id name = member_of (structs_view structs) id name

-- a shape within the limit
abbrev pub IsWithinLimit : Shape → Type 0
IsWithinLimit shape = shape.size ≤ 2 ^ 24

-- what was found is this shape, and it is within the limit
abbrev pub HasShape : Option Shape → Shape → Type 0
HasShape found shape = (found ≡ Some shape) × IsWithinLimit shape

-- what was found has more bytes than the limit, which is L1
abbrev pub PassesLimit : Option Shape → LimitKind → Type 0
PassesLimit found limit = (limit ≡ L1) × IfSome found (λ shape. 2 ^ 24 < shape.size)

-- this type is so many of these elements, row by row
abbrev pub AreElements : Ty → ℕ → Ty → Type 0
AreElements ty count element = HasElements (ty_view ty) count (ty_view element)

-- this type has no shape within the limit, whatever the structs
abbrev pub AreTooMany : Ty → Type 0
AreTooMany ty = IsTooMany (ty_view ty)

-- this type is this integer type
abbrev pub IsInteger : Ty → Arith → Type 0
IsInteger ty t = ty_view ty ≡ arithmetic t

-- this type is no integer type
abbrev pub IsNoInteger : Ty → Type 0
IsNoInteger ty = (t : Arith) → ty_view ty ≢ arithmetic t
