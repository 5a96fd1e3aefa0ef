-- The data of types and structs.
use Rattle.std.specs.Prelude.{ℕ, List, map}
use Rattle.ec_ctypes.specs.declared.types.arith.Arith.TheVariants as arith
use Rattle.ec_ctypes.specs.declared.types.ty.Ty.{Ty, fold-Ty}
use Rattle.ec_ctypes.specs.declared.types.ty.Ty.TheOpen.{Ty-F}
use Rattle.ec_ctypes.specs.declared.types.ty.StructDef.{StructDef}
use Rattle.ec_ctypes.specs.trees.Types.{TyData, void, arithmetic, pointer, array, structure, MemberData, StructData}

-- one level, with each type inside already seen as its data
abbrev pub ty_step : Ty-F TyData → TyData
ty_step Ty-F.Void = void
ty_step Ty-F.Bool = arithmetic arith.Bool
ty_step Ty-F.Char = arithmetic arith.Char
ty_step Ty-F.UChar = arithmetic arith.UChar
ty_step Ty-F.Short = arithmetic arith.Short
ty_step Ty-F.UShort = arithmetic arith.UShort
ty_step Ty-F.Int = arithmetic arith.Int
ty_step Ty-F.UInt = arithmetic arith.UInt
ty_step Ty-F.Long = arithmetic arith.Long
ty_step Ty-F.ULong = arithmetic arith.ULong
ty_step Ty-F.LLong = arithmetic arith.LLong
ty_step Ty-F.ULLong = arithmetic arith.ULLong
ty_step (Ty-F.Ptr t) = pointer t
ty_step (Ty-F.Array t n) = array t n
ty_step (Ty-F.Struct k) = structure k

abbrev pub ty_view : Ty → TyData
ty_view = fold-Ty TyData ty_step

abbrev pub member_view : List ℕ × Ty → MemberData
member_view m = (m.0, ty_view m.1)

abbrev pub struct_view : StructDef → StructData
struct_view d = record { tag = d.tag; varchar = d.varchar; members = map member_view d.members }

abbrev pub structs_view : List StructDef → List StructData
structs_view = map struct_view
