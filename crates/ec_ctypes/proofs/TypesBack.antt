-- Types and structs from their data.
use Rattle.std.proofs.Common.{◌≡◌, refl, ◌∙◌, ap, subst, List, ℕ, map}
use Rattle.ec_ctypes.specs.declared.types.arith.Arith.{Arith}
use Rattle.ec_ctypes.specs.declared.types.arith.Arith.TheVariants as arith
use Rattle.ec_ctypes.specs.declared.types.ty.Ty.{Ty, roll-Ty, map-Ty, fold-roll-Ty, ind-Ty}
use Rattle.ec_ctypes.specs.declared.types.ty.Ty.TheOpen.{Ty-F}
use Rattle.ec_ctypes.specs.declared.types.ty.StructDef.{StructDef}
use Rattle.ec_ctypes.specs.trees.Types.{TyData, void, arithmetic, pointer, array, structure, MemberData, StructData}
use Rattle.ec_ctypes.specs.views.Types.{ty_step, ty_view, member_view, struct_view, structs_view}
use Rattle.ec_ctypes.proofs.Undone.{map_undone, undone_same}

-- the layer of an integer type
abbrev arith_layer : Arith → Ty-F Ty
arith_layer arith.Bool = Ty-F.Bool
arith_layer arith.Char = Ty-F.Char
arith_layer arith.UChar = Ty-F.UChar
arith_layer arith.Short = Ty-F.Short
arith_layer arith.UShort = Ty-F.UShort
arith_layer arith.Int = Ty-F.Int
arith_layer arith.UInt = Ty-F.UInt
arith_layer arith.Long = Ty-F.Long
arith_layer arith.ULong = Ty-F.ULong
arith_layer arith.LLong = Ty-F.LLong
arith_layer arith.ULLong = Ty-F.ULLong

-- the type that has this data
abbrev pub ty_back : TyData → Ty
ty_back void = roll-Ty Ty-F.Void
ty_back (arithmetic t) = roll-Ty (arith_layer t)
ty_back (pointer t) = roll-Ty (Ty-F.Ptr (ty_back t))
ty_back (array t n) = roll-Ty (Ty-F.Array (ty_back t) n)
ty_back (structure k) = roll-Ty (Ty-F.Struct k)

-- the view of this type can be undone
abbrev IsUndone : Ty → Type 0
IsUndone t = ty_back (ty_view t) ≡ t

-- a layer, with the proof beside each type inside
layer_undone : (y : Ty-F ((t : Ty) × IsUndone t)) → ty_back (ty_step (map-Ty Ty TyData ty_view (map-Ty ((t : Ty) × IsUndone t) Ty (λ e. e.0) y))) ≡ roll-Ty (map-Ty ((t : Ty) × IsUndone t) Ty (λ e. e.0) y)
layer_undone Ty-F.Void = refl
layer_undone Ty-F.Bool = refl
layer_undone Ty-F.Char = refl
layer_undone Ty-F.UChar = refl
layer_undone Ty-F.Short = refl
layer_undone Ty-F.UShort = refl
layer_undone Ty-F.Int = refl
layer_undone Ty-F.UInt = refl
layer_undone Ty-F.Long = refl
layer_undone Ty-F.ULong = refl
layer_undone Ty-F.LLong = refl
layer_undone Ty-F.ULLong = refl
layer_undone (Ty-F.Ptr t) = λ i. roll-Ty (Ty-F.Ptr (t.1 i))
layer_undone (Ty-F.Array t n) = λ i. roll-Ty (Ty-F.Array (t.1 i) n)
layer_undone (Ty-F.Struct k) = refl

-- the data of a type has no other type
pub ty_undone : (t : Ty) → ty_back (ty_view t) ≡ t
ty_undone = ind-Ty IsUndone (λ x y is. subst (λ z. IsUndone (roll-Ty z)) is (ap ty_back (fold-roll-Ty TyData ty_step (map-Ty ((t : Ty) × IsUndone t) Ty (λ e. e.0) y)) ∙ layer_undone y))

-- where two have one view, they are one
pub same_ty : (a : Ty) → (b : Ty) → ty_view a ≡ ty_view b → a ≡ b
same_ty = undone_same ty_view ty_back ty_undone

-- the member that has this data
abbrev member_back : MemberData → List ℕ × Ty
member_back m = (m.0, ty_back m.1)

member_undone : (m : List ℕ × Ty) → member_back (member_view m) ≡ m
member_undone m = λ i. (m.0, ty_undone m.1 i)

-- the struct that has this data
abbrev pub struct_back : StructData → StructDef
struct_back d = record { tag = d.tag; varchar = d.varchar; members = map member_back d.members }

pub struct_undone : (d : StructDef) → struct_back (struct_view d) ≡ d
struct_undone d = λ i. record { tag = d.tag; varchar = d.varchar; members = map_undone member_view member_back member_undone d.members i }

pub same_struct : (a : StructDef) → (b : StructDef) → struct_view a ≡ struct_view b → a ≡ b
same_struct = undone_same struct_view struct_back struct_undone

pub same_structs : (a : List StructDef) → (b : List StructDef) → structs_view a ≡ structs_view b → a ≡ b
same_structs = undone_same structs_view (map struct_back) (map_undone struct_view struct_back struct_undone)
