-- What the code of these rules holds, as plain data.
use Rattle.std.specs.Prelude.{◌≡◌, Bool, true, false, ◌||◌, Option, None, option_map, IsTrue}
use Rattle.ec_ctypes.specs.declared.types.ty.Ty.{Ty}
use Rattle.ec_ctypes.specs.trees.Types.{TyData, void, arithmetic, pointer, array, structure}
use Rattle.ec_ctypes.specs.views.Types.{ty_view}
use Rattle.ec_type_rules.specs.declared.constants.constant.Constant.{Constant}
use Rattle.ec_type_rules.specs.declared.constants.constant.Constant.TheVariants.{Variable, Trapping, Known}
use Rattle.ec_type_rules.specs.declared.types.operators.Value.{Value}
use Rattle.ec_typing_defs.specs.Constants.{ConstData, variable, trapping, known}
use Rattle.ec_typing_defs.specs.Types.{is_void, same_type, only_if}

-- what an expression is as a constant
abbrev pub constant_view : Constant → ConstData
constant_view Variable = variable
constant_view Trapping = trapping
constant_view (Known z) = known z

-- the type, if there is one
abbrev pub type_view : Option Ty → Option TyData
type_view = option_map ty_view

-- whether this is a pointer to a type that passes the test
abbrev pub points_to : (TyData → Bool) → TyData → Bool
points_to test void = false
points_to test (arithmetic a) = false
points_to test (pointer t) = test t
points_to test (array t n) = false
points_to test (structure k) = false

-- the value tells whether what it points to passes the test of complete types
abbrev pub Tells : (TyData → Bool) → Value → Type 0
Tells complete value = value.to_complete ≡ points_to complete (ty_view value.ty)

-- they are one type, or one of them is void
abbrev pub are_alike : TyData → TyData → Bool
are_alike s t = same_type s t || is_void s || is_void t

-- whether this is a pointer
abbrev pub is_pointer : TyData → Bool
is_pointer t = points_to (λ _. true) t

abbrev pub IsPointer : Ty → Type 0
IsPointer ty = IsTrue (is_pointer (ty_view ty))

-- what a pointer points to, if this passes the test
abbrev pub complete_target : (TyData → Bool) → TyData → Option TyData
complete_target complete void = None
complete_target complete (arithmetic a) = None
complete_target complete (pointer t) = only_if (complete t) t
complete_target complete (array t n) = None
complete_target complete (structure k) = None
