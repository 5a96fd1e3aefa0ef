-- The types of parameters.
use Rattle.std.specs.Prelude.{List, map, Option}
use Rattle.ec_ctypes.specs.declared.types.ty.Ty.{Ty}
use Rattle.ec_ctypes.specs.trees.Types.{TyData}
use Rattle.ec_scopes.specs.Entries.{type_view}

abbrev pub types_view : List (Option Ty) → List (Option TyData)
types_view ts = map type_view ts
