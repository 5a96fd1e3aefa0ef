-- Parts of the rule on main.
use Rattle.std.specs.Prelude.{Bool, false, ◌&&◌, Option, Some, None, is_some, codes}
use Rattle.ec_language.specs.Letters.{same_text}
use Rattle.ec_ctypes.specs.trees.Types.{TyData}
use Rattle.ec_ctypes.specs.trees.Units.{FuncData, TopData, func_top}
use Rattle.ec_typing_defs.specs.Types.{int_type, same_type}
use Rattle.ec_typing_defs.specs.Programs.{is_main}

abbrev pub is_int_type : Option TyData → Bool
is_int_type None = false
is_int_type (Some t) = same_type t int_type

-- a definition of a function of this name
abbrev pub is_named_main : FuncData → Bool
is_named_main f = same_text f.name (codes "main") && is_some f.body

abbrev pub is_main_top : TopData → Bool
is_main_top (func_top f) = is_main f
is_main_top _ = false
