-- Members as later phases have them.
use Rattle.std.specs.Prelude.{Option}
use Rattle.ec_ctypes.specs.trees.Types.{TyData, MemberData}
use Rattle.ec_language.specs.Letters.{Text}
use Rattle.ec_typing_defs.specs.Statements.{type_or_void}

abbrev pub plain_member : Text × Option TyData → MemberData
plain_member m = (m.0, type_or_void m.1)
