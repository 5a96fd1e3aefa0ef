-- What an initializer stores, as the definition has it.
use Rattle.std.specs.Prelude.{List, ◌++◌, Option, Some, None}
use Rattle.ec_ctypes.specs.trees.Types.{TyData}
use Rattle.ec_resolving_defs.specs.Initializers.{PartData, Filled}
use Rattle.ec_scopes.specs.Entries.{type_view}
use Rattle.ec_typing_defs.specs.Initializers.{completed_by}
use Rattle.ec_typing_defs.specs.Operands.{OperandData}
use Rattle.ec_resolve_values.specs.initial_parts.Parts.{parts_view}
use Rattle.ec_resolve_statements.specs.declared.fill.Initialized.{Initialized}

abbrev pub initialized_view : Initialized → Option TyData × List PartData
initialized_view i = (type_view i.ty, parts_view i.parts)

abbrev pub filled_behind : List PartData → Filled → Filled
filled_behind before f = (f.0, before ++ f.1)

-- the type of an object that one expression initializes, with its length
abbrev pub single_type : Option TyData → OperandData → Option TyData
single_type None o = None
single_type (Some t) o = completed_by t o
