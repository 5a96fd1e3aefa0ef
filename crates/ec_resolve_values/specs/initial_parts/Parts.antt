-- What is stored in an object, as the definition has it.
use Rattle.std.specs.Prelude.{List, map}
use Rattle.ec_code.specs.Views.{expression_view}
use Rattle.ec_memory_defs.specs.Kinds.{kind_type}
use Rattle.ec_meaning_defs.specs.resolved.Resolved.{Exp}
use Rattle.ec_resolving_defs.specs.Initializers.{PartData, scalar_part, text_part, struct_part, part_stored}
use Rattle.ec_resolve_values.specs.declared.initial_parts.part.Part.{Part}
use Rattle.ec_resolve_values.specs.declared.initial_parts.part.Part.TheVariants.{Scalar, Text, Struct}

abbrev pub part_view : Part → PartData
part_view (Scalar offset kind value) = scalar_part offset (kind_type kind) (expression_view value)
part_view (Text offset bytes) = text_part offset bytes
part_view (Struct offset size address) = struct_part offset size (expression_view address)

abbrev pub parts_view : List Part → List PartData
parts_view ps = map part_view ps

-- each part as it is stored in an object
abbrev pub stored_each : Exp → List PartData → List Exp
stored_each at ps = map (part_stored at) ps
