-- References as the definitions see them.
use Rattle.std.specs.Prelude.{◌≡◌, List, ◌++◌, map, Option, option_map}
use Rattle.ec_ctypes.specs.declared.embedded.host.TextArg.{TextArg}
use Rattle.ec_ctypes.specs.trees.Embedded.{TextArgData}
use Rattle.ec_ctypes.specs.views.Exprs.{expr_view}
use Rattle.ec_ctypes.specs.views.Embedded.{text_arg_view}
use Rattle.ec_typing_defs.specs.statement_parts.References.{ReferenceData, References}
use Rattle.ec_embedded_rules.specs.declared.parts.gathering.Reference.{Reference}

abbrev pub reference_view : Reference → ReferenceData
reference_view r = record { value = expr_view r.value.now; is_host = r.is_host }

abbrev pub text_option_view : Option TextArg → Option TextArgData
text_option_view = option_map text_arg_view

-- these references stand behind those before them
abbrev pub Adds : List Reference → List Reference → References → Type 0
Adds old new more = map reference_view new ≡ map reference_view old ++ more
