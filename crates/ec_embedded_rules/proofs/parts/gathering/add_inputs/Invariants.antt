use Rattle.std.proofs.Common.{◌≡◌, ◌++◌, drop, map}
use Rattle.ec_ctypes.specs.views.Embedded.{input_view}
use Rattle.ec_typing_defs.specs.statement_parts.References.{of_all, of_input}
use Rattle.ec_embedded_rules.specs.parts.Views.{reference_view}
use Rattle.ec_embedded_rules.proofs.parts.gathering.add_inputs.Given as goal

abbrev pub invariant-loop-input : goal.invariant-loop-input
invariant-loop-input l =
    map reference_view l.all ++ of_all of_input (map input_view (drop l.input-index l.inputs))
    ≡ map reference_view l.initial.all ++ of_all of_input (map input_view l.inputs)
