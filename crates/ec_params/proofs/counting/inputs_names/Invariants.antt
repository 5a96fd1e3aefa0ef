use Rattle.std.proofs.Common.{◌≡◌, ◌+◌, drop, map}
use Rattle.ec_ctypes.specs.views.Embedded.{input_view}
use Rattle.ec_params.specs.Naming.{names_among}
use Rattle.ec_typing_defs.specs.statement_parts.References.{of_all, of_input}
use Rattle.ec_params.proofs.counting.inputs_names.Given as goal

abbrev pub invariant-loop-input : goal.invariant-loop-input
invariant-loop-input l = l.count + names_among (of_all of_input (map input_view (drop l.input-index l.inputs))) ≡ names_among (of_all of_input (map input_view l.inputs))
