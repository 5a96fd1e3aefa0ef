use Rattle.std.proofs.Common.{drop, map}
use Rattle.ec_ctypes.specs.views.Embedded.{input_view}
use Rattle.ec_host_defs.specs.Bound.{each_of, input_places}
use Rattle.ec_params.specs.Scenes.{program_of, denoted_of}
use Rattle.ec_params.proofs.Adding.{Onward}
use Rattle.ec_params.proofs.lists.add_inputs.Given as goal

abbrev pub invariant-loop-input : goal.invariant-loop-input
invariant-loop-input l = Onward (denoted_of l.scene) l.initial.at l.at l.initial.places l.places (each_of (input_places (program_of l.scene)) (map input_view l.inputs)) (each_of (input_places (program_of l.scene)) (map input_view (drop l.input-index l.inputs)))
