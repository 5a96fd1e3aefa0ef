use Rattle.std.proofs.Common.{drop, map}
use Rattle.ec_ctypes.specs.views.Embedded.{input_view}
use Rattle.ec_host_defs.specs.Uses.{each_uses, input_uses, input_role}
use Rattle.ec_params.specs.Scenes.{program_of, denoted_of}
use Rattle.ec_params.proofs.Walking.{Onward}
use Rattle.ec_params.proofs.faults.walk_inputs.Given as goal

abbrev pub invariant-loop-input : goal.invariant-loop-input
invariant-loop-input l = Onward (program_of l.scene) (denoted_of l.scene) (each_uses (input_uses input_role) (map input_view l.inputs)) (each_uses (input_uses input_role) (map input_view (drop l.input-index l.inputs))) l.initial.walk l.walk
