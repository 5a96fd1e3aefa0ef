use Rattle.std.proofs.Common.{drop, map}
use Rattle.ec_ctypes.specs.views.Embedded.{part_view}
use Rattle.ec_host_defs.specs.Uses.{each_uses, part_uses}
use Rattle.ec_params.specs.Scenes.{program_of, denoted_of}
use Rattle.ec_params.proofs.Walking.{Onward}
use Rattle.ec_params.proofs.faults.walk_parts.Given as goal

abbrev pub invariant-loop-part : goal.invariant-loop-part
invariant-loop-part l = Onward (program_of l.scene) (denoted_of l.scene) (each_uses part_uses (map part_view l.parts)) (each_uses part_uses (map part_view (drop l.part-index l.parts))) l.initial.walk l.walk
