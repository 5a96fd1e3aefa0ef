use Rattle.std.proofs.Common.{drop, map}
use Rattle.ec_ctypes.specs.views.Embedded.{host_view}
use Rattle.ec_host_defs.specs.Uses.{each_uses, output_uses}
use Rattle.ec_params.specs.Scenes.{program_of, denoted_of}
use Rattle.ec_params.proofs.Walking.{Onward}
use Rattle.ec_params.proofs.faults.walk_outputs.Given as goal

abbrev pub invariant-loop-host : goal.invariant-loop-host
invariant-loop-host l = Onward (program_of l.scene) (denoted_of l.scene) (each_uses output_uses (map host_view l.hosts)) (each_uses output_uses (map host_view (drop l.host-index l.hosts))) l.initial.walk l.walk
