use Rattle.std.proofs.Common.{drop, map}
use Rattle.ec_ctypes.specs.views.Embedded.{host_view}
use Rattle.ec_host_defs.specs.Bound.{each_of, host_places}
use Rattle.ec_params.specs.Scenes.{program_of, denoted_of}
use Rattle.ec_params.proofs.Adding.{Onward}
use Rattle.ec_params.proofs.lists.add_outputs.Given as goal

abbrev pub invariant-loop-host : goal.invariant-loop-host
invariant-loop-host l = Onward (denoted_of l.scene) l.initial.at l.at l.initial.places l.places (each_of (host_places (program_of l.scene)) (map host_view l.hosts)) (each_of (host_places (program_of l.scene)) (map host_view (drop l.host-index l.hosts)))
