use Rattle.std.proofs.Common.{drop, map}
use Rattle.ec_ctypes.specs.views.Embedded.{part_view}
use Rattle.ec_host_defs.specs.Bound.{each_of, part_places}
use Rattle.ec_params.specs.Scenes.{program_of, denoted_of}
use Rattle.ec_params.proofs.Adding.{Onward}
use Rattle.ec_params.proofs.lists.add_parts.Given as goal

abbrev pub invariant-loop-part : goal.invariant-loop-part
invariant-loop-part l = Onward (denoted_of l.scene) l.initial.at l.at l.initial.places l.places (each_of (part_places (program_of l.scene)) (map part_view l.parts)) (each_of (part_places (program_of l.scene)) (map part_view (drop l.part-index l.parts)))
