use Rattle.std.proofs.Common.{drop, map}
use Rattle.ec_ctypes.specs.views.Embedded.{part_view}
use Rattle.ec_params.specs.Scenes.{program_of, denoted_of}
use Rattle.ec_params.proofs.Sent.{Onward}
use Rattle.ec_params.proofs.sending.send_parts.Given as goal

abbrev pub invariant-loop-part : goal.invariant-loop-part
invariant-loop-part l = Onward (program_of l.scene) (denoted_of l.scene) (map part_view l.parts) (map part_view (drop l.part-index l.parts)) l.initial.sending l.sending
