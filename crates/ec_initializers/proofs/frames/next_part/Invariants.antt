use Rattle.std.proofs.Common.{◌≡◌, length}
use Rattle.ec_typing_defs.specs.Initializers as rule
use Rattle.ec_initializers.specs.Frames.{frames_view}
use Rattle.ec_initializers.proofs.frames.next_part.Given as goal

abbrev pub invariant-loop-frame : goal.invariant-loop-frame
invariant-loop-frame l = rule.next_part (frames_view l.fn.frames) ≡ rule.next_part (frames_view l.frames)

abbrev pub decreases-loop-frame : goal.decreases-loop-frame
decreases-loop-frame l = length l.frames
