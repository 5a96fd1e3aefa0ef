use Rattle.std.proofs.Common.{◌≡◌}
use Rattle.ec_ctypes.specs.views.Types.{ty_view}
use Rattle.ec_scopes.specs.Seen.{world_of}
use Rattle.ec_rules.specs.Seen.{operand_view}
use Rattle.ec_typing_defs.specs.Initializers as rule
use Rattle.ec_initializers.specs.Frames.{frames_view}
use Rattle.ec_initializers.proofs.parts.go_in.Given as goal

abbrev pub invariant-loop-left : goal.invariant-loop-left
invariant-loop-left l =
    rule.going_in l.depth (world_of l.checker) (operand_view l.o) (ty_view l.fn.ty) (frames_view l.fn.frames)
    ≡ rule.going_in l.left (world_of l.checker) (operand_view l.o) (ty_view l.here) (frames_view l.frames)

abbrev pub decreases-loop-left : goal.decreases-loop-left
decreases-loop-left l = l.left
