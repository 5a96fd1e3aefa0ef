use Rattle.std.proofs.Common.{◌≡◌}
use Rattle.ec_ctypes.specs.views.Types.{ty_view}
use Rattle.ec_resolving_defs.specs.Initializers.{spots_in}
use Rattle.ec_scopes.specs.Seen.{world_of}
use Rattle.ec_rules.specs.Seen.{operand_view}
use Rattle.ec_typing_defs.specs.Initializers as rule
use Rattle.ec_initializers.specs.Frames.{frames_view}
use Rattle.ec_resolve_initials.specs.Spots.{spots_view}
use Rattle.ec_resolve_initials.proofs.goals.go_in.Given as goal

abbrev pub invariant-loop-left : goal.invariant-loop-left
invariant-loop-left l = record {
  gone : rule.going_in l.depth (world_of l.checker) (operand_view l.o) (ty_view l.fn.ty) (frames_view l.fn.frames)
      ≡ rule.going_in l.left (world_of l.checker) (operand_view l.o) (ty_view l.here) (frames_view l.frames);
  place : spots_in l.depth (world_of l.checker) (operand_view l.o) l.offset (ty_view l.fn.ty) (spots_view l.fn.spots)
      ≡ spots_in l.left (world_of l.checker) (operand_view l.o) l.offset (ty_view l.here) (spots_view l.spots);
}

abbrev pub decreases-loop-left : goal.decreases-loop-left
decreases-loop-left l = l.left
