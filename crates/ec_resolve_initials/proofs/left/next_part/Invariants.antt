use Rattle.std.proofs.Common.{◌≡◌, length}
use Rattle.ec_resolving_defs.specs.Initializers.{next_spot}
use Rattle.ec_scopes.specs.Seen.{world_of}
use Rattle.ec_typing_defs.specs.Initializers as rule
use Rattle.ec_initializers.specs.Frames.{frames_view}
use Rattle.ec_resolve_initials.specs.Spots.{spots_view}
use Rattle.ec_resolve_initials.proofs.left.next_part.Given as goal

abbrev pub invariant-loop-frame : goal.invariant-loop-frame
invariant-loop-frame l = record {
  part : rule.next_part (frames_view l.fn.frames) ≡ rule.next_part (frames_view l.frames);
  place : next_spot (world_of l.checker) (frames_view l.fn.frames) (spots_view l.fn.spots)
      ≡ next_spot (world_of l.checker) (frames_view l.frames) (spots_view l.spots);
}

abbrev pub decreases-loop-frame : goal.decreases-loop-frame
decreases-loop-frame l = length l.frames
