use Rattle.ec_ctypes.specs.views.Types.{ty_view}
use Rattle.ec_rules.specs.Seen.{operand_view}
use Rattle.ec_scopes.specs.Seen.{world_of}
use Rattle.ec_initializers.specs.Frames.{frames_view}
use Rattle.ec_resolve_initials.specs.Spots.{spots_view}
use Rattle.ec_resolve_initials.proofs.Aiming.{aimed_into}
use Rattle.ec_resolve_initials.proofs.goals.aim_into.Goals as goal

pub returns-clause-goal : goal.returns-clause-goal
returns-clause-goal c =
    aimed_into (world_of c.args.checker.now) (operand_view c.args.o.now) c.args.offset (ty_view c.args.ty) (frames_view c.args.left_frames) (frames_view c.go_in.new.frames)
    (spots_view c.args.left_spots) (spots_view c.go_in.new.spots) c.in_ok-gone.gone c.in_ok-gone.ensures.frames c.in_ok-gone.ensures.spots
