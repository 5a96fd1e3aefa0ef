use Rattle.std.proofs.Common.{sym}
use Rattle.ec_ctypes.specs.views.Types.{structs_view}
use Rattle.ec_leaves.specs.Going.{members_of}
use Rattle.ec_leaves.proofs.Turning.{none_left}
use Rattle.ec_leaves.proofs.going.turn.Goals as goal

pub leave-requires-clause-left : goal.leave-requires-clause-left
leave-requires-clause-left c =
    none_left (members_of (structs_view c.args.structs.now) c.args.walk.now.id) c.args.walk.now.next (sym c.in-None.ensures)
