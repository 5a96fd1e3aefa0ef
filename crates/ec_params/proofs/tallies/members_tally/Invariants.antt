use Rattle.std.proofs.Common.{◌≡◌, Some, drop, map}
use Rattle.ec_ctypes.specs.views.Types.{member_view, structs_view}
use Rattle.ec_params.specs.Tallies.{members_tally, no_leaves}
use Rattle.ec_params.proofs.tallies.members_tally.Given as goal

abbrev pub invariant-loop-member : goal.invariant-loop-member
invariant-loop-member l =
    members_tally (structs_view l.structs) l.tallies l.all (map member_view (drop l.member-index l.members))
    ≡ members_tally (structs_view l.structs) l.tallies (Some no_leaves) (map member_view l.members)
