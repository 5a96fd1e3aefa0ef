use Rattle.std.proofs.Common.{◌≡◌, [], drop, map}
use Rattle.ec_ctypes.specs.views.Types.{member_view}
use Rattle.ec_params.specs.Listed.{with_members}
use Rattle.ec_params.proofs.listed.places_among.Given as goal

abbrev pub invariant-loop-member : goal.invariant-loop-member
invariant-loop-member l = with_members l.at l.table (map member_view (drop l.member-index l.members)) ≡ with_members 0 [] (map member_view l.members)
