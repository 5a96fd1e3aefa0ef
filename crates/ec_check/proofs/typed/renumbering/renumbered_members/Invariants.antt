use Rattle.std.proofs.Common.{◌≡◌, map, take}
use Rattle.ec_ctypes.specs.views.Types.{member_view}
use Rattle.ec_check.specs.typed.Orders.{renumbered_member}
use Rattle.ec_check.proofs.typed.renumbering.renumbered_members.Given as goal

abbrev pub invariant-loop-name : goal.invariant-loop-name
invariant-loop-name l = map member_view l.new ≡ map (renumbered_member l.order.numbers) (map member_view (take l.name-index l.members))
