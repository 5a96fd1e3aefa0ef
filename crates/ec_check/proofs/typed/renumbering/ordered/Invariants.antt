use Rattle.std.proofs.Common.{◌≡◌, map, take}
use Rattle.ec_ctypes.specs.views.Types.{structs_view}
use Rattle.ec_check.specs.typed.Orders.{renumbered_at}
use Rattle.ec_check.proofs.typed.renumbering.ordered.Given as goal

abbrev pub invariant-loop-k : goal.invariant-loop-k
invariant-loop-k l = structs_view l.new ≡ map (renumbered_at l.order.numbers (structs_view l.structs)) (take l.k-index l.k-items)
