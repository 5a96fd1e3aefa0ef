use Rattle.std.proofs.Common.{◌≡◌, length, map}
use Rattle.ec_ctypes.specs.views.Embedded.{emb_view}
use Rattle.ec_whenever.specs.Tables.{are_in_order}
use Rattle.ec_embedded_rules.proofs.parts.order.are_in_order.Given as goal

abbrev pub invariant-loop-left : goal.invariant-loop-left
invariant-loop-left l = are_in_order (map emb_view l.left) ≡ are_in_order (map emb_view l.embs)

abbrev pub decreases-loop-left : goal.decreases-loop-left
decreases-loop-left l = length l.left
