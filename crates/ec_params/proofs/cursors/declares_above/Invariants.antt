use Rattle.std.proofs.Common.{◌≡◌, ◌++◌, [], drop, map}
use Rattle.ec_ctypes.specs.views.Embedded.{emb_view}
use Rattle.ec_params.specs.Tables.{aboves}
use Rattle.ec_params.proofs.cursors.declares_above.Given as goal

abbrev pub invariant-loop-emb : goal.invariant-loop-emb
invariant-loop-emb l = l.above ++ aboves l.number l.table (map emb_view (drop l.emb-index l.embs)) ≡ aboves 0 [] (map emb_view l.embs)
