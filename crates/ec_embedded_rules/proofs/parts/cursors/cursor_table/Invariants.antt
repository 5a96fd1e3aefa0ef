use Rattle.std.proofs.Common.{◌≡◌, [], drop, map}
use Rattle.ec_ctypes.specs.views.Embedded.{emb_view}
use Rattle.ec_embedded_rules.specs.parts.Cursors.{cursors_from}
use Rattle.ec_embedded_rules.proofs.parts.cursors.cursor_table.Given as goal

abbrev pub invariant-loop-n : goal.invariant-loop-n
invariant-loop-n l = cursors_from l.n (map emb_view (drop l.n l.embs)) l.cursors ≡ cursors_from 0 (map emb_view l.embs) []
