use Rattle.std.proofs.Common.{◌≡◌, ◌++◌, drop, take, map}
use Rattle.ec_ctypes.specs.views.Embedded.{emb_view}
use Rattle.ec_expand_blocks.specs.cursors.Declares.{numbers_from, declare_numbers, Knows}
use Rattle.ec_expand_blocks.proofs.cursors.table.cursors.Given as goal

abbrev pub invariant-loop-number : goal.invariant-loop-number
invariant-loop-number l = record {
  whole : l.numbers ++ numbers_from (map emb_view l.embs) l.number (drop l.number (map emb_view l.embs)) ≡ declare_numbers (map emb_view l.embs);
  known : Knows l.known (take l.number (map emb_view l.embs));
}
