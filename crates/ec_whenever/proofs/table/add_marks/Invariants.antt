use Rattle.std.proofs.Common.{◌≡◌, ◌++◌, drop, map}
use Rattle.ec_ctypes.specs.views.Checked.{mark_view}
use Rattle.ec_ctypes.specs.views.Embedded.{emb_view}
use Rattle.ec_typing_defs.specs.statement_parts.Handlers.{marks_in}
use Rattle.ec_whenever.specs.Tables.{marks_for}
use Rattle.ec_whenever.proofs.table.add_marks.Given as goal

abbrev pub invariant-loop-emb : goal.invariant-loop-emb
invariant-loop-emb l = map mark_view l.marks ++ marks_for l.cond (marks_in (map emb_view (drop l.emb-index l.embs))) ≡ map mark_view l.initial.marks ++ marks_for l.cond (marks_in (map emb_view l.embs))
