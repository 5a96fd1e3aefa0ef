use Rattle.std.proofs.Common.{◌≡◌, ◌∙◌, List, map, subst, sym}
use Rattle.ec_ctypes.specs.trees.Checked.{MarkData}
use Rattle.ec_ctypes.specs.views.Checked.{mark_view}
use Rattle.ec_ctypes.specs.views.Embedded.{emb_view}
use Rattle.ec_typing_defs.specs.statement_parts.Handlers.{marks_in}
use Rattle.ec_whenever.specs.Tables.{table_of, AnswersFor}
use Rattle.ec_whenever.proofs.Tables.{table_answers}
use Rattle.ec_whenever.proofs.table.handlers.Goals as goal

pub returns-clause-answers : goal.returns-clause-answers
returns-clause-answers c = λ h.
    let is : map mark_view c.in_ok-marks.marks ≡ table_of (marks_in (map emb_view c.args.embs.now)) = c.in_ok-marks.ensures ∙ (λ i. table_of (marks_in (map emb_view (c.as_slice.ensures i)))) in
    subst (λ (t : List MarkData). AnswersFor t (map emb_view c.args.embs.now)) (sym is) (table_answers (map emb_view c.args.embs.now) h)
