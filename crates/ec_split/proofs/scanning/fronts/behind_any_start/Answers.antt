use Rattle.std.proofs.Common.{◌∙◌, sym}
use Rattle.ec_split.proofs.Walks.{start_no_blank, start_no_second, start_longer, start_found}
use Rattle.ec_split.proofs.scanning.fronts.behind_any_start.Goals as goal

pub returns-then-not-class_at-clause-is : goal.returns-then-not-class_at-clause-is
returns-then-not-class_at-clause-is c = start_no_blank c.args.text.now c.args.at (sym c.class_at.ensures ∙ c.if-not-class_at.true)

pub returns-then-not-word_at-2-clause-is : goal.returns-then-not-word_at-2-clause-is
returns-then-not-word_at-2-clause-is c =
    start_no_second c.args.text.now c.args.at c.behind_all-second.result c.behind_all-second.ensures.rest (sym c.word_at-2.ensures.is ∙ c.if-not-word_at-2.true)

pub returns-then-class_at-clause-is : goal.returns-then-class_at-clause-is
returns-then-class_at-clause-is c =
    start_longer c.args.text.now c.args.at c.behind_all-second.result c.behind_all-second.ensures.rest (sym c.class_at-2.ensures ∙ c.if-class_at.true)

pub returns-clause-is : goal.returns-clause-is
returns-clause-is c =
    start_found c.args.text.now c.args.at c.behind_all-second.result c.behind_all-second.ensures.rest (sym c.word_at.ensures.is ∙ c.if-not-word_at.false)
    (sym c.class_at.ensures ∙ c.if-not-class_at.false) (sym c.word_at-2.ensures.is ∙ c.if-not-word_at-2.false) (sym c.class_at-2.ensures ∙ c.if-class_at.false)
