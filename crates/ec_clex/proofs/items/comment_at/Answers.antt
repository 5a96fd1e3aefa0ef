use Rattle.std.proofs.Common.{◌∙◌, drop, sym}
use Rattle.ec_clex.proofs.ItemSteps.{comment_found, comment_cut, comment_endless, comment_line}
use Rattle.ec_clex.proofs.items.comment_at.Goals as goal

pub returns-in-Passed-clause-is : goal.returns-in-Passed-clause-is
returns-in-Passed-clause-is c = comment_found c.args.text.now c.args.at (drop c.in-Passed.end c.args.text.now) (sym c.begins_two.ensures.is ∙ c.if-begins_two.true) c.in-Passed.ensures.is

pub returns-then-begins_two-2-clause-is : goal.returns-then-begins_two-2-clause-is
returns-then-begins_two-2-clause-is c =
    comment_line c.args.text.now c.args.at (drop c.behind_all.result c.args.text.now) (sym c.begins_two.ensures.is ∙ c.if-begins_two.false) (sym c.begins_two-2.ensures.is ∙ c.if-begins_two-2.true) c.behind_all.ensures.rest

pub returns-in-Cut-clause-is : goal.returns-in-Cut-clause-is
returns-in-Cut-clause-is c = comment_cut c.args.text.now c.args.at (drop c.in-Cut.field-0 c.args.text.now) (sym c.begins_two.ensures.is ∙ c.if-begins_two.true) c.in-Cut.ensures.is

pub returns-in-Endless-clause-is : goal.returns-in-Endless-clause-is
returns-in-Endless-clause-is c = comment_endless c.args.text.now c.args.at (sym c.begins_two.ensures.is ∙ c.if-begins_two.true) c.in-Endless.ensures.is
