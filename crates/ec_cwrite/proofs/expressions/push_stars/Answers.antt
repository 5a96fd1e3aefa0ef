use Rattle.std.proofs.Common.{◌∙◌}
use Rattle.ec_cwrite.proofs.Lists.{star_step}
use Rattle.ec_cwrite.proofs.expressions.push_stars.Goals as goal

pub loop-done-preserved : goal.loop-done-preserved
loop-done-preserved c = star_step c.args.stars c.loop-done.done c.loop-done-test.true c.in_ok-push_mark.ensures ∙ c.loop-done.invariant
