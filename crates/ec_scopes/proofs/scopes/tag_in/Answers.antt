use Rattle.std.proofs.Common.{◌∙◌, arith}
use Rattle.ec_scopes.proofs.Views.{tag_found, tag_missing}
use Rattle.ec_scopes.proofs.scopes.tag_in.Goals as goal

pub returns-in-Some : goal.returns-in-Some
returns-in-Some c = tag_found c.args.tag.now c.args.scopes.now c.loop-left.left c.index-scopes-left.result c.loop-left-test.true c.loop-left.invariant.within c.in-Some.ensures ∙ c.loop-left.invariant.rest

pub loop-left-preserved : goal.loop-left-preserved
loop-left-preserved c = record {
  within = omega arith;
  rest = tag_missing c.args.tag.now c.args.scopes.now c.loop-left.left c.index-scopes-left.result c.loop-left-test.true c.loop-left.invariant.within c.in_default.ensures ∙ c.loop-left.invariant.rest;
}
