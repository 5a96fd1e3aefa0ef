use Rattle.std.proofs.Common.{◌∙◌, arith}
use Rattle.ec_scopes.proofs.Views.{name_found, name_missing}
use Rattle.ec_scopes.proofs.scopes.name_in.Goals as goal

pub returns-in-Some : goal.returns-in-Some
returns-in-Some c = name_found c.args.name.now c.args.scopes.now c.loop-left.left c.index-scopes-left.result c.loop-left-test.true c.loop-left.invariant.within c.in-Some.ensures ∙ c.loop-left.invariant.rest

pub loop-left-preserved : goal.loop-left-preserved
loop-left-preserved c = record {
  within = omega arith;
  rest = name_missing c.args.name.now c.args.scopes.now c.loop-left.left c.index-scopes-left.result c.loop-left-test.true c.loop-left.invariant.within c.in_default.ensures ∙ c.loop-left.invariant.rest;
}
