use Rattle.ec_initializers.proofs.FrameLemmas.{taken_none, taken_some}
use Rattle.ec_initializers.proofs.frames.next_member.Goals as goal

pub returns-in-None : goal.returns-in-None
returns-in-None c = taken_none c.args.members c.get.result.now c.args.at c.get.ensures c.in-None.ensures

pub returns : goal.returns
returns c = taken_some c.args.members c.get.result.now c.args.at c.in-Some.ty.now c.in_ok-part-in-Some.part c.get.ensures c.in-Some.ensures c.in_ok-part-in-Some.ensures
