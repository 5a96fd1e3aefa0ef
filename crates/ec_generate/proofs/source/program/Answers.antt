use Rattle.std.proofs.Common.{◌≡◌, arith}
use Rattle.ec_generate.proofs.Joins.{one_more, whole}
use Rattle.ec_generate.proofs.source.program.Goals as goal

pub loop-asked-preserved : goal.loop-asked-preserved
loop-asked-preserved c = (
  one_more c.loop-asked.asked c.loop-asked.text _ c.loop-asked.invariant.0 c.in_ok-push_question.ensures,
  omega (arith, c.loop-asked-test.true),
)

pub returns : goal.returns
returns c =
    let last : c.loop-asked.asked ≡ c.args.number = omega (arith, c.loop-asked-test.false, c.loop-asked.invariant.1) in
    whole c.args.number c.loop-asked.text _ (rw last at c.loop-asked.invariant.0) c.in_ok-extend_from_slice-2.ensures.ok
