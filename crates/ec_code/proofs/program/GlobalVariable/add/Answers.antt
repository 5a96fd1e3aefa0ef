use Rattle.std.proofs.Common.{◌+◌, ◌≤◌, length, sym, subst, arith}
use Rattle.ec_code.specs.Objects.{AreInside}
use Rattle.ec_code.proofs.Inside.{one_inside}
use Rattle.ec_code.proofs.program.GlobalVariable.add.Goals as goal

pub invariant_of-self-2 : goal.invariant_of-self-2
invariant_of-self-2 c =
    let lt : c.args.part.at + length c.args.part.bytes ≤ c.self.inside.size = omega (arith, c.in-Some.ensures, c.len.ensures, c.if-end-self.false) in
    (c.self.invariant.0, c.self.invariant.1, subst (AreInside c.self.inside.size) (sym c.in_ok-push.ensures.ok) (one_inside c.self.inside.size c.self.inside.values c.args.part c.self.invariant.2 lt))
