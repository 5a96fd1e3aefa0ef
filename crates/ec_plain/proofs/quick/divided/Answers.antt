-- The divisor is above 0.
use Rattle.std.proofs.Common.{rules, arith, pos, ◌≤ℤ◌}
use Rattle.std.specs.Int.{w64}
use mir.Val.{SFits}
use Rattle.std.proofs.lemmas.Int.{ints, to_z-of_z}
use Rattle.ec_plain.proofs.Quotients.{anyway, quotient_some}
use Rattle.ec_plain.proofs.quick.divided.Goals as goal

pub returns-clause-value : goal.returns-clause-value
returns-clause-value c =
    let f = c.ranges.x in let g = c.ranges.y in let k : SFits w64 c.over.result = search rules in
    quotient_some c.args.ty c.args.x c.args.y c.over.result c.fitting.result (search rules) (simp to_z-of_z at c.over.ensures) (simp to_z-of_z at c.fitting.ensures)

pub returns-clause-above : goal.returns-clause-above
returns-clause-above c = let g = c.ranges.y in anyway c.fitting.result (pos 1 ≤ℤ c.args.y) (omega (arith, ints, simp to_z-of_z at c.if-y-le0.false))
