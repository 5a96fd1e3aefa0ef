-- The divisor is not 0.
use Rattle.std.proofs.Common.{rules}
use Rattle.std.specs.Int.{w128}
use mir.Val.{SFits}
use Rattle.std.proofs.lemmas.Int.{to_z-of_z}
use Rattle.ec_values.proofs.Numbers.{quotient_is}
use Rattle.ec_values.proofs.arithmetic.quotient.Goals as goal

pub returns-else-b-eq0-clause-value : goal.returns-else-b-eq0-clause-value
returns-else-b-eq0-clause-value c = let f = c.ranges.a in let g = c.ranges.b in let k : SFits w128 c.over.result = search rules in
    quotient_is c.args.ty c.args.a c.args.b c.over.result _ (search rules) (simp to_z-of_z at c.over.ensures) (simp to_z-of_z at c.result_of.ensures.value)
