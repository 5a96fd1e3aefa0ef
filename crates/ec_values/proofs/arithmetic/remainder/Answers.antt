-- The divisor is not 0.
use Rattle.std.proofs.Common.{rules, ap, Ok, ◌∙◌}
use Rattle.std.specs.Int.{w128}
use mir.Val.{SFits}
use Rattle.std.proofs.lemmas.Int.{to_z-of_z}
use Rattle.ec_values.proofs.Numbers.{remainder_ok, remainder_err}
use Rattle.ec_values.proofs.arithmetic.remainder.Goals as goal

pub returns-in-Ok-clause-value : goal.returns-in-Ok-clause-value
returns-in-Ok-clause-value c =
    let f = c.ranges.a in let g = c.ranges.b in let k : SFits w128 c.over.result = search rules in let m : SFits w128 c.rest.result = search rules in
    ap Ok (to_z-of_z w128 c.rest.result m)
    ∙ remainder_ok c.args.ty c.args.a c.args.b c.over.result _ _ (search rules) (simp to_z-of_z at c.over.ensures) (simp to_z-of_z at c.in-Ok.ensures.value) (simp to_z-of_z at c.rest.ensures.value)

pub returns-in-Err-clause-value : goal.returns-in-Err-clause-value
returns-in-Err-clause-value c =
    let f = c.ranges.a in let g = c.ranges.b in let k : SFits w128 c.over.result = search rules in
    remainder_err c.args.ty c.args.a c.args.b c.over.result _ (search rules) (simp to_z-of_z at c.over.ensures) (simp to_z-of_z at c.in-Err.ensures.value)
