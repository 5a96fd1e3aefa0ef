-- The amount is one that the type allows.
use Rattle.std.proofs.Common.{arith}
use Rattle.std.proofs.lemmas.Int.{ints, to_z-of_z}
use Rattle.ec_values.proofs.Numbers.{left_is, amount_tested}
use Rattle.ec_values.proofs.arithmetic.shifted_left.Goals as goal

pub returns-clause-value : goal.returns-clause-value
returns-clause-value c =
    let f = c.ranges.a in left_is c.args.ty c.args.a c.args.amount _ _ (simp to_z-of_z at c.shifted_up.ensures.value) (omega (arith, ints, c.if-amount-lt0.false))
    (amount_tested c.args.ty c.args.amount (omega (arith, ints, c.if-amount-lt0.false)) (omega (arith, ints, c.if-amount-width.false, c.width.ensures)))
