use Rattle.std.proofs.Common.{arith, ◌^◌}
use Rattle.std.proofs.lemmas.Int.{to_z-of_z, fits_signed_mul}
use Rattle.std.specs.Int.{w128}
use Rattle.std.specs.Prelude.{FitsSigned}
use Rattle.ec_type_rules.proofs.constants.values.signed_product.Goals as goal

pub returns : goal.returns
returns c =
    let left : FitsSigned w128 c.args.x = c.ranges.x in
    let right : FitsSigned w128 c.args.y = c.ranges.y in
    let product = fits_signed_mul w128 c.args.x c.args.y (2 ^ 63) (2 ^ 63) c.requires.left c.requires.right (omega arith) in
    simp to_z-of_z
