use Rattle.std.proofs.Common.{◌∙◌, ap, sym}
use Rattle.std.proofs.lemmas.Int.{to_z-of_z}
use Rattle.std.specs.Int.{w128}
use Rattle.std.specs.Prelude.{FitsSigned}
use Rattle.ec_typing_defs.specs.Constants.{common_operated}
use Rattle.ec_type_rules.proofs.Values.{usual_wide, unshifted}
use Rattle.ec_type_rules.proofs.constants.values.binary_value.Goals as goal

pub common_operated-requires : goal.common_operated-requires
common_operated-requires c = rw c.usual.ensures (usual_wide c.args.a c.args.b)

pub returns-in_default : goal.returns-in_default
returns-in_default c =
    let left : FitsSigned w128 c.args.x = c.ranges.x in
    let right : FitsSigned w128 c.args.y = c.ranges.y in
    (simp to_z-of_z at c.common_operated.ensures)
    ∙ ap (λ t. common_operated c.args.op t c.args.x c.args.y) c.usual.ensures
    ∙ sym (unshifted c.args.op c.args.a c.args.x c.args.b c.args.y c.in_default.not-Shl c.in_default.not-Shr)
