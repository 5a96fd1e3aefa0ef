-- The int, and the steps behind it.
use Rattle.std.proofs.Common.{rules}
use Rattle.std.specs.Int.{w64}
use mir.Val.{SFits}
use Rattle.std.proofs.lemmas.Int.{to_z-of_z}
use Rattle.ec_code.specs.declared.step.Leaf.TheVariants as leaf
use Rattle.ec_plain.proofs.Numbers.{few_lead}
use Rattle.ec_plain.proofs.number.with_constant.Goals as goal

pub returns-in_ok-begun-in-IntValue : goal.returns-in_ok-begun-in-IntValue
returns-in_ok-begun-in-IntValue c =
    let f : SFits w64 c.in_ok-begun-in-IntValue.begun = search rules in
    few_lead c.args.scope.now c.args.expression.now (leaf.IntValue c.in-IntValue.slot) c.as_slice.result.now c.args.store.now c.in_ok-begun-in-IntValue.begun c.few.result
    c.in-IntValue.is c.as_slice.ensures c.in_ok-begun-in-IntValue.ensures (simp to_z-of_z at c.few.ensures)
