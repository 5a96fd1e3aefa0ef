-- The operation on both.
use Rattle.std.proofs.Common.{rules}
use Rattle.std.specs.Int.{w64}
use mir.Val.{SFits}
use Rattle.std.proofs.lemmas.Int.{to_z-of_z}
use Rattle.ec_code.specs.Trees.{leaf_view}
use Rattle.ec_code.specs.declared.step.Leaf.TheVariants as leaf
use Rattle.ec_plain.proofs.Numbers.{operate_leads}
use Rattle.ec_plain.proofs.number.with_long.Goals as goal

pub returns : goal.returns
returns c =
    let f : SFits w64 c.in_ok-right.right = search rules in let g = c.ranges.value in
    operate_leads c.args.scope.now c.args.operation.now (leaf_view (leaf.LongValue c.args.slot)) c.args.value c.in_ok-right.right c.args.store.now c.combined.result c.in_ok-right.ensures (simp to_z-of_z at c.combined.ensures)
