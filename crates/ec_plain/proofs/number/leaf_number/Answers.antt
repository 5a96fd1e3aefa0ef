-- The leaf is one of these.
use Rattle.ec_code.specs.declared.step.Leaf.TheVariants as leaf
use Rattle.ec_plain.proofs.Numbers.{constant_leads, leaf_as}
use Rattle.ec_plain.proofs.number.leaf_number.Goals as goal

pub returns-in-IntValue : goal.returns-in-IntValue
returns-in-IntValue c = leaf_as c.args.scope.now c.args.leaf.now (leaf.IntValue c.in-IntValue.slot) c.args.store.now c.int.result c.in-IntValue.is c.int.ensures

pub returns-in-LongValue : goal.returns-in-LongValue
returns-in-LongValue c = leaf_as c.args.scope.now c.args.leaf.now (leaf.LongValue c.in-LongValue.slot) c.args.store.now c.long.result c.in-LongValue.is c.long.ensures

pub returns-in-Constant : goal.returns-in-Constant
returns-in-Constant c =
    leaf_as c.args.scope.now c.args.leaf.now (leaf.Constant c.in-Constant.word) c.args.store.now c.small.result c.in-Constant.is
    (constant_leads c.args.scope.now c.in-Constant.word c.args.store.now c.small.result c.small.ensures.value)
