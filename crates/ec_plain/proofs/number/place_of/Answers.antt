-- The place is that of the leaf.
use Rattle.ec_code.specs.declared.step.Leaf.TheVariants as leaf
use Rattle.std.proofs.Common.{Some}
use Rattle.ec_plain.proofs.Numbers.{stands_as}
use Rattle.ec_plain.proofs.number.place_of.Goals as goal

pub returns-in-Slot : goal.returns-in-Slot
returns-in-Slot c = stands_as c.args.scope.now c.args.leaf.now (leaf.Slot c.in-Slot.slot) c.slot_place.result c.in-Slot.is c.slot_place.ensures

pub returns-in-Object : goal.returns-in-Object
returns-in-Object c = stands_as c.args.scope.now c.args.leaf.now (leaf.Object c.in-Object.number) (Some c.object_place.result) c.in-Object.is (c.object_place.ensures c.args.scope.now)
