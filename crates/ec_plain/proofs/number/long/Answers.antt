-- The value at the place of the object.
use Rattle.ec_code.specs.Trees.{leaf_view}
use Rattle.ec_code.specs.declared.step.Leaf.TheVariants as leaf
use Rattle.ec_memory_defs.specs.declared.kind.Kind.TheVariants as kind
use Rattle.ec_plain.proofs.Numbers.{value_leads}
use Rattle.ec_plain.proofs.number.long.Goals as goal

pub returns : goal.returns
returns c =
    value_leads c.args.scope.now (leaf_view (leaf.Slot c.args.slot)) kind.Long c.args.store.now c.in_ok-slot_place.field-0.0 c.long_near.result
    (c.in_ok-slot_place.ensures c.args.store.now) c.long_near.ensures
