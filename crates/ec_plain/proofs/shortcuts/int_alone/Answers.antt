-- The int is all of it.
use Rattle.std.proofs.Common.{◌∙◌, sym}
use Rattle.ec_code.specs.declared.step.Leaf.TheVariants as leaf
use Rattle.ec_code.specs.declared.expression.Plain.{out-Plain}
use Rattle.ec_plain.proofs.Numbers.{leaf_as, leaf_leads, none_is}
use Rattle.ec_plain.proofs.shortcuts.int_alone.Goals as goal

pub returns-in-empty : goal.returns-in-empty
returns-in-empty c =
    leaf_leads c.args.scope.now c.args.expression.now c.args.store.now c.int.result
    (sym c.as_slice.ensures ∙ none_is c.as_slice.result.now c.in-empty.len_below)
    (leaf_as c.args.scope.now (out-Plain c.args.expression.now).leaf (leaf.IntValue c.in-IntValue.slot) c.args.store.now c.int.result c.in-IntValue.is c.int.ensures)
