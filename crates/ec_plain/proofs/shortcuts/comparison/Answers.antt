-- The int, and the step behind it.
use Rattle.std.proofs.Common.{◌∙◌, ap, rules, sym, Some}
use Rattle.std.specs.Int.{w64}
use Rattle.std.specs.Prelude.{map}
use mir.Val.{SFits}
use Rattle.std.proofs.lemmas.Int.{to_z-of_z}
use Rattle.ec_code.specs.Views.{plain_step_view}
use Rattle.ec_code.specs.declared.expression.Plain.{out-Plain}
use Rattle.ec_code.specs.declared.step.Leaf.TheVariants as leaf
use Rattle.ec_memory_defs.specs.Memory.{number}
use Rattle.ec_plain.proofs.Numbers.{leaf_as, one_is, step_leads}
use Rattle.ec_plain.proofs.shortcuts.comparison.Goals as goal

pub returns-in_ok-value-in-len1 : goal.returns-in_ok-value-in-len1
returns-in_ok-value-in-len1 c =
    let f : SFits w64 c.in_ok-value-in-len1.value = search rules in
    step_leads c.args.scope.now c.args.test.now (plain_step_view c.step-item.result) c.args.store.now c.args.store.now (number c.in_ok-value-in-len1.value) c.compared_at.result
    (ap (map plain_step_view) (sym c.as_slice.ensures ∙ one_is c.as_slice.result.now c.step-item.result c.in-len1.len_at_least c.in-len1.len_below c.step-item.is))
    (leaf_as c.args.scope.now (out-Plain c.args.test.now).leaf (leaf.IntValue c.in-IntValue.slot) c.args.store.now (Some c.in_ok-value-in-len1.value) c.in-IntValue.is c.in_ok-value-in-len1.ensures)
    (simp to_z-of_z at c.compared_at.ensures)
