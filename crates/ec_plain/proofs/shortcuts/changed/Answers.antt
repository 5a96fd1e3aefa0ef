-- One step at the place.
use Rattle.std.proofs.Common.{◌∙◌, ap, sym, Some}
use Rattle.std.specs.Prelude.{map}
use Rattle.ec_code.specs.Views.{plain_step_view}
use Rattle.ec_code.specs.declared.expression.Plain.{out-Plain}
use Rattle.ec_code.specs.declared.step.Leaf.TheVariants as leaf
use Rattle.ec_memory_defs.specs.Memory.{address}
use Rattle.ec_plain.proofs.Numbers.{one_is, stands_as, step_leads}
use Rattle.ec_plain.proofs.shortcuts.changed.Goals as goal

pub returns-in_ok-place-in-len1-clause-some : goal.returns-in_ok-place-in-len1-clause-some
returns-in_ok-place-in-len1-clause-some c =
    step_leads c.args.scope.now c.args.expression.now (plain_step_view c.step-item.result) c.args.store.now c.changed_at.new.store (address c.in_ok-place-in-len1.place.0) c.changed_at.result
    (ap (map plain_step_view) (sym c.as_slice.ensures ∙ one_is c.as_slice.result.now c.step-item.result c.in-len1.len_at_least c.in-len1.len_below c.step-item.is))
    (stands_as c.args.scope.now (out-Plain c.args.expression.now).leaf (leaf.Slot c.in-Slot.slot) (Some c.in_ok-place-in-len1.place) c.in-Slot.is c.in_ok-place-in-len1.ensures c.args.store.now)
    c.changed_at.ensures.some
