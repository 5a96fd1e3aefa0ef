-- The place itself, or an element of the array there.
use Rattle.std.proofs.Common.{◌∙◌, ap, sym, Some}
use Rattle.std.specs.Prelude.{map}
use Rattle.ec_code.specs.Views.{plain_step_view}
use Rattle.ec_memory_defs.specs.Memory.{address}
use Rattle.ec_plain.proofs.Numbers.{one_is, step_leads, steps_lead, two_are}
use Rattle.ec_plain.proofs.effect.target_of.Goals as goal

pub returns-in-len1 : goal.returns-in-len1
returns-in-len1 c = λ n z f.
    step_leads c.args.scope.now c.args.expression.now (plain_step_view c.step-item.result) c.args.store.now n (address c.args.place.0) (Some z)
    (ap (map plain_step_view) (sym c.as_slice.ensures ∙ one_is c.as_slice.result.now c.step-item.result c.in-len1.len_at_least c.in-len1.len_below c.step-item.is))
    (c.requires c.args.store.now) f

pub returns-in_ok-place-in-len2 : goal.returns-in_ok-place-in-len2
returns-in_ok-place-in-len2 c = λ n z f.
    steps_lead c.args.scope.now c.args.expression.now (plain_step_view c.first-item.result) (plain_step_view c.step-item-then-this-lt3.result) c.args.store.now n (address c.args.place.0) (address c.in_ok-place-in-len2.place.0) (Some z)
    (ap (map plain_step_view) (sym c.as_slice.ensures ∙ two_are c.as_slice.result.now c.first-item.result c.step-item-then-this-lt3.result c.in-len2.len_at_least c.in-len2.len_below c.first-item.is c.step-item-then-this-lt3.is))
    (c.requires c.args.store.now) c.in_ok-place-in-len2.ensures f
