use Rattle.std.proofs.Common.{◌≡◌, ◌∙◌, ap, map, rules, subst, to_z, of_z, w64}
use Rattle.ec_call_defs.specs.Descriptors.{items_stored}
use Rattle.ec_descriptors.specs.Calls.{item_found}
use Rattle.ec_descriptors.specs.Views.{item_view, items_view}
use Rattle.ec_runtime.specs.Says.{Quiet}
use Rattle.ec_runtime.specs.Statements.{got_view}
use Rattle.ec_runtime.proofs.Telling.{got_found}
use Rattle.ec_runtime.proofs.describing.get_items.Goals as goal

pub returns-in-Ok-clause-changed : goal.returns-in-Ok-clause-changed
returns-in-Ok-clause-changed c =
    let back : to_z w64 (of_z w64 c.in-Some-long_in.index) ≡ c.in-Some-long_in.index = search rules in
    got_found c.args.line.0 c.args.called.now c.args.store.now c.args.areas.now (items_view c.in-Some.field-0.now) c.in-Some.ensures c.args.text.now c.in-Some-long_in.index c.in-Some-long_in.ensures (map got_view c.args.wanted.now)
    (item_view c.in-Ok.item.now) c.keep_items.new.store c.keep_items.result (c.in-Ok.ensures.item ∙ ap (λ z. item_found c.args.called.now z c.args.areas.now) back)
    (subst (λ asked. Quiet c.keep_items.result (items_stored c.args.line.0 asked (item_view c.in-Ok.item.now) (map got_view c.args.wanted.now)) c.args.store.now c.keep_items.new.store) c.asks_indicator.ensures c.keep_items.ensures.quiet)
