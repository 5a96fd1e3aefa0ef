use Rattle.std.proofs.Common.{◌≡◌, refl, rules, subst, to_z, of_z, w64}
use Rattle.ec_descriptors.specs.Calls.{Changes, item_set}
use Rattle.ec_runtime.specs.Describing.{value_put}
use Rattle.ec_runtime.proofs.Telling.{telling, value_is}
use Rattle.ec_runtime.proofs.describing.put_value.Goals as goal

pub returns-in-Ok-clause-changed : goal.returns-in-Ok-clause-changed
returns-in-Ok-clause-changed c = λ n here.
    let back : to_z w64 (of_z w64 c.args.index) ≡ c.args.index = search rules in
    telling c.args.line.0 (value_put c.args.line.0 c.args.called.now n c.args.value.now) (item_set c.args.called.now c.args.index c.args.value.now.0 c.args.value.now.1 c.args.areas.now) c.args.store.now c.args.store.now c.told.new.store c.args.areas.now c.set_item-done.new.self c.told.result refl
    (value_is c.args.line.0 c.args.called.now c.args.store.now c.args.areas.now c.args.index n c.args.value.now here)
    (c.told.ensures.changed c.args.areas.now c.set_item-done.new.self (item_set c.args.called.now c.args.index c.args.value.now.0 c.args.value.now.1 c.args.areas.now)
    (subst (λ text. Changes c.set_item-done.result c.args.areas.now c.set_item-done.new.self (item_set c.args.called.now c.args.index c.args.value.now.0 text c.args.areas.now)) c.in-Ok.ensures.ok
    (subst (λ z. Changes c.set_item-done.result c.args.areas.now c.set_item-done.new.self (item_set c.args.called.now z c.args.value.now.0 c.in-Ok.text c.args.areas.now)) back c.set_item-done.ensures)))
