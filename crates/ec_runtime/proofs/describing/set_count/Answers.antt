use Rattle.std.proofs.Common.{◌≡◌, refl, rules, subst, w64}
use Rattle.std.proofs.Common.{to_z, of_z}
use Rattle.ec_descriptors.specs.Calls.{Changes, count_set}
use Rattle.ec_descriptors.specs.Views.{items_view}
use Rattle.ec_runtime.specs.Describing.{count_put}
use Rattle.ec_runtime.proofs.Telling.{count_put_is, telling}
use Rattle.ec_runtime.proofs.describing.set_count.Goals as goal

pub returns-in-Some-long_in-clause-changed : goal.returns-in-Some-long_in-clause-changed
returns-in-Some-long_in-clause-changed c =
    let back : to_z w64 (of_z w64 c.in-Some-long_in.count) ≡ c.in-Some-long_in.count = search rules in
    telling c.args.line.0 (count_put c.args.line.0 c.args.called.now c.args.text.now) (count_set c.args.called.now c.in-Some-long_in.count c.args.areas.now) c.args.store.now c.args.store.now c.told.new.store c.args.areas.now c.set_count-done.new.self c.told.result refl
    (count_put_is c.args.line.0 c.args.called.now c.args.store.now c.args.areas.now (items_view c.in-Some.field-0.now) c.in-Some.ensures c.args.text.now c.in-Some-long_in.count c.in-Some-long_in.ensures)
    (c.told.ensures.changed c.args.areas.now c.set_count-done.new.self (count_set c.args.called.now c.in-Some-long_in.count c.args.areas.now)
    (subst (λ z. Changes c.set_count-done.result c.args.areas.now c.set_count-done.new.self (count_set c.args.called.now z c.args.areas.now)) back c.set_count-done.ensures))
