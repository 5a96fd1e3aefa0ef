use Rattle.ec_call_defs.specs.Outcomes.{fresh_area}
use Rattle.ec_descriptors.specs.Calls.{deallocated}
use Rattle.ec_runtime.specs.Describing.{area_taken}
use Rattle.ec_runtime.proofs.Telling.{taken_is, telling}
use Rattle.ec_runtime.proofs.describing.deallocate.Goals as goal

pub returns-clause-changed : goal.returns-clause-changed
returns-clause-changed c =
    telling c.args.line.0 (area_taken c.args.line.0 c.args.called.now) (deallocated c.args.called.now c.args.areas.now) c.begin_area.new.store (fresh_area c.args.store.now) c.told.new.store c.args.areas.now c.deallocate-done.new.self c.told.result
    c.begin_area.ensures.area (taken_is c.args.line.0 c.args.called.now (fresh_area c.args.store.now) c.args.areas.now)
    (c.told.ensures.changed c.args.areas.now c.deallocate-done.new.self (deallocated c.args.called.now c.args.areas.now) c.deallocate-done.ensures)
