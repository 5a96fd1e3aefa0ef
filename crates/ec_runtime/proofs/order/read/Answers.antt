use Rattle.ec_runtime.proofs.Starting.{naming_stops, wanted_stops, reading_stops, reading_gives}
use Rattle.ec_runtime.proofs.order.read.Goals as goal

pub returns-in-Err : goal.returns-in-Err
returns-in-Err c = wanted_stops c.args.it.now c.args.store.now c.in-Err.stop c.in-Err.ensures

pub returns-in-Err-values : goal.returns-in-Err-values
returns-in-Err-values c = reading_stops c.args.it.now c.as_slice.result.now c.args.store.now c.in-Ok.what c.as_slice.ensures c.in-Ok.ensures c.in-Err-values.stop c.in-Err-values.ensures

pub returns-in-Err-area_name : goal.returns-in-Err-area_name
returns-in-Err-area_name c =
    naming_stops c.args.it.now c.as_slice.result.now c.args.store.now c.in-Ok.what c.as_slice.ensures c.in-Ok.ensures c.in-Ok-values.params c.in-Ok-values.ensures c.in-Err-area_name.stop c.in-Err-area_name.ensures

pub returns-in-Ok-area_name : goal.returns-in-Ok-area_name
returns-in-Ok-area_name c =
    reading_gives c.args.it.now c.as_slice.result.now c.args.store.now c.in-Ok.what c.as_slice.ensures c.in-Ok.ensures c.in-Ok-values.params c.in-Ok-values.ensures c.in-Ok-area_name.area c.in-Ok-area_name.ensures
