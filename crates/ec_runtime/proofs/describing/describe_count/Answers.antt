use Rattle.ec_call_defs.specs.Inputs.{member_read}
use Rattle.ec_call_defs.specs.Outcomes.{begun_area, next}
use Rattle.ec_runtime.specs.Describing.{count_put}
use Rattle.ec_runtime.specs.Reading.{input_view}
use Rattle.ec_runtime.proofs.Telling.{begun_so, behind, ended}
use Rattle.ec_runtime.proofs.describing.describe_count.Goals as goal

pub returns-in-Err-clause-changed : goal.returns-in-Err-clause-changed
returns-in-Err-clause-changed c =
    ended (member_read (input_view c.args.value.now)) (λ text t. next (begun_area t) (λ _ u. count_put c.args.line.0 c.args.called.now text u)) c.args.store.now c.args.areas.now c.in-Err.stop c.in-Err.ensures

pub returns-in-Ok-clause-changed : goal.returns-in-Ok-clause-changed
returns-in-Ok-clause-changed c =
    behind (member_read (input_view c.args.value.now)) (λ text t. next (begun_area t) (λ _ u. count_put c.args.line.0 c.args.called.now text u)) c.args.store.now c.args.areas.now c.in-Ok.text c.set_count.new.store c.set_count.new.areas c.set_count.result
    c.in-Ok.ensures
    (begun_so (count_put c.args.line.0 c.args.called.now c.in-Ok.text) c.args.store.now c.begin_area.new.store c.set_count.new.store c.args.areas.now c.set_count.new.areas c.set_count.result c.begin_area.ensures.area c.set_count.ensures.changed)
