use Rattle.std.proofs.Common.{map, subst}
use Rattle.ec_call_defs.specs.Inputs.{member_read}
use Rattle.ec_call_defs.specs.Outcomes.{begun_area, next}
use Rattle.ec_runtime.specs.Describing.{items_got}
use Rattle.ec_runtime.specs.Reading.{input_view}
use Rattle.ec_runtime.specs.Says.{Changed}
use Rattle.ec_runtime.specs.Statements.{got_view}
use Rattle.ec_runtime.proofs.Telling.{begun_so, behind, ended}
use Rattle.ec_runtime.proofs.describing.describe_items.Goals as goal

pub returns-in-Err-clause-changed : goal.returns-in-Err-clause-changed
returns-in-Err-clause-changed c =
    ended (member_read (input_view c.args.index.now)) (λ text t. next (begun_area t) (λ _ u. items_got c.args.line.0 c.args.called.now text (map got_view c.args.wanted.now) u)) c.args.store.now c.args.areas.now c.in-Err.stop c.in-Err.ensures

pub returns-in-Ok-clause-changed : goal.returns-in-Ok-clause-changed
returns-in-Ok-clause-changed c =
    behind (member_read (input_view c.args.index.now)) (λ text t. next (begun_area t) (λ _ u. items_got c.args.line.0 c.args.called.now text (map got_view c.args.wanted.now) u)) c.args.store.now c.args.areas.now c.in-Ok.text c.get_items.new.store c.args.areas.now c.get_items.result
    c.in-Ok.ensures
    (begun_so (items_got c.args.line.0 c.args.called.now c.in-Ok.text (map got_view c.args.wanted.now)) c.args.store.now c.begin_area.new.store c.get_items.new.store c.args.areas.now c.args.areas.now c.get_items.result c.begin_area.ensures.area
    (subst (λ xs. Changed c.get_items.result (items_got c.args.line.0 c.args.called.now c.in-Ok.text (map got_view xs)) c.begin_area.new.store c.args.areas.now c.get_items.new.store c.args.areas.now) c.as_slice.ensures c.get_items.ensures.changed))
