use Rattle.std.proofs.Common.{Err, List, Ok, map, subst}
use Rattle.ec_call_defs.specs.Descriptors.{values_read}
use Rattle.ec_call_defs.specs.Inputs.{member_read}
use Rattle.ec_call_defs.specs.Outcomes.{Field, begun_area, next}
use Rattle.ec_ctypes.specs.declared.embedded.emb.Item.{Item as Kind}
use Rattle.ec_runtime.specs.Describing.{items_put}
use Rattle.ec_runtime.specs.Reading.{input_view}
use Rattle.ec_runtime.specs.Says.{Changed, Quiet}
use Rattle.ec_runtime.specs.Statements.{set_view}
use Rattle.ec_runtime.proofs.Telling.{begun_so, behind, ended}
use Rattle.ec_runtime.proofs.describing.describe_values.Goals as goal

pub returns-in-Err-clause-changed : goal.returns-in-Err-clause-changed
returns-in-Err-clause-changed c =
    ended (member_read (input_view c.args.index.now)) (λ text t. next (values_read (map set_view c.args.given.now) t) (λ values u. next (begun_area u) (λ _ v. items_put c.args.line.0 c.args.called.now text values v))) c.args.store.now c.args.areas.now c.in-Err.stop c.in-Err.ensures

pub returns-in-Err-read_values-clause-changed : goal.returns-in-Err-read_values-clause-changed
returns-in-Err-read_values-clause-changed c =
    behind (member_read (input_view c.args.index.now)) (λ text t. next (values_read (map set_view c.args.given.now) t) (λ values u. next (begun_area u) (λ _ v. items_put c.args.line.0 c.args.called.now text values v))) c.args.store.now c.args.areas.now c.in-Ok.text c.args.store.now c.args.areas.now (Err c.in-Err-read_values.stop)
    c.in-Ok.ensures
    (ended (values_read (map set_view c.args.given.now)) (λ values u. next (begun_area u) (λ _ v. items_put c.args.line.0 c.args.called.now c.in-Ok.text values v)) c.args.store.now c.args.areas.now c.in-Err-read_values.stop
    (subst (λ xs. Quiet {A = List (Kind × Field)} (Err c.in-Err-read_values.stop) (values_read (map set_view xs)) c.args.store.now c.args.store.now) c.as_slice.ensures c.in-Err-read_values.ensures))

pub returns-clause-changed : goal.returns-clause-changed
returns-clause-changed c =
    behind (member_read (input_view c.args.index.now)) (λ text t. next (values_read (map set_view c.args.given.now) t) (λ values u. next (begun_area u) (λ _ v. items_put c.args.line.0 c.args.called.now text values v))) c.args.store.now c.args.areas.now c.in-Ok.text c.set_items.new.store c.set_items.new.areas c.set_items.result
    c.in-Ok.ensures
    (behind (values_read (map set_view c.args.given.now)) (λ values u. next (begun_area u) (λ _ v. items_put c.args.line.0 c.args.called.now c.in-Ok.text values v)) c.args.store.now c.args.areas.now c.in-Ok-read_values.values c.set_items.new.store c.set_items.new.areas c.set_items.result
    (subst (λ xs. Quiet (Ok c.in-Ok-read_values.values) (values_read (map set_view xs)) c.args.store.now c.args.store.now) c.as_slice.ensures c.in-Ok-read_values.ensures)
    (begun_so (items_put c.args.line.0 c.args.called.now c.in-Ok.text c.in-Ok-read_values.values) c.args.store.now c.begin_area.new.store c.set_items.new.store c.args.areas.now c.set_items.new.areas c.set_items.result c.begin_area.ensures.area
    (subst (λ xs. Changed c.set_items.result (items_put c.args.line.0 c.args.called.now c.in-Ok.text xs) c.begin_area.new.store c.args.areas.now c.set_items.new.store c.set_items.new.areas) c.as_slice-in-Ok-read_values.ensures c.set_items.ensures.changed)))
