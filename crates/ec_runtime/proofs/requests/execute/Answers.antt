use Rattle.std.proofs.Common.{sym, ◌∙◌}
use Rattle.ec_call_defs.specs.Running.{prepared_text}
use Rattle.ec_runtime.specs.Opening.{open_view}
use Rattle.ec_runtime.specs.Prepared.{prepared_views}
use Rattle.ec_runtime.proofs.Orders.{no_execution, executes}
use Rattle.ec_runtime.proofs.requests.execute.Goals as goal

pub returns-in-None-clause-quiet : goal.returns-in-None-clause-quiet
returns-in-None-clause-quiet g c =
    no_execution c.args.line.0 c.args.name (open_view c.args.session.now) c.args.store.now c.refuse.new.store c.refuse.result
    ((λ j. prepared_text (sym c.as_slice-2.ensures j) (prepared_views (sym c.as_slice.ensures j))) ∙ sym c.in-None.ensures)
    c.refuse.ensures.area c.refuse.ensures.stop

pub returns-in-Some-clause-quiet : goal.returns-in-Some-clause-quiet
returns-in-Some-clause-quiet g c =
    executes c.args.line.0 c.args.name (open_view c.args.session.now) c.args.store.now c.in-Some.field-0.now
    ((λ j. prepared_text (sym c.as_slice-2.ensures j) (prepared_views (sym c.as_slice.ensures j))) ∙ sym c.in-Some.ensures)
