use Rattle.std.proofs.Common.{sym, ◌∙◌}
use Rattle.ec_call_defs.specs.Running.{prepared_text}
use Rattle.ec_runtime.specs.Opening.{open_view}
use Rattle.ec_runtime.specs.Prepared.{prepared_views}
use Rattle.ec_runtime.proofs.Orders.{no_cursor, opens}
use Rattle.ec_runtime.proofs.requests.open_cursor.Goals as goal

pub returns-in-None-clause-quiet : goal.returns-in-None-clause-quiet
returns-in-None-clause-quiet g c =
    no_cursor c.args.line.0 c.args.name (open_view c.args.session.now) c.args.store.now c.refuse.new.store c.refuse.result
    ((λ j. prepared_text (sym c.as_slice-2.ensures j) (prepared_views (sym c.as_slice.ensures j))) ∙ sym c.in-None.ensures)
    c.refuse.ensures.area c.refuse.ensures.stop c.args.head

pub returns-clause-quiet : goal.returns-clause-quiet
returns-clause-quiet g c =
    opens c.args.line.0 c.args.name (open_view c.args.session.now) c.args.store.now c.in-Some.text.now
    ((λ j. prepared_text (sym c.as_slice-2.ensures j) (prepared_views (sym c.as_slice.ensures j))) ∙ sym c.in-Some.ensures)
    c.args.head c.in-Ok.text c.in-Ok.ensures.ok
