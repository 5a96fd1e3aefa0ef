use Rattle.std.proofs.Common.{sym, ◌∙◌}
use Rattle.ec_call_defs.specs.Running.{prepared_text}
use Rattle.ec_runtime.specs.Opening.{open_view}
use Rattle.ec_runtime.specs.Prepared.{prepared_views}
use Rattle.ec_runtime.proofs.Orders.{no_name, is_there}
use Rattle.ec_runtime.proofs.preparing.find_name.Goals as goal

pub returns-in-None-clause-quiet : goal.returns-in-None-clause-quiet
returns-in-None-clause-quiet g c =
    no_name c.args.line.0 c.args.name.now (open_view c.args.session.now) c.args.store.now c.refuse.new.store c.refuse.result
    ((λ j. prepared_text (sym c.as_slice-2.ensures j) (prepared_views (sym c.as_slice.ensures j))) ∙ sym c.in-None.ensures)
    c.refuse.ensures.area c.refuse.ensures.stop

pub returns-in-Some-clause-quiet : goal.returns-in-Some-clause-quiet
returns-in-Some-clause-quiet g c =
    is_there c.args.line.0 c.args.name.now (open_view c.args.session.now) c.args.store.now c.in-Some.field-0.now
    ((λ j. prepared_text (sym c.as_slice-2.ensures j) (prepared_views (sym c.as_slice.ensures j))) ∙ sym c.in-Some.ensures)
