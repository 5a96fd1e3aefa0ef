use Rattle.std.proofs.Common.{◌∙◌, ◌<◌, IfSome, ap, length, map, subst}
use Rattle.ec_runtime.specs.Calling.{seen_by}
use Rattle.ec_runtime.specs.Opening.{open_view}
use Rattle.ec_runtime.specs.Reading.{text_view}
use Rattle.ec_runtime.specs.Seeking.{place_sought}
use Rattle.ec_runtime.proofs.Begun.{act_given, act_trapped, act_unread}
use Rattle.ec_runtime.proofs.firsts.start_act.Goals as goal

pub start_over-requires-clause-within : goal.start_over-requires-clause-within
start_over-requires-clause-within g c = subst (λ xs. IfSome c.in-Ok.place (λ at. at < length xs)) c.as_slice.ensures.value c.in-Ok.ensures.within

pub returns-in-Err-clause-leads : goal.returns-in-Err-clause-leads
returns-in-Err-clause-leads g c =
    act_trapped c.args.line.0 (text_view c.args.connection.now) c.args.act (seen_by c.args.store.now c.args.library.now) (seen_by c.args.store.now c.args.library.now) c.args.areas.now c.in-Err.trap c.in-Err.ensures.finds

pub returns-in-Err-read_act-clause-leads : goal.returns-in-Err-read_act-clause-leads
returns-in-Err-read_act-clause-leads g c =
    act_unread c.args.line.0 (text_view c.args.connection.now) c.args.act (seen_by c.args.store.now c.args.library.now) (seen_by c.args.store.now c.args.library.now) c.args.areas.now c.in-Ok.ensures.finds.0 c.in-Ok.ensures.finds.1 c.in-Err-read_act.stop c.in-Err-read_act.ensures

pub returns-in-Ok-read_act-clause-leads : goal.returns-in-Ok-read_act-clause-leads
returns-in-Ok-read_act-clause-leads g c =
    act_given c.args.line.0 (text_view c.args.connection.now) c.args.act (seen_by c.args.store.now c.args.library.now) (seen_by c.start_over.new.store c.start_over.new.library) c.args.areas.now c.in-Ok.ensures.finds.0 c.in-Ok.ensures.finds.1 c.in-Ok-read_act.ready _
    c.in-Ok-read_act.ensures
    (c.start_over.ensures.leads c.in-Ok.ensures.finds.0 (c.in-Ok.ensures.finds.2 ∙ ap (λ xs. place_sought c.in-Ok.ensures.finds.0 c.args.library.now.current (map open_view xs)) c.as_slice.ensures.value))
