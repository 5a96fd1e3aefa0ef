use Rattle.std.proofs.Common.{◌∙◌, ap, length, map, subst}
use Rattle.ec_runtime.specs.Calling.{connections_of}
use Rattle.ec_runtime.specs.Closing.{which_of, IsWithin}
use Rattle.ec_runtime.specs.Opening.{open_view}
use Rattle.ec_runtime.specs.Reading.{given_view}
use Rattle.ec_runtime.proofs.Closing.{disconnect_read, disconnect_trapped}
use Rattle.ec_runtime.proofs.disconnecting.start_disconnect.Goals as goal

pub start_closing-requires-clause-within : goal.start_closing-requires-clause-within
start_closing-requires-clause-within g c = subst (λ xs. IsWithin c.in-Ok.which (length xs)) c.as_slice.ensures.value c.in-Ok.ensures.within

pub returns-in-Err-clause-leads : goal.returns-in-Err-clause-leads
returns-in-Err-clause-leads g c = λ areas.
    disconnect_trapped c.args.line.0 (connections_of c.args.library.now) c.args.library.now.current (given_view c.args.text.now) c.args.store.now areas c.in-Err.trap c.in-Err.ensures.chooses

pub returns-in-Ok-clause-leads : goal.returns-in-Ok-clause-leads
returns-in-Ok-clause-leads g c = λ areas.
    disconnect_read c.args.line.0 (connections_of c.args.library.now) c.args.library.now.current (given_view c.args.text.now) c.args.store.now areas c.begin_area.new.store c.start_closing.new.store c.in-Ok.ensures.chooses.0 c.in-Ok.which _
    c.in-Ok.ensures.chooses.1 (c.in-Ok.ensures.chooses.2 ∙ ap (λ xs. which_of c.in-Ok.ensures.chooses.0 c.args.library.now.current (map open_view xs)) c.as_slice.ensures.value) c.begin_area.ensures.area (c.start_closing.ensures.leads areas)
