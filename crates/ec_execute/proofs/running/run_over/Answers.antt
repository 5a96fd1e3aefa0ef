use Rattle.std.proofs.Common.{◌∙◌, ap, map}
use Rattle.ec_calling.specs.Views.{call_view}
use Rattle.ec_code.specs.Views.{program_view}
use Rattle.ec_execute.specs.Executables.{executable_view}
use Rattle.ec_execute.proofs.Carrying.{nothing_given, over_machine, unrun}
use Rattle.ec_execute.proofs.running.run_over.Goals as goal

pub returns-in-Ok : goal.returns-in-Ok
returns-in-Ok g c =
    over_machine (λ z. (goal.Link-dyn g (z.vtable, z.value)).talk z.value) (λ z. (goal.Link-dyn g (z.vtable, z.value)).faults z.value)
    g.O.Sink.held g.O.Sink.faults g.E.Sink.held g.E.Sink.faults (executable_view c.args.executable.now) c.args.turns c.args.out.now c.go_on-end.new.out c.args.err.now c.go_on-end.new.err
    c.begin.new.self c.go_on-end.new.self c.args.rack.now c.begin.new.rack c.go_on-end.new.rack c.give_up.new.rack c.go_on-end.result c.ended.result
    c.in-Ok.ensures.of c.in-Ok.ensures.begun c.in-Ok.ensures.ready c.in-Ok.ensures.taken c.begin.ensures.log
    (ap program_view (c.begin.ensures.program ∙ c.new-machine.ensures.program)) (ap (map call_view) (c.begin.ensures.calls ∙ c.new-machine.ensures.calls ∙ c.as_slice-calls.ensures)) c.in-Ok.ensures.turns
    c.go_on-end.ensures c.give_up.ensures.closes c.give_up.ensures.log c.ended.ensures

pub returns-in-Err : goal.returns-in-Err
returns-in-Err g c =
    unrun _ _ g.O.Sink.held g.O.Sink.faults g.E.Sink.held g.E.Sink.faults (executable_view c.args.executable.now) c.args.turns c.args.out.now c.args.err.now c.args.rack.now c.give_up-in-Err.new.rack c.free_ready.new.rack
    (nothing_given (λ z. (goal.Link-dyn g (z.vtable, z.value)).talk z.value) (λ z. (goal.Link-dyn g (z.vtable, z.value)).faults z.value) _ _ _ c.in-Err.ensures.fresh.connections c.give_up-in-Err.ensures.closes ∙ c.in-Err.ensures.slots) (c.give_up-in-Err.ensures.log ∙ c.begin.ensures.log) c.free_ready.ensures
