use Rattle.ec_runtime.proofs.Asking.{asked_from}
use Rattle.ec_runtime.proofs.open.ask.Goals as goal

pub returns-clause-ok : goal.returns-clause-ok
returns-clause-ok g c =
    let h = c.in_ok-ask.ensures in
    asked_from (λ z. (goal.Link-dyn g (z.vtable, z.value)).talk z.value) (λ z. (goal.Link-dyn g (z.vtable, z.value)).faults z.value) c.args.request c.args.rack.now c.ask.new.self c.args.session.now c.ask.new.conn c.keep_told-session.result
    h.slots h.slot c.requires.asks h.later h.ok c.keep_told-session.ensures
