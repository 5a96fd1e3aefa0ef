use Rattle.std.proofs.Common.{refl}
use Rattle.ec_calling.proofs.Stepping.{unasked, unasked_moved}
use Rattle.ec_calling.proofs.resuming.go_on.Goals as goal

pub returns-then-not-is_ready-clause-resumed : goal.returns-then-not-is_ready-clause-resumed
returns-then-not-is_ready-clause-resumed g c = λ was is.
    unasked c.args.rack.now c.args.library.now c.abandon.new.self c.args.places.now c.args.places.now c.abandon.ensures.connections c.abandon.ensures.areas c.abandon.ensures.under_way refl c.args.line.0 c.args.store.now was is

pub returns-then-not-is_ready-clause-moved : goal.returns-then-not-is_ready-clause-moved
returns-then-not-is_ready-clause-moved g c =
    unasked_moved c.args.rack.now c.args.library.now c.abandon.new.self c.args.places.now c.args.places.now c.abandon.ensures.connections c.abandon.ensures.areas c.abandon.ensures.under_way refl
    (λ z. (goal.Link-dyn g (z.vtable, z.value)).talk z.value) (λ z. (goal.Link-dyn g (z.vtable, z.value)).faults z.value)
