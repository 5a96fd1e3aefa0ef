use Rattle.std.proofs.Common.{None, Ok, subst}
use Rattle.ec_call_defs.specs.Library.{library_call}
use Rattle.ec_call_defs.specs.Steps.{settled}
use Rattle.ec_calling.specs.Giving.{all_seen, Evaluated, Gives, Halted}
use Rattle.ec_calling.specs.Making.{Begun, going_of, known_at, position_at}
use Rattle.ec_calling.proofs.Carrying.{argument_stops, arguments_left, in_turn, no_turn}
use Rattle.ec_calling.proofs.Evaluating.{still}
use Rattle.ec_calling.proofs.making.make.Goals as goal

pub returns-then-not-take_turn-clause-begun : goal.returns-then-not-take_turn-clause-begun
returns-then-not-take_turn-clause-begun g c = λ log.
    no_turn c.args.scope.now (still c.args.values.now c.args.call.now.arguments) c.args.call.now.name c.args.line.0 c.args.store.now c.give.new.store (all_seen c.in-Ok-Some.given) c.args.turns.now c.take_turn.new.turns
    (subst (λ a. Evaluated c.args.scope.now (still c.args.values.now a) c.args.store.now c.give.new.store (all_seen c.in-Ok-Some.given)) c.as_slice-arguments.ensures
    (subst (λ o. Gives c.args.scope.now (still c.args.values.now c.as_slice-arguments.result.now) c.args.store.now c.give.new.store (Ok o)) c.in-Ok-Some.field-0-is c.in-Ok-Some.ensures))
    c.args.library.now c.requires.idle log c.if-not-take_turn.ensures.turn

pub returns-in-Err-clause-begun : goal.returns-in-Err-clause-begun
returns-in-Err-clause-begun g c = λ log.
    argument_stops c.args.scope.now (still c.args.values.now c.args.call.now.arguments) c.args.call.now.name c.args.line.0 c.args.store.now c.give.new.store c.args.library.now c.requires.idle log c.in-Err.why c.stopped.result c.args.turns.now
    (subst (λ a. Halted c.args.scope.now (still c.args.values.now a) c.args.store.now c.give.new.store c.in-Err.why) c.as_slice-arguments.ensures c.in-Err.ensures) c.stopped.ensures

pub returns-in-Ok-None-clause-begun : goal.returns-in-Ok-None-clause-begun
returns-in-Ok-None-clause-begun g c = λ log.
    let found : Gives c.args.scope.now (still c.args.values.now c.as_slice-arguments.result.now) c.args.store.now c.give.new.store (Ok None) = subst (λ o. Gives c.args.scope.now (still c.args.values.now c.as_slice-arguments.result.now) c.args.store.now c.give.new.store (Ok o)) c.in-Ok-None.field-0-is c.in-Ok-None.ensures in
    let given = found.0 in
    arguments_left c.args.scope.now (still c.args.values.now c.args.call.now.arguments) c.args.call.now.name c.args.line.0 c.args.store.now c.give.new.store c.args.library.now c.requires.idle log given c.args.turns.now
    (subst (λ a. Evaluated c.args.scope.now (still c.args.values.now a) c.args.store.now c.give.new.store given) c.as_slice-arguments.ensures found.1)

pub returns-else-not-take_turn-clause-begun : goal.returns-else-not-take_turn-clause-begun
returns-else-not-take_turn-clause-begun g c = λ log.
    in_turn c.args.scope.now (still c.args.values.now c.args.call.now.arguments) c.args.call.now.name c.args.line.0 c.args.store.now c.give.new.store (all_seen c.in-Ok-Some.given) c.args.turns.now c.take_turn.new.turns
    (subst (λ a. Evaluated c.args.scope.now (still c.args.values.now a) c.args.store.now c.give.new.store (all_seen c.in-Ok-Some.given)) c.as_slice-arguments.ensures
    (subst (λ o. Gives c.args.scope.now (still c.args.values.now c.as_slice-arguments.result.now) c.args.store.now c.give.new.store (Ok o)) c.in-Ok-Some.field-0-is c.in-Ok-Some.ensures))
    c.carry.new.store c.take_turn.new.turns (known_at log c.args.library.now) (known_at log c.carry.new.library) (going_of c.carry.new.library) c.carry.result c.if-not-take_turn.ensures.turn
    (subst (λ xs. Begun (λ w first s. settled c.args.line.0 (library_call c.args.call.now.name (all_seen xs) s)) c.args.line.0 (position_at c.give.new.store c.take_turn.new.turns log c.args.library.now) (position_at c.carry.new.store c.take_turn.new.turns log c.carry.new.library) (going_of c.carry.new.library) c.carry.result)
    c.as_slice-list.ensures (c.carry.ensures.begun c.take_turn.new.turns log))
