use Rattle.std.proofs.Common.{sym, subst, map, Err}
use Rattle.ec_call_defs.specs.Steps.{library_step}
use Rattle.ec_interp.specs.running.Sessions.{Started}
use Rattle.ec_machine.specs.declared.stop.End.TheVariants as ends
use Rattle.ec_machine.specs.declared.stop.Stop.TheVariants as stop
use Rattle.ec_runtime.specs.Calling.{AllBeside, Stays, connections_of, conns_of}
use Rattle.ec_values.specs.Words.{word_view}
use Rattle.ec_calling.specs.Making.{going_of, known_at, session_at}
use Rattle.ec_calling.specs.Views.{call_view}
use Rattle.ec_calling.proofs.Carrying.{numbered, unnumbered}
use Rattle.ec_calling.proofs.Held.{fits, idle_fit}
use Rattle.ec_calling.proofs.Staying.{stays_same, turned_few}
use Rattle.ec_calling.proofs.Stepping.{still_at}
use Rattle.ec_calling.proofs.starting.begin_call.Goals as goal

pub make-begun-requires-clause-beside : goal.make-begun-requires-clause-beside
make-begun-requires-clause-beside g c = subst (λ it. AllBeside (conns_of it)) (sym c.abandon.ensures.connections) c.requires.beside

pub make-begun-requires-clause-fits : goal.make-begun-requires-clause-fits
make-begun-requires-clause-fits g c = fits c.abandon.new.self (idle_fit c.abandon.new.self c.abandon.ensures.under_way)

pub returns-in-Some-clause-started : goal.returns-in-Some-clause-started
returns-in-Some-clause-started g c = λ log.
    subst (λ x. Started (library_step (map call_view c.args.calls.now)) c.args.number (map word_view c.args.values.now) c.args.line.0 c.args.scope.now c.args.store.now c.args.turns.now x c.make-begun.new.store c.make-begun.new.turns (known_at log c.make-begun.new.library) (going_of c.make-begun.new.library) c.make-begun.result)
    (still_at log c.args.library.now c.abandon.new.self c.abandon.ensures.connections c.abandon.ensures.areas)
    (numbered (map call_view c.args.calls.now) c.args.number (map word_view c.args.values.now) c.args.line.0 c.args.scope.now c.args.store.now c.make-begun.new.store c.args.turns.now c.make-begun.new.turns
    (session_at log c.abandon.new.self) (session_at log c.make-begun.new.library) (going_of c.make-begun.new.library) c.in-Some.call.now c.make-begun.result c.in-Some.ensures (c.make-begun.ensures.begun log))

pub returns-in-Some-clause-stays : goal.returns-in-Some-clause-stays
returns-in-Some-clause-stays g c = subst (λ it. Stays it c.make-begun.new.library.connections) c.abandon.ensures.connections c.make-begun.ensures.stays

pub returns-in-Some-clause-turned : goal.returns-in-Some-clause-turned
returns-in-Some-clause-turned g c =
    turned_few (connections_of c.make-begun.new.library.connections) c.make-begun.new.library.under_way c.count-count.result c.count-count.ensures c.count-count.type_inv c.args.turns.now c.make-begun.new.turns c.make-begun.result c.make-begun.ensures.turn

pub returns-in-None-clause-started : goal.returns-in-None-clause-started
returns-in-None-clause-started g c = λ log.
    subst (λ x. Started (library_step (map call_view c.args.calls.now)) c.args.number (map word_view c.args.values.now) c.args.line.0 c.args.scope.now c.args.store.now c.args.turns.now x c.args.store.now c.args.turns.now (known_at log c.abandon.new.self) (going_of c.abandon.new.self) (Err (stop.Over ends.Stuck)))
    (still_at log c.args.library.now c.abandon.new.self c.abandon.ensures.connections c.abandon.ensures.areas)
    (unnumbered (map call_view c.args.calls.now) c.args.number (map word_view c.args.values.now) c.args.line.0 c.args.scope.now c.abandon.new.self c.abandon.ensures.under_way log c.args.store.now c.args.turns.now c.in-None.ensures)

pub returns-in-None-clause-fits : goal.returns-in-None-clause-fits
returns-in-None-clause-fits g c = fits c.abandon.new.self (idle_fit c.abandon.new.self c.abandon.ensures.under_way)

pub returns-in-None-clause-stays : goal.returns-in-None-clause-stays
returns-in-None-clause-stays g c = stays_same c.args.library.now.connections c.abandon.new.self.connections c.abandon.ensures.connections
