use Rattle.std.proofs.Common.{arith, Ok, Err}
use Rattle.ec_machine.specs.Quick.{testing, turning}
use Rattle.ec_machine.proofs.Quickly.{onward_none, onward_some, onward_stops}
use Rattle.ec_machine.proofs.Weighing.{remaining_err, remaining_none}
use Rattle.ec_machine.proofs.machine.Machine.turn.Goals as goal

pub loop-focus-init : goal.loop-focus-init
loop-focus-init c = record { comes = λ r new g. g; turns = omega arith }

pub loop-focus-preserved : goal.loop-focus-preserved
loop-focus-preserved c =
    let fs = c.args.functions.now in
    let i = c.args.inner.now in
    record {
      comes = λ r new g. c.loop-focus.invariant.comes r new (onward_none fs c.loop-focus.self (turning i) (testing i) c.round.result c.round.new.self c.round.ensures.goes (cc (c.in-Ok-None.is, c.in-Ok-None.field-0-is)) r new (onward_none fs c.round.new.self (testing i) (turning i) c.ask.result c.ask.new.self (c.ask.ensures.goes fs) (cc (c.in-Ok-None-ask.is, c.in-Ok-None-ask.field-0-is)) r new g));
      turns = omega (arith, c.ask.ensures.turns, c.round.ensures.turns, c.loop-focus.invariant.turns);
    }

pub loop-focus-smaller : goal.loop-focus-smaller
loop-focus-smaller c = omega (arith, c.in-Ok-None.ensures.fewer, c.ask.ensures.turns)

pub returns-in-Ok-Some-clause-goes : goal.returns-in-Ok-Some-clause-goes
returns-in-Ok-Some-clause-goes c =
    let fs = c.args.functions.now in
    let i = c.args.inner.now in
    c.loop-focus.invariant.comes (Ok c.in-Ok-Some.focus) c.round.new.self (onward_some fs c.loop-focus.self (turning i) (testing i) c.round.result c.round.new.self c.round.ensures.goes c.in-Ok-Some.focus (cc (c.in-Ok-Some.is, c.in-Ok-Some.field-0-is)))

pub returns-in-Err-clause-goes : goal.returns-in-Err-clause-goes
returns-in-Err-clause-goes c =
    let fs = c.args.functions.now in
    let i = c.args.inner.now in
    c.loop-focus.invariant.comes (Err c.in-Err.stop) c.round.new.self (onward_stops fs c.loop-focus.self (turning i) (testing i) c.round.result c.round.new.self c.round.ensures.goes c.in-Err.stop c.in-Err.is)

pub returns-in-Ok-Some-ask-clause-goes : goal.returns-in-Ok-Some-ask-clause-goes
returns-in-Ok-Some-ask-clause-goes c =
    let fs = c.args.functions.now in
    let i = c.args.inner.now in
    c.loop-focus.invariant.comes (Ok c.in-Ok-Some-ask.focus) c.ask.new.self (onward_none fs c.loop-focus.self (turning i) (testing i) c.round.result c.round.new.self c.round.ensures.goes (cc (c.in-Ok-None.is, c.in-Ok-None.field-0-is)) (Ok c.in-Ok-Some-ask.focus) c.ask.new.self (onward_some fs c.round.new.self (testing i) (turning i) c.ask.result c.ask.new.self (c.ask.ensures.goes fs) c.in-Ok-Some-ask.focus (cc (c.in-Ok-Some-ask.is, c.in-Ok-Some-ask.field-0-is))))

pub returns-in-Err-ask-clause-goes : goal.returns-in-Err-ask-clause-goes
returns-in-Err-ask-clause-goes c =
    let fs = c.args.functions.now in
    let i = c.args.inner.now in
    c.loop-focus.invariant.comes (Err c.in-Err-ask.stop) c.ask.new.self (onward_none fs c.loop-focus.self (turning i) (testing i) c.round.result c.round.new.self c.round.ensures.goes (cc (c.in-Ok-None.is, c.in-Ok-None.field-0-is)) (Err c.in-Err-ask.stop) c.ask.new.self (onward_stops fs c.round.new.self (testing i) (turning i) c.ask.result c.ask.new.self (c.ask.ensures.goes fs) c.in-Err-ask.stop c.in-Err-ask.is))

pub returns-in-Ok-Some-clause-turns : goal.returns-in-Ok-Some-clause-turns
returns-in-Ok-Some-clause-turns c = omega (arith, c.round.ensures.turns, c.loop-focus.invariant.turns)

pub returns-in-Err-clause-turns : goal.returns-in-Err-clause-turns
returns-in-Err-clause-turns c = omega (arith, c.round.ensures.turns, c.loop-focus.invariant.turns)

pub returns-in-Ok-Some-ask-clause-turns : goal.returns-in-Ok-Some-ask-clause-turns
returns-in-Ok-Some-ask-clause-turns c = omega (arith, c.ask.ensures.turns, c.round.ensures.turns, c.loop-focus.invariant.turns)

pub returns-in-Err-ask-clause-turns : goal.returns-in-Err-ask-clause-turns
returns-in-Err-ask-clause-turns c = omega (arith, c.ask.ensures.turns, c.round.ensures.turns, c.loop-focus.invariant.turns)

pub returns-in-Ok-Some-clause-nears : goal.returns-in-Ok-Some-clause-nears
returns-in-Ok-Some-clause-nears c = remaining_none _ _ _ (omega (arith, c.in-Ok-Some.ensures.fewer, c.loop-focus.invariant.turns))

pub returns-in-Err-clause-nears : goal.returns-in-Err-clause-nears
returns-in-Err-clause-nears c = remaining_err _ _ _

pub returns-in-Ok-Some-ask-clause-nears : goal.returns-in-Ok-Some-ask-clause-nears
returns-in-Ok-Some-ask-clause-nears c = remaining_none _ _ _ (omega (arith, c.ask.ensures.turns, c.in-Ok-None.ensures.fewer, c.loop-focus.invariant.turns))

pub returns-in-Err-ask-clause-nears : goal.returns-in-Err-ask-clause-nears
returns-in-Err-ask-clause-nears c = remaining_err _ _ _
