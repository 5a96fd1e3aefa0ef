use Rattle.std.proofs.Common.{ap, arith}
use Rattle.ec_machine.specs.Quick.{testing, turning}
use Rattle.ec_machine.specs.Weights.{remaining}
use Rattle.ec_machine.proofs.Quickly.{near_some, onward_none, onward_some, onward_stops}
use Rattle.ec_machine.proofs.Weighing.{err_near}
use Rattle.ec_machine.proofs.machine.Machine.test.Goals as goal

pub returns-in-Ok-None-clause-goes : goal.returns-in-Ok-None-clause-goes
returns-in-Ok-None-clause-goes c =
    let fs = c.args.functions.now in
    let m = c.args.self.now in
    let i = c.args.inner.now in
    onward_none fs m (testing i) (turning i) c.ask.result c.ask.new.self (c.ask.ensures.goes fs) (cc (c.in-Ok-None.is, c.in-Ok-None.field-0-is)) c.turn.result c.turn.new.self c.turn.ensures.goes

pub returns-in-Ok-Some-clause-goes : goal.returns-in-Ok-Some-clause-goes
returns-in-Ok-Some-clause-goes c =
    let fs = c.args.functions.now in
    let m = c.args.self.now in
    let i = c.args.inner.now in
    onward_some fs m (testing i) (turning i) c.ask.result c.ask.new.self (c.ask.ensures.goes fs) c.in-Ok-Some.focus (cc (c.in-Ok-Some.is, c.in-Ok-Some.field-0-is))

pub returns-in-Err-clause-goes : goal.returns-in-Err-clause-goes
returns-in-Err-clause-goes c =
    let fs = c.args.functions.now in
    let m = c.args.self.now in
    let i = c.args.inner.now in
    onward_stops fs m (testing i) (turning i) c.ask.result c.ask.new.self (c.ask.ensures.goes fs) c.in-Err.stop c.in-Err.is

pub returns-in-Ok-None-clause-nears : goal.returns-in-Ok-None-clause-nears
returns-in-Ok-None-clause-nears c = omega (arith, c.turn.ensures.nears, ap (λ t. remaining t c.turn.result c.turn.new.self) c.ask.ensures.turns)

pub returns-in-Ok-Some-clause-nears : goal.returns-in-Ok-Some-clause-nears
returns-in-Ok-Some-clause-nears c = near_some _ _ c.ask.result c.ask.new.self c.in-Ok-Some.focus (cc (c.in-Ok-Some.is, c.in-Ok-Some.field-0-is)) c.ask.ensures.nears

pub returns-in-Err-clause-nears : goal.returns-in-Err-clause-nears
returns-in-Err-clause-nears c = err_near _ _ _ _
