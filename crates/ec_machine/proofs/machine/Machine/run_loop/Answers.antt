use Rattle.ec_meaning_defs.specs.evaluation.Evaluate.{turn_of}
use Rattle.ec_meaning_defs.specs.evaluation.Execute.{tested}
use Rattle.ec_machine.specs.Frames.{behind_of, body_of, here, test_of}
use Rattle.ec_machine.specs.Goes.{env_of}
use Rattle.ec_machine.proofs.Moves.{goes_as}
use Rattle.ec_machine.proofs.Running.{loop_tested, loop_turned}
use Rattle.std.proofs.Common.{arith}
use Rattle.ec_machine.proofs.machine.Machine.run_loop.Goals as goal

pub returns-then-inner-clause-goes : goal.returns-then-inner-clause-goes
returns-then-inner-clause-goes c =
    let fs = c.args.functions.now in
    let m = c.args.self.now in
    let d = here (env_of m) m.line in
    let y = c.args.inner.now in
    goes_as fs m c.test.new.self (env_of m) c.test.result _ (λ knowing w t. tested knowing w d (test_of y) (behind_of y) (body_of y) t)
    (λ knowing w t. loop_tested knowing w d t y c.if-inner.true)
    c.test.ensures.goes

pub returns-else-inner-clause-goes : goal.returns-else-inner-clause-goes
returns-else-inner-clause-goes c =
    let fs = c.args.functions.now in
    let m = c.args.self.now in
    let d = here (env_of m) m.line in
    let y = c.args.inner.now in
    goes_as fs m c.turn.new.self (env_of m) c.turn.result _ (λ knowing w t. w (turn_of d (test_of y) (behind_of y) (body_of y)) t)
    (λ knowing w t. loop_turned knowing w d t y c.if-inner.false)
    c.turn.ensures.goes

pub returns-then-inner-clause-nears : goal.returns-then-inner-clause-nears
returns-then-inner-clause-nears c = omega (arith, c.test.ensures.nears)

pub returns-else-inner-clause-nears : goal.returns-else-inner-clause-nears
returns-else-inner-clause-nears c = omega (arith, c.turn.ensures.nears)
