use Rattle.std.proofs.Common.{ap, arith, refl}
use Rattle.std.specs.Option.{option_map}
use Rattle.ec_code.specs.Views.{expression_view}
use Rattle.ec_machine.specs.declared.frame.Frame.TheVariants as frame
use Rattle.ec_machine.specs.Frames.{behind_of, body_of, evaluated_for, here, test_of}
use Rattle.ec_machine.specs.Goes.{at, env_of, tasks}
use Rattle.ec_machine.specs.Quick.{testing, turning}
use Rattle.ec_machine.specs.Weights.{optional_weight}
use Rattle.ec_machine.proofs.Moves.{test_there}
use Rattle.ec_machine.proofs.Quickly.{came, near_as, onward_came, test_none}
use Rattle.ec_machine.proofs.machine.Machine.ask.Goals as goal

pub returns-in-None-clause-goes : goal.returns-in-None-clause-goes
returns-in-None-clause-goes c = λ fs.
    let m = c.args.self.now in
    let i = c.args.inner.now in (
      came fs m (env_of m) (testing i m) m (turning i m) refl (omega arith)
          (λ knowing fits k s l. test_none knowing (tasks knowing fs k) (here (env_of m) m.line) (test_of i) (behind_of i) (body_of i) (at s m) (ap (option_map expression_view) c.in-None.is)),
      refl,
    )

pub returns-in-Some-clause-goes : goal.returns-in-Some-clause-goes
returns-in-Some-clause-goes c = λ fs.
    let m = c.args.self.now in
    let i = c.args.inner.now in
    onward_came fs m m (testing i) (λ m. evaluated_for (env_of m) m.line (expression_view c.in-Some.test) (frame.Test m.line c.args.inner)) (turning i) refl refl (omega arith)
    (λ knowing fits k s l. test_there knowing (tasks knowing fs k) (here (env_of m) m.line) (test_of i) (behind_of i) (body_of i) (expression_view c.in-Some.test) (at s m) (ap (option_map expression_view) c.in-Some.is))
    c.ask_for.result c.ask_for.new.self (c.ask_for.ensures.goes fs)

pub returns-in-Some-clause-nears : goal.returns-in-Some-clause-nears
returns-in-Some-clause-nears c = near_as _ _ _ c.ask_for.result c.ask_for.new.self (omega (arith, ap optional_weight c.in-Some.is)) c.ask_for.ensures.nears
