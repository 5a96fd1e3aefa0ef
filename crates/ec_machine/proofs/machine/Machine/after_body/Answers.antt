use Rattle.std.proofs.Common.{ap, arith}
use Rattle.std.specs.Prelude.{reverse}
use Rattle.ec_machine.specs.Frames.{resume, behind_of, body_of, here, led, test_of}
use Rattle.ec_machine.specs.Goes.{at, env_of, tasks}
use Rattle.ec_meaning_defs.specs.evaluation.Execute.{again}
use Rattle.ec_meaning_defs.specs.evaluation.Results.{after_body}
use Rattle.ec_machine.proofs.Moves.{stands_by}
use Rattle.ec_machine.proofs.Weighing.{nearer}
use Rattle.ec_machine.proofs.machine.Machine.after_body.Goals as goal

pub returns-in-On-clause-goes : goal.returns-in-On-clause-goes
returns-in-On-clause-goes c = λ knowing fits k s l.
    let fs = c.args.functions.now in
    let e = env_of c.args.self.now in
    let d = here e c.args.self.now.line in
    let i = c.args.inner.now in
    stands_by knowing (tasks knowing fs k) s c.again.new.self c.again.result _ _
    (ap (λ f. resume knowing (tasks knowing fs k) e (reverse c.args.self.now.frames) (after_body (led f (at s c.args.self.now)) (λ u. again knowing (tasks knowing fs k) d (test_of i) (behind_of i) (body_of i) u))) c.in-On.is)
    (c.again.ensures.goes knowing fits k s l)

pub returns-in-Continued-clause-goes : goal.returns-in-Continued-clause-goes
returns-in-Continued-clause-goes c = λ knowing fits k s l.
    let fs = c.args.functions.now in
    let e = env_of c.args.self.now in
    let d = here e c.args.self.now.line in
    let i = c.args.inner.now in
    stands_by knowing (tasks knowing fs k) s c.again-in-Continued.new.self c.again-in-Continued.result _ _
    (ap (λ f. resume knowing (tasks knowing fs k) e (reverse c.args.self.now.frames) (after_body (led f (at s c.args.self.now)) (λ u. again knowing (tasks knowing fs k) d (test_of i) (behind_of i) (body_of i) u))) c.in-Continued.is)
    (c.again-in-Continued.ensures.goes knowing fits k s l)

pub returns-in-On-clause-nears : goal.returns-in-On-clause-nears
returns-in-On-clause-nears c = omega (arith, c.again.ensures.nears)

pub returns-in-Continued-clause-nears : goal.returns-in-Continued-clause-nears
returns-in-Continued-clause-nears c = omega (arith, c.again-in-Continued.ensures.nears)

pub returns-in-Broke-clause-nears : goal.returns-in-Broke-clause-nears
returns-in-Broke-clause-nears c = nearer _ _ _ _ (omega arith)

pub returns-in-Went-clause-nears : goal.returns-in-Went-clause-nears
returns-in-Went-clause-nears c = nearer _ _ _ _ (omega arith)

pub returns-in-Back-clause-nears : goal.returns-in-Back-clause-nears
returns-in-Back-clause-nears c = nearer _ _ _ _ (omega arith)
