use Rattle.std.proofs.Common.{◌∙◌, ap, sym, arith}
use Rattle.std.specs.Prelude.{reverse}
use Rattle.ec_machine.specs.Frames.{led, resume}
use Rattle.ec_machine.specs.Goes.{at, env_of, tasks}
use Rattle.ec_machine.proofs.Moves.{pushed, stands_by}
use Rattle.ec_machine.specs.Weights.{frames_weight}
use Rattle.ec_machine.proofs.Weighing.{err_near, pushed_flow, pushed_weight}
use Rattle.ec_machine.proofs.machine.Machine.hand_flow.Goals as goal

pub returns-in-Some-clause-goes : goal.returns-in-Some-clause-goes
returns-in-Some-clause-goes c = λ knowing fits k s l.
    let fs = c.args.functions.now in
    let w = tasks knowing fs k in
    let m = c.args.self.now in
    stands_by knowing w s c.give_flow.new.self c.give_flow.result _ _
    (sym (pushed knowing w (env_of m) c.pop.new.self m.frames c.in-Some.frame (led c.args.flow (at s m)) c.in-Some.ensures))
    (c.give_flow.ensures.goes knowing fits k s l)

pub returns-in-None-clause-goes : goal.returns-in-None-clause-goes
returns-in-None-clause-goes c = λ knowing fits k s l.
    let fs = c.args.functions.now in
    let w = tasks knowing fs k in
    let m = c.args.self.now in
    ap (λ fs. resume knowing w (env_of m) (reverse fs) (led c.args.flow (at s m))) c.in-None.ensures.0
    ∙ c.finish.ensures (at s m)

pub returns-in-Some-clause-nears : goal.returns-in-Some-clause-nears
returns-in-Some-clause-nears c = omega (arith, c.give_flow.ensures.nears, ap frames_weight c.in-Some.ensures, pushed_weight c.pop.new.self c.in-Some.frame, pushed_flow c.args.flow c.pop.new.self c.args.self.now.frames c.in-Some.frame c.in-Some.ensures)

pub returns-in-None-clause-nears : goal.returns-in-None-clause-nears
returns-in-None-clause-nears c = err_near _ _ _ _
