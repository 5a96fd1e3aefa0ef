use Rattle.std.proofs.Common.{ap, sym, arith}
use Rattle.std.specs.Prelude.{reverse}
use Rattle.ec_meaning_defs.specs.evaluation.Results.{value}
use Rattle.ec_values.specs.Words.{word_view}
use Rattle.ec_machine.specs.Frames.{resume}
use Rattle.ec_machine.specs.Goes.{at, env_of, tasks}
use Rattle.ec_machine.proofs.Moves.{pushed, stands_by}
use Rattle.ec_machine.specs.Weights.{frames_weight}
use Rattle.ec_machine.proofs.Weighing.{err_near, pushed_weight}
use Rattle.ec_machine.proofs.machine.Machine.hand_value.Goals as goal

pub returns-in-Some-clause-goes : goal.returns-in-Some-clause-goes
returns-in-Some-clause-goes c = λ knowing fits k s l.
    let w = tasks knowing c.args.functions.now k in
    let m = c.args.self.now in
    stands_by knowing w s c.give_value.new.self c.give_value.result _ _
    (sym (pushed knowing w (env_of m) c.pop.new.self m.frames c.in-Some.frame (value (word_view c.args.value) (at s m)) c.in-Some.ensures))
    (c.give_value.ensures.goes knowing fits k s l)

pub returns-in-None-clause-goes : goal.returns-in-None-clause-goes
returns-in-None-clause-goes c = λ knowing fits k s l.
    let w = tasks knowing c.args.functions.now k in
    let m = c.args.self.now in
    ap (λ fs. resume knowing w (env_of m) (reverse fs) (value (word_view c.args.value) (at s m))) c.in-None.ensures.0

pub returns-in-Some-clause-nears : goal.returns-in-Some-clause-nears
returns-in-Some-clause-nears c = omega (arith, c.give_value.ensures.nears, ap frames_weight c.in-Some.ensures, pushed_weight c.pop.new.self c.in-Some.frame)

pub returns-in-None-clause-nears : goal.returns-in-None-clause-nears
returns-in-None-clause-nears c = err_near _ _ _ _
