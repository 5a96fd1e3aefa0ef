use Rattle.std.proofs.Common.{◌∙◌, ap, arith, map, sym}
use Rattle.std.specs.Prelude.{reverse}
use Rattle.ec_code.specs.Views.{full_step_view}
use Rattle.ec_plain.specs.Answered.{answered, ending_of}
use Rattle.ec_plain.specs.Steps.{both_on}
use Rattle.ec_plain.proofs.Walks.{followed_over}
use Rattle.ec_values.specs.Words.{word_view}
use Rattle.ec_machine.specs.Frames.{behind_by, here, resume}
use Rattle.ec_machine.specs.Goes.{at, env_of, tasks}
use Rattle.ec_machine.proofs.Moves.{over_stops, stands_by}
use Rattle.ec_machine.proofs.Weighing.{err_near}
use Rattle.ec_machine.proofs.machine.Machine.go_right.Goals as goal

pub returns-in-Ok-clause-goes : goal.returns-in-Ok-clause-goes
returns-in-Ok-clause-goes c = λ knowing fits k s l.
    let w = tasks knowing c.args.functions.now k in
    let m = c.args.self.now in
    let d = here (env_of m) m.line in
    let t = at s (record m { store = c.finish.new.store }) in
    stands_by knowing w s c.go_on.new.self c.go_on.result _ _
    (ap (λ o. resume knowing w (env_of m) (reverse m.frames) (behind_by d c.args.rest.now knowing w o))
    (c.finish.ensures m.line.0 (at s m) ∙ ap (λ r. answered m.line.0 r t) (sym c.get.ensures ∙ c.in-Ok.is)))
    (c.go_on.ensures.goes knowing fits k s l)

pub returns-in-Err-clause-goes : goal.returns-in-Err-clause-goes
returns-in-Err-clause-goes c = λ knowing fits k s l.
    let w = tasks knowing c.args.functions.now k in
    let m = c.args.self.now in
    let d = here (env_of m) m.line in
    let t = at s (record m { store = c.finish.new.store }) in
    over_stops knowing w (env_of m) (reverse m.frames) t c.stopped.result (ending_of m.line.0 c.in-Err.why) (behind_by d c.args.rest.now knowing w (both_on m.line.0 c.args.step.now (word_view c.args.value) (word_view c.args.old) (word_view c.args.right) (at s m))) c.stopped.ensures
    (ap (behind_by d c.args.rest.now knowing w) (c.finish.ensures m.line.0 (at s m) ∙ ap (λ r. answered m.line.0 r t) (sym c.get.ensures ∙ c.in-Err.is))
    ∙ followed_over knowing w d (map full_step_view c.args.rest.now) (ending_of m.line.0 c.in-Err.why) t)

pub returns-in-Ok-clause-nears : goal.returns-in-Ok-clause-nears
returns-in-Ok-clause-nears c = omega (arith, c.go_on.ensures.nears)

pub returns-in-Err-clause-nears : goal.returns-in-Err-clause-nears
returns-in-Err-clause-nears c = err_near _ _ _ _
