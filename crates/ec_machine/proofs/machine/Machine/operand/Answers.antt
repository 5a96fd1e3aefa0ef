use Rattle.std.proofs.Common.{arith, map, subst, sym, ◌+◌, ◌≤◌}
use Rattle.ec_code.specs.Views.{expression_view, full_step_view, plain_view}
use Rattle.ec_meaning_defs.specs.evaluation.Evaluate.{eval}
use Rattle.ec_plain.proofs.Walks.{followed_over}
use Rattle.ec_machine.specs.Found.{found_view}
use Rattle.ec_machine.specs.Frames.{behind_by, here}
use Rattle.ec_machine.specs.Goes.{env_of}
use Rattle.ec_machine.specs.Weights.{expression_weight, frames_weight, remaining, steps_weight}
use Rattle.ec_machine.proofs.Evaluating.{to_Plain}
use Rattle.ec_machine.proofs.Finding.{alone_finds, alone_near, finds_as, finds_left, near_none}
use Rattle.ec_machine.proofs.machine.Machine.operand.Goals as goal

pub returns-in-Plain-clause-finds : goal.returns-in-Plain-clause-finds
returns-in-Plain-clause-finds c = λ fs.
    let m = c.args.self.now in
    let d = here (env_of m) m.line in
    let xs = c.args.steps.now in
    finds_as fs m c.at_first.new.self (env_of m) m.line (behind_by d xs) (λ knowing w t. eval knowing w d (expression_view c.args.operand.now) t) (λ knowing w t. eval knowing w d (plain_view c.in-Plain.plain) t) (found_view c.at_first.result) c.at_first.new.left
    (λ knowing w t. to_Plain knowing w d t c.args.operand.now c.in-Plain.plain c.in-Plain.is)
    (alone_finds fs m c.at_first.new.self (behind_by d xs) (λ knowing w t. eval knowing w d (plain_view c.in-Plain.plain) t) (found_view c.at_first.result) c.at_first.new.left (λ knowing w e s. followed_over knowing w d (map full_step_view xs) e s) c.at_first.ensures.finds)

pub returns-in-Full-clause-finds : goal.returns-in-Full-clause-finds
returns-in-Full-clause-finds c = λ fs.
    let m = c.args.self.now in
    let d = here (env_of m) m.line in
    finds_left fs m c.wait_for.new.self (env_of m) m.line (behind_by d c.args.steps.now) (λ knowing w t. eval knowing w d (expression_view c.args.operand.now) t) (found_view c.waits.result) c.waits.new.left c.wait_for.result c.waits.ensures.none c.waits.ensures.left (c.wait_for.ensures.goes fs)

pub returns-in-Plain-clause-nears : goal.returns-in-Plain-clause-nears
returns-in-Plain-clause-nears c =
    let m = c.args.self.now in
    alone_near m.turns _ m c.at_first.new.self (λ knowing w t. eval knowing w (here (env_of m) m.line) (plain_view c.in-Plain.plain) t) (found_view c.at_first.result) c.at_first.new.left c.at_first.ensures.finds

pub returns-in-Full-clause-nears : goal.returns-in-Full-clause-nears
returns-in-Full-clause-nears c =
    let m = c.args.self.now in
    let n = 1 + frames_weight m.frames + expression_weight c.args.operand.now + steps_weight c.args.steps.now in
    near_none m.turns (found_view c.waits.result) c.waits.new.left c.wait_for.new.self n c.waits.ensures.none
    (subst (λ r. remaining m.turns r c.wait_for.new.self ≤ n) (sym c.waits.ensures.left) (omega (arith, c.wait_for.ensures.nears)))
