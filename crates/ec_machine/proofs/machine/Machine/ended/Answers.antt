use Rattle.std.proofs.Common.{◌∙◌, ap, map}
use Rattle.std.specs.Option.{option_map}
use Rattle.ec_base.specs.declared.stop.Trap.TheVariants.{NoValue}
use Rattle.ec_code.specs.Views.{full_step_view}
use Rattle.ec_meaning_defs.specs.evaluation.Results.{back}
use Rattle.ec_plain.proofs.Walks.{followed_over}
use Rattle.ec_values.specs.Words.{word_view}
use Rattle.ec_machine.specs.declared.stop.End.TheVariants as ends
use Rattle.ec_machine.specs.declared.stop.Stop.TheVariants as stop
use Rattle.ec_machine.specs.Found.{found_view}
use Rattle.ec_machine.specs.Frames.{behind_by, here, left_by, outside}
use Rattle.ec_machine.specs.Goes.{at, env_of}
use Rattle.ec_machine.proofs.Finding.{ended_unused, ended_used, ended_with, finds_stop, finds_value, near_stop, near_value}
use Rattle.ec_machine.proofs.machine.Machine.ended.Goals as goal

pub returns-in-Some-clause-finds : goal.returns-in-Some-clause-finds
returns-in-Some-clause-finds c = λ fs.
    let m = c.args.self.now in
    let x = c.args.way in
    let e = env_of m in
    let p = c.leave.new.self in
    finds_value fs m p (outside x e) x.line (behind_by (here (outside x e) x.line) x.steps.now) (λ knowing w t. left_by x (back (option_map word_view c.args.value) t)) (found_view c.value.result) c.args.left.now c.in-Some.value c.value.ensures
    (record { frames = ap (λ p. p.frames) c.leave.ensures.left; env = ap env_of c.leave.ensures.left; same_line = ap (λ p. p.line) c.leave.ensures.left })
    (λ knowing fits k s l. ap (λ v. left_by x (back (option_map word_view v) (at s m))) c.in-Some.is ∙ ended_with s m p x c.in-Some.value c.leave.ensures.left)

pub returns-then-way-clause-finds : goal.returns-then-way-clause-finds
returns-then-way-clause-finds c = λ fs.
    let m = c.args.self.now in
    let x = c.args.way in
    let e = env_of m in
    let p = c.leave.new.self in
    finds_stop fs m p (outside x e) x.line (behind_by (here (outside x e) x.line) x.steps.now) (λ knowing w t. left_by x (back (option_map word_view c.args.value) t)) (found_view c.waits.result) c.waits.new.left (stop.Over (ends.Trapped NoValue x.line))
    (λ knowing w z s. followed_over knowing w (here (outside x e) x.line) (map full_step_view x.steps.now) z s) c.waits.ensures.none c.waits.ensures.left
    (λ knowing fits k s l. ap (λ v. left_by x (back (option_map word_view v) (at s m))) c.in-None.is ∙ ended_used s m p x c.if-way.true c.leave.ensures.left)

pub returns-else-way-clause-finds : goal.returns-else-way-clause-finds
returns-else-way-clause-finds c = λ fs.
    let m = c.args.self.now in
    let x = c.args.way in
    let p = c.leave.new.self in (
      record { frames = ap (λ p. p.frames) c.leave.ensures.left; env = ap env_of c.leave.ensures.left; same_line = ap (λ p. p.line) c.leave.ensures.left },
      λ knowing fits k s l. ap (λ v. left_by x (back (option_map word_view v) (at s m))) c.in-None.is ∙ ended_unused s m p x c.if-way.false c.leave.ensures.left,
    )

pub returns-in-Some-clause-stops : goal.returns-in-Some-clause-stops
returns-in-Some-clause-stops c = near_value c.args.self.now.turns (found_view c.value.result) c.args.left.now c.leave.new.self 0 c.in-Some.value c.value.ensures

pub returns-then-way-clause-stops : goal.returns-then-way-clause-stops
returns-then-way-clause-stops c = near_stop c.args.self.now.turns (found_view c.waits.result) c.waits.new.left c.leave.new.self 0 (stop.Over (ends.Trapped NoValue c.args.way.line)) c.waits.ensures.none c.waits.ensures.left
