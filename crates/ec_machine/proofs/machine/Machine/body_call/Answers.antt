use Rattle.std.proofs.Common.{◌∙◌, ap, refl, sym, None, Ok, Err}
use Rattle.ec_code.specs.Views.{full_view}
use Rattle.ec_meaning_defs.specs.evaluation.Evaluate.{eval}
use Rattle.ec_meaning_defs.specs.evaluation.Execute.{again}
use Rattle.ec_meaning_defs.specs.evaluation.Results.{after_body, on, on_value}
use Rattle.ec_machine.specs.declared.frame.Frame.TheVariants as frame
use Rattle.ec_machine.specs.Frames.{behind_of, body_of, here, test_of}
use Rattle.ec_machine.specs.Goes.{at, env_of, tasks}
use Rattle.ec_machine.specs.Quick.{behind_body}
use Rattle.ec_machine.proofs.Finding.{does_all, does_nothing, does_stops, onward_left, taken_back}
use Rattle.ec_machine.proofs.Moves.{pushed, stands_by}
use Rattle.ec_machine.proofs.Quickly.{onward_came}
use Rattle.ec_machine.proofs.machine.Machine.body_call.Goals as goal

pub returns-in-Ok-All-clause-goes : goal.returns-in-Ok-All-clause-goes
returns-in-Ok-All-clause-goes c =
    let fs = c.args.functions.now in
    let m = c.args.self.now in
    let i = c.args.inner.now in
    let line = c.args.line in
    let p = record m { frames = c.push.new.self } in
    let n = c.does.new.self in
    let q = record n { frames = c.truncate.new.self; line = line } in
    let a = does_all fs p n (λ knowing w t. eval knowing w (here (env_of m) m.line) (full_view c.args.full.now) t) (λ knowing w o. on_value o (λ v u. on u)) c.does.result c.does.new.left c.does.ensures.does (cc (c.in-Ok-All.is, c.in-Ok-All.field-0-is)) in
    onward_came fs m q (λ m knowing w t. after_body (on_value (eval knowing w (here (env_of m) m.line) (full_view c.args.full.now) t) (λ v u. on u)) (λ u. again knowing w (here (env_of m) line) (test_of i) (behind_of i) (body_of i) u)) (behind_body i) (behind_body i)
    (c.truncate.ensures ∙ taken_back m.frames p.frames n.frames (frame.Body line c.args.inner) c.len-height.result c.len-height.ensures c.in_ok-push.ensures.ok a.0.frames) a.0.env c.does.ensures.turns
    (λ knowing fits k s l. let w = tasks knowing fs k in
    ap (λ o. after_body o (λ u. again knowing w (here (env_of m) line) (test_of i) (behind_of i) (body_of i) u)) (a.1 knowing fits k s on l)
    ∙ (λ j. again knowing w (here (sym a.0.env j) line) (test_of i) (behind_of i) (body_of i) (at s q)))
    (Ok None) q ((λ r new g. g), refl)

pub returns-in-Ok-Nothing-clause-goes : goal.returns-in-Ok-Nothing-clause-goes
returns-in-Ok-Nothing-clause-goes c =
    let fs = c.args.functions.now in
    let m = c.args.self.now in
    let i = c.args.inner.now in
    let line = c.args.line in
    let p = record m { frames = c.push.new.self } in
    let n = c.does.new.self in
    onward_left fs m n (λ m knowing w t. after_body (on_value (eval knowing w (here (env_of m) m.line) (full_view c.args.full.now) t) (λ v u. on u)) (λ u. again knowing w (here (env_of m) line) (test_of i) (behind_of i) (body_of i) u)) (behind_body i) c.does.new.left c.standing.result c.standing.ensures
    (λ knowing fits k s l. let w = tasks knowing fs k in
    stands_by knowing w s n c.does.new.left _ _
    (pushed knowing w (env_of m) m.frames p.frames (frame.Body line c.args.inner) (on_value (eval knowing w (here (env_of m) m.line) (full_view c.args.full.now) (at s m)) (λ v u. on u)) c.in_ok-push.ensures.ok)
    (does_nothing fs p n (λ knowing w t. eval knowing w (here (env_of m) m.line) (full_view c.args.full.now) t) (λ knowing w o. on_value o (λ v u. on u)) c.does.result c.does.new.left c.does.ensures.does (cc (c.in-Ok-Nothing.is, c.in-Ok-Nothing.field-0-is)) knowing fits k s l))

pub returns-in-Err-clause-goes : goal.returns-in-Err-clause-goes
returns-in-Err-clause-goes c = λ knowing fits k s l.
    let fs = c.args.functions.now in
    let w = tasks knowing fs k in
    let m = c.args.self.now in
    let line = c.args.line in
    let p = record m { frames = c.push.new.self } in
    let n = c.does.new.self in
    stands_by knowing w s n (Err c.in-Err.stop) _ _
    (pushed knowing w (env_of m) m.frames p.frames (frame.Body line c.args.inner) (on_value (eval knowing w (here (env_of m) m.line) (full_view c.args.full.now) (at s m)) (λ v u. on u)) c.in_ok-push.ensures.ok)
    (does_stops fs p n (λ knowing w t. eval knowing w (here (env_of m) m.line) (full_view c.args.full.now) t) (λ knowing w o. on_value o (λ v u. on u)) c.does.result c.does.new.left c.does.ensures.does c.in-Err.stop c.in-Err.is knowing fits k s l)
