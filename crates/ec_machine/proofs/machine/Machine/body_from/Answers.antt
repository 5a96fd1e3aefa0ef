use Rattle.std.proofs.Common.{ap, arith, refl}
use Rattle.ec_code.specs.Views.{full_view, statement_view}
use Rattle.ec_meaning_defs.specs.evaluation.Evaluate.{eval}
use Rattle.ec_meaning_defs.specs.evaluation.Execute.{again, run}
use Rattle.ec_meaning_defs.specs.evaluation.Results.{after_body, on, on_value}
use Rattle.ec_machine.specs.Frames.{behind_of, body_of, here, test_of}
use Rattle.ec_machine.specs.Goes.{at, env_of, tasks}
use Rattle.ec_machine.specs.Quick.{behind_body}
use Rattle.ec_machine.proofs.Quickly.{onward_came}
use Rattle.ec_machine.proofs.machine.Machine.body_from.Goals as goal

pub returns-in-Some-clause-goes : goal.returns-in-Some-clause-goes
returns-in-Some-clause-goes c =
    let fs = c.args.functions.now in
    let m = c.args.self.now in
    let i = c.args.inner.now in
    let f = c.in-Some.full.now in
    onward_came fs m m (λ p knowing w t. after_body (run knowing w (here (env_of p) p.line) (statement_view c.args.left.now) t) (λ u. again knowing w (here (env_of p) c.args.line) (test_of i) (behind_of i) (body_of i) u))
    (λ p knowing w t. after_body (on_value (eval knowing w (here (env_of p) p.line) (full_view f) t) (λ v u. on u)) (λ u. again knowing w (here (env_of p) c.args.line) (test_of i) (behind_of i) (body_of i) u)) (behind_body i) refl refl (omega arith)
    (λ knowing fits k s l. let w = tasks knowing fs k in
    ap (λ z. after_body (run knowing w (here (env_of m) m.line) z (at s m)) (λ u. again knowing w (here (env_of m) c.args.line) (test_of i) (behind_of i) (body_of i) u)) c.in-Some.ensures)
    c.body_call.result c.body_call.new.self c.body_call.ensures.goes

pub returns-in-None-clause-goes : goal.returns-in-None-clause-goes
returns-in-None-clause-goes c = c.body_other.ensures.goes c.args.functions.now
