use Rattle.std.proofs.Common.{ap, arith, refl}
use Rattle.ec_code.specs.Views.{statement_view}
use Rattle.ec_meaning_defs.specs.evaluation.Execute.{again, run}
use Rattle.ec_meaning_defs.specs.evaluation.Results.{after_body}
use Rattle.ec_machine.specs.Frames.{behind_of, body_of, here, test_of}
use Rattle.ec_machine.specs.Goes.{at, env_of, tasks}
use Rattle.ec_machine.specs.Quick.{behind_body, bodily}
use Rattle.ec_machine.proofs.Parts.{stops_through}
use Rattle.ec_machine.proofs.Quickly.{came, halted, leaves_none, leaves_some, leaves_stops, onward_came}
use Rattle.ec_machine.proofs.machine.Machine.body.Goals as goal

pub returns-in-Ok-None-clause-goes : goal.returns-in-Ok-None-clause-goes
returns-in-Ok-None-clause-goes c =
    let fs = c.args.functions.now in
    let m = c.args.self.now in
    let i = c.args.inner.now in
    let d = here (env_of m) m.line in
    let n = record m { store = c.quick.new.store; line = c.quick.new.line } in
    let q = record m { store = c.quick.new.store } in (
      came fs m (env_of m) (bodily i m) q (behind_body i q) refl (omega arith)
          (λ knowing fits k s l. let w = tasks knowing fs k in
          ap (λ o. after_body o (λ u. again knowing w d (test_of i) (behind_of i) (body_of i) u))
          (leaves_none c.quick.result (run knowing w d (body_of i) (at s m)) (λ x. run knowing w (here (env_of m) n.line) (statement_view x) (at s n)) (at s n) (c.quick.ensures.leaves knowing w m.first (at s m)) (cc (c.in-Ok-None.is, c.in-Ok-None.field-0-is)))),
      refl,
    )

pub returns-in-Ok-Some-clause-goes : goal.returns-in-Ok-Some-clause-goes
returns-in-Ok-Some-clause-goes c =
    let fs = c.args.functions.now in
    let m = c.args.self.now in
    let i = c.args.inner.now in
    let d = here (env_of m) m.line in
    let n = record m { store = c.quick.new.store; line = c.quick.new.line } in
    onward_came fs m n (bodily i) (λ p knowing w t. after_body (run knowing w (here (env_of p) p.line) (statement_view c.in-Ok-Some.left.now) t) (λ u. again knowing w (here (env_of p) m.line) (test_of i) (behind_of i) (body_of i) u)) (behind_body i) refl refl (omega arith)
    (λ knowing fits k s l. let w = tasks knowing fs k in
    ap (λ o. after_body o (λ u. again knowing w d (test_of i) (behind_of i) (body_of i) u))
    (leaves_some c.quick.result (run knowing w d (body_of i) (at s m)) (λ x. run knowing w (here (env_of m) n.line) (statement_view x) (at s n)) (at s n) (c.quick.ensures.leaves knowing w m.first (at s m)) c.in-Ok-Some.left (cc (c.in-Ok-Some.is, c.in-Ok-Some.field-0-is))))
    c.body_from.result c.body_from.new.self c.body_from.ensures.goes

pub returns-in-Err-clause-goes : goal.returns-in-Err-clause-goes
returns-in-Err-clause-goes c =
    let fs = c.args.functions.now in
    let m = c.args.self.now in
    let i = c.args.inner.now in
    let d = here (env_of m) m.line in
    let n = record m { store = c.quick.new.store; line = c.quick.new.line } in
    halted fs m (env_of m) (bodily i m) n c.in-Err.stop
    (λ knowing fits k s l. let w = tasks knowing fs k in
    stops_through (λ o. after_body o (λ u. again knowing w d (test_of i) (behind_of i) (body_of i) u)) (λ e u. refl) c.in-Err.stop (at s n) (run knowing w d (body_of i) (at s m))
    (leaves_stops c.quick.result (run knowing w d (body_of i) (at s m)) (λ x. run knowing w (here (env_of m) n.line) (statement_view x) (at s n)) (at s n) (c.quick.ensures.leaves knowing w m.first (at s m)) c.in-Err.stop c.in-Err.is))
