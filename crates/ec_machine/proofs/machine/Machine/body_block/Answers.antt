-- What is done on the spot, before the block is entered.
use Rattle.std.proofs.Common.{◌∙◌, refl, ap, sym, arith, [], None, Ok}
use Rattle.std.specs.Prelude.{reverse}
use Rattle.ec_code.specs.Views.{statement_view, statements_view}
use Rattle.ec_meaning_defs.specs.evaluation.Execute.{again, enter, run, run_all, settle}
use Rattle.ec_meaning_defs.specs.evaluation.Results.{after_body, closing, on_done}
use Rattle.ec_memory_defs.specs.Memory.{end_to, last_number}
use Rattle.ec_machine.specs.declared.frame.Frame.TheVariants as frame
use Rattle.ec_machine.specs.Frames.{behind_of, body_of, here, resume, test_of}
use Rattle.ec_machine.specs.Goes.{at, env_of, tasks}
use Rattle.ec_machine.specs.Quick.{behind_body}
use Rattle.ec_machine.proofs.Finding.{onward_left}
use Rattle.ec_machine.proofs.Moves.{pushed, stands_by}
use Rattle.ec_machine.proofs.Parts.{stops_through}
use Rattle.ec_machine.proofs.Quickly.{halted, list_none, list_some, list_stops, onward_came}
use Rattle.ec_machine.proofs.machine.Machine.body_block.Goals as goal

pub returns-in-Ok-None-clause-goes : goal.returns-in-Ok-None-clause-goes
returns-in-Ok-None-clause-goes c = λ fs.
    let m = c.args.self.now in
    let i = c.args.inner.now in
    let line = c.args.line in
    let d = here (env_of m) m.line in
    let b = statements_view c.args.body.now in
    let n = record m { store = c.quick_list.new.store; line = c.quick_list.new.line } in
    let q = record m { store = c.end_to.new.self; line = line } in
    onward_came fs m q (λ m knowing w t. after_body (enter w (here (env_of m) m.line) [] b (λ d u. run_all knowing w d b u) t) (λ u. again knowing w (here (env_of m) line) (test_of i) (behind_of i) (body_of i) u)) (behind_body i) (behind_body i) refl refl (omega arith)
    (λ knowing fits k s l. let w = tasks knowing fs k in
    ap (λ o. after_body (closing (last_number m.store) (settle w d b o)) (λ u. again knowing w (here (env_of m) line) (test_of i) (behind_of i) (body_of i) u))
    (list_none c.quick_list.result (run_all knowing w d b (at s m)) (λ x. run knowing w (here (env_of m) n.line) (statement_view x) (at s n)) (λ xs u. run_all knowing w d (statements_view xs) u) (at s n) (c.quick_list.ensures.leaves knowing w m.first (at s m)) (cc (c.in-Ok-None.is, c.in-Ok-None.field-0-is)))
    ∙ ap (λ x. again knowing w (here (env_of m) line) (test_of i) (behind_of i) (body_of i) (record (at s n) { memory = x })) (ap (end_to n.store) (sym c.mark-mark.ensures) ∙ sym c.end_to.ensures))
    (Ok None) q ((λ r new g. g), refl)

pub returns-in_ok-push-in-Ok-Some-clause-goes : goal.returns-in_ok-push-in-Ok-Some-clause-goes
returns-in_ok-push-in-Ok-Some-clause-goes c = λ fs.
    let m = c.args.self.now in
    let i = c.args.inner.now in
    let line = c.args.line in
    let d = here (env_of m) m.line in
    let b = statements_view c.args.body.now in
    let n = record m { store = c.quick_list.new.store; line = c.quick_list.new.line } in
    let x = c.in-Ok-Some.found in
    onward_left fs m c.go_inside.new.self (λ m knowing w t. after_body (enter w (here (env_of m) m.line) [] b (λ d u. run_all knowing w d b u) t) (λ u. again knowing w (here (env_of m) line) (test_of i) (behind_of i) (body_of i) u)) (behind_body i) c.go_inside.result c.standing.result c.standing.ensures
    (λ knowing fits k s l. let w = tasks knowing fs k in
    stands_by knowing w s c.go_inside.new.self c.go_inside.result _ _
    (ap (λ o. resume knowing w (env_of m) (reverse m.frames) (after_body (closing (last_number m.store) (settle w d b o)) (λ u. again knowing w (here (env_of m) line) (test_of i) (behind_of i) (body_of i) u)))
    (list_some c.quick_list.result (run_all knowing w d b (at s m)) (λ x. run knowing w (here (env_of m) n.line) (statement_view x) (at s n)) (λ xs u. run_all knowing w d (statements_view xs) u) (at s n) (c.quick_list.ensures.leaves knowing w m.first (at s m)) x (cc (c.in-Ok-Some.is, c.in-Ok-Some.field-0-is)))
    ∙ ap (λ n'. resume knowing w (env_of m) (reverse m.frames) (after_body (closing n' (settle w d b (on_done (run knowing w (here (env_of m) n.line) (statement_view x.first.now) (at s n)) (λ u. run_all knowing w d (statements_view x.rest.now) u)))) (λ u. again knowing w (here (env_of m) line) (test_of i) (behind_of i) (body_of i) u))) (sym c.mark-mark.ensures)
    ∙ pushed knowing w (env_of m) m.frames c.push.new.self (frame.Body line c.args.inner) (closing c.mark-mark.result (settle w d b (on_done (run knowing w (here (env_of m) n.line) (statement_view x.first.now) (at s n)) (λ u. run_all knowing w d (statements_view x.rest.now) u)))) c.in_ok-push-in-Ok-Some.ensures.ok)
    (c.go_inside.ensures.goes fs knowing fits k s l))

pub returns-in-Err-clause-goes : goal.returns-in-Err-clause-goes
returns-in-Err-clause-goes c = λ fs.
    let m = c.args.self.now in
    let i = c.args.inner.now in
    let line = c.args.line in
    let d = here (env_of m) m.line in
    let b = statements_view c.args.body.now in
    let n = record m { store = c.quick_list.new.store; line = c.quick_list.new.line } in
    halted fs m (env_of m) (λ knowing w t. after_body (enter w d [] b (λ d u. run_all knowing w d b u) t) (λ u. again knowing w (here (env_of m) line) (test_of i) (behind_of i) (body_of i) u)) n c.in-Err.stop
    (λ knowing fits k s l. let w = tasks knowing fs k in
    stops_through (λ o. after_body (closing (last_number m.store) (settle w d b o)) (λ u. again knowing w (here (env_of m) line) (test_of i) (behind_of i) (body_of i) u)) (λ e u. refl) c.in-Err.stop (at s n) (run_all knowing w d b (at s m))
    (list_stops c.quick_list.result (run_all knowing w d b (at s m)) (λ x. run knowing w (here (env_of m) n.line) (statement_view x) (at s n)) (λ xs u. run_all knowing w d (statements_view xs) u) (at s n) (c.quick_list.ensures.leaves knowing w m.first (at s m)) c.in-Err.stop c.in-Err.is))
