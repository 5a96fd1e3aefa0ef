-- What is done on the spot, before the block is entered.
use Rattle.std.proofs.Common.{◌≤◌, ◌+◌, ◌∙◌, refl, ap, sym, arith, []}
use Rattle.std.specs.Prelude.{reverse}
use Rattle.ec_code.specs.Views.{statement_view, statements_view}
use Rattle.ec_meaning_defs.specs.evaluation.Execute.{enter, run, run_all, settle}
use Rattle.ec_meaning_defs.specs.evaluation.Results.{closing, on, on_done}
use Rattle.ec_memory_defs.specs.Memory.{end_to, last_number}
use Rattle.ec_machine.specs.Frames.{here, resume}
use Rattle.ec_machine.specs.Goes.{at, env_of, tasks}
use Rattle.ec_machine.specs.Weights.{statement_weight, statements_weight}
use Rattle.ec_machine.proofs.Parts.{stops_through}
use Rattle.ec_machine.proofs.Quickly.{came, halted, if_some, list_none, list_some, list_stops}
use Rattle.ec_machine.proofs.Weighing.{err_near, nearer}
use Rattle.ec_machine.proofs.machine.Machine.run_bare_block.Goals as goal

pub returns-in-Ok-None-clause-goes : goal.returns-in-Ok-None-clause-goes
returns-in-Ok-None-clause-goes c = λ fs knowing fits k s l.
    let w = tasks knowing fs k in
    let m = c.args.self.now in
    let d = here (env_of m) m.line in
    let b = statements_view c.args.body.now in
    let n = record m { store = c.quick_list.new.store; line = c.quick_list.new.line } in
    ap (λ o. resume knowing w (env_of m) (reverse m.frames) (closing (last_number m.store) (settle w d b o)))
    (list_none c.quick_list.result (run_all knowing w d b (at s m)) (λ x. run knowing w (here (env_of m) n.line) (statement_view x) (at s n)) (λ xs u. run_all knowing w d (statements_view xs) u) (at s n) (c.quick_list.ensures.leaves knowing w m.first (at s m)) (cc (c.in-Ok-None.is, c.in-Ok-None.field-0-is)))
    ∙ ap (λ x. resume knowing w (env_of m) (reverse m.frames) (on (record (at s n) { memory = x }))) (ap (end_to n.store) (sym c.mark-mark.ensures) ∙ sym c.end_to.ensures)

pub returns-in-Ok-Some-clause-goes : goal.returns-in-Ok-Some-clause-goes
returns-in-Ok-Some-clause-goes c = λ fs.
    let m = c.args.self.now in
    let d = here (env_of m) m.line in
    let b = statements_view c.args.body.now in
    let n = record m { store = c.quick_list.new.store; line = c.quick_list.new.line } in
    let x = c.in-Ok-Some.found in
    came fs m (env_of m) (λ knowing w t. enter w d [] b (λ d u. run_all knowing w d b u) t) n
    (λ knowing w t. closing c.mark-mark.result (settle w d b (on_done (run knowing w (here (env_of m) n.line) (statement_view x.first.now) t) (λ u. run_all knowing w d (statements_view x.rest.now) u)))) refl (omega arith)
    (λ knowing fits k s l. let w = tasks knowing fs k in
    ap (λ o. closing (last_number m.store) (settle w d b o)) (list_some c.quick_list.result (run_all knowing w d b (at s m)) (λ x. run knowing w (here (env_of m) n.line) (statement_view x) (at s n)) (λ xs u. run_all knowing w d (statements_view xs) u) (at s n) (c.quick_list.ensures.leaves knowing w m.first (at s m)) x (cc (c.in-Ok-Some.is, c.in-Ok-Some.field-0-is)))
    ∙ ap (λ n'. closing n' (settle w d b (on_done (run knowing w (here (env_of m) n.line) (statement_view x.first.now) (at s n)) (λ u. run_all knowing w d (statements_view x.rest.now) u)))) (sym c.mark-mark.ensures))
    c.go_inside.result c.go_inside.new.self (c.go_inside.ensures.goes fs)

pub returns-in-Err-clause-goes : goal.returns-in-Err-clause-goes
returns-in-Err-clause-goes c = λ fs.
    let m = c.args.self.now in
    let d = here (env_of m) m.line in
    let b = statements_view c.args.body.now in
    let n = record m { store = c.quick_list.new.store; line = c.quick_list.new.line } in
    halted fs m (env_of m) (λ knowing w t. enter w d [] b (λ d u. run_all knowing w d b u) t) n c.in-Err.stop
    (λ knowing fits k s l. let w = tasks knowing fs k in
    stops_through (λ o. closing (last_number m.store) (settle w d b o)) (λ e u. refl) c.in-Err.stop (at s n) (run_all knowing w d b (at s m))
    (list_stops c.quick_list.result (run_all knowing w d b (at s m)) (λ x. run knowing w (here (env_of m) n.line) (statement_view x) (at s n)) (λ xs u. run_all knowing w d (statements_view xs) u) (at s n) (c.quick_list.ensures.leaves knowing w m.first (at s m)) c.in-Err.stop c.in-Err.is))

pub returns-in-Ok-None-clause-nears : goal.returns-in-Ok-None-clause-nears
returns-in-Ok-None-clause-nears c = nearer _ _ _ _ (omega arith)

pub returns-in-Ok-Some-clause-nears : goal.returns-in-Ok-Some-clause-nears
returns-in-Ok-Some-clause-nears c =
    omega (arith, c.go_inside.ensures.nears, if_some c.quick_list.result c.in-Ok-Some.found (λ x. 1 + statement_weight x.first.now + statements_weight x.rest.now ≤ statements_weight c.args.body.now) (cc (c.in-Ok-Some.is, c.in-Ok-Some.field-0-is)) c.quick_list.ensures.lighter)

pub returns-in-Err-clause-nears : goal.returns-in-Err-clause-nears
returns-in-Err-clause-nears c = err_near _ _ _ _
