use Rattle.std.proofs.Common.{◌≤◌, ap, arith, refl}
use Rattle.std.specs.Prelude.{reverse}
use Rattle.ec_code.specs.Views.{statement_view}
use Rattle.ec_meaning_defs.specs.evaluation.Execute.{run}
use Rattle.ec_machine.specs.Frames.{here, resume}
use Rattle.ec_machine.specs.Goes.{at, env_of, tasks}
use Rattle.ec_machine.specs.Weights.{statement_weight}
use Rattle.ec_machine.proofs.Quickly.{came, halted, if_some, leaves_none, leaves_some, leaves_stops}
use Rattle.ec_machine.proofs.Weighing.{err_near, nearer}
use Rattle.ec_machine.proofs.machine.Machine.on_line.Goals as goal

pub returns-in-Ok-None-clause-goes : goal.returns-in-Ok-None-clause-goes
returns-in-Ok-None-clause-goes c = λ knowing fits k s l.
    let fs = c.args.functions.now in
    let w = tasks knowing fs k in
    let m = c.args.self.now in
    let n = record m { store = c.quick.new.store; line = c.quick.new.line } in
    ap (resume knowing w (env_of m) (reverse m.frames))
    (leaves_none c.quick.result (run knowing w (here (env_of m) m.line) (statement_view c.args.statement.now) (at s m)) (λ x. run knowing w (here (env_of m) n.line) (statement_view x) (at s n)) (at s n) (c.quick.ensures.leaves knowing w m.first (at s m)) (cc (c.in-Ok-None.is, c.in-Ok-None.field-0-is)))

pub returns-in-Ok-Some-clause-goes : goal.returns-in-Ok-Some-clause-goes
returns-in-Ok-Some-clause-goes c =
    let fs = c.args.functions.now in
    let m = c.args.self.now in
    let n = record m { store = c.quick.new.store; line = c.quick.new.line } in
    came fs m (env_of m) (λ knowing w t. run knowing w (here (env_of m) m.line) (statement_view c.args.statement.now) t) n (λ knowing w t. run knowing w (here (env_of m) n.line) (statement_view c.in-Ok-Some.left.now) t) refl (omega arith)
    (λ knowing fits k s l. let w = tasks knowing fs k in leaves_some c.quick.result (run knowing w (here (env_of m) m.line) (statement_view c.args.statement.now) (at s m)) (λ x. run knowing w (here (env_of m) n.line) (statement_view x) (at s n)) (at s n) (c.quick.ensures.leaves knowing w m.first (at s m)) c.in-Ok-Some.left (cc (c.in-Ok-Some.is, c.in-Ok-Some.field-0-is)))
    c.left.result c.left.new.self c.left.ensures.goes

pub returns-in-Err-clause-goes : goal.returns-in-Err-clause-goes
returns-in-Err-clause-goes c =
    let fs = c.args.functions.now in
    let m = c.args.self.now in
    let n = record m { store = c.quick.new.store; line = c.quick.new.line } in
    halted fs m (env_of m) (λ knowing w t. run knowing w (here (env_of m) m.line) (statement_view c.args.statement.now) t) n c.in-Err.stop
    (λ knowing fits k s l. let w = tasks knowing fs k in leaves_stops c.quick.result (run knowing w (here (env_of m) m.line) (statement_view c.args.statement.now) (at s m)) (λ x. run knowing w (here (env_of m) n.line) (statement_view x) (at s n)) (at s n) (c.quick.ensures.leaves knowing w m.first (at s m)) c.in-Err.stop c.in-Err.is)

pub returns-in-Ok-None-clause-nears : goal.returns-in-Ok-None-clause-nears
returns-in-Ok-None-clause-nears c = nearer _ _ _ _ (omega arith)

pub returns-in-Ok-Some-clause-nears : goal.returns-in-Ok-Some-clause-nears
returns-in-Ok-Some-clause-nears c =
    omega (arith, c.left.ensures.nears, if_some c.quick.result c.in-Ok-Some.left (λ x. statement_weight x.now ≤ statement_weight c.args.statement.now) (cc (c.in-Ok-Some.is, c.in-Ok-Some.field-0-is)) c.quick.ensures.lighter)

pub returns-in-Err-clause-nears : goal.returns-in-Err-clause-nears
returns-in-Err-clause-nears c = err_near _ _ _ _
