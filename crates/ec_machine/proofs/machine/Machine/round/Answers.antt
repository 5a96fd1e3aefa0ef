use Rattle.std.proofs.Common.{◌∙◌, arith, map, refl, Some, Ok, Err}
use Rattle.ec_code.specs.Views.{function_view}
use Rattle.ec_meaning_defs.specs.evaluation.Evaluate.{Task, turn_of}
use Rattle.ec_meaning_defs.specs.evaluation.Execute.{act}
use Rattle.ec_machine.specs.Frames.{behind_of, body_of, here, test_of}
use Rattle.ec_machine.specs.Goes.{at, env_of, tasks}
use Rattle.ec_machine.specs.Quick.{behind_body, bodily, testing, turning}
use Rattle.ec_machine.proofs.Quickly.{halted, onward_came, onward_on, onward_some, onward_stops}
use Rattle.ec_machine.proofs.Turns.{begins, stops_by}
use Rattle.ec_machine.proofs.machine.Machine.round.Goals as goal

pub returns-in-Ok-None-clause-goes : goal.returns-in-Ok-None-clause-goes
returns-in-Ok-None-clause-goes c =
    let fs = c.args.functions.now in
    let m = c.args.self.now in
    let n = record m { turns = c.take_turn.new.turns } in
    let i = c.args.inner.now in
    let t : Task = turn_of (here (env_of m) m.line) (test_of i) (behind_of i) (body_of i) in
    onward_came fs m n (turning i) (bodily i) (testing i) refl refl (omega (arith, c.in-Ok.ensures.fewer))
    (λ knowing fits k s l. begins knowing fits fs k s m t l ∙ c.in-Ok.ensures.turn (at s m) (λ u. act knowing (map function_view fs) (tasks knowing fs k) t u))
    c.behind.result c.behind.new.self
    (onward_on fs n (bodily i) (behind_body i) c.body.result c.body.new.self c.body.ensures.goes (cc (c.in-Ok-None.is, c.in-Ok-None.field-0-is)) (testing i) c.behind.result c.behind.new.self (c.behind.ensures.goes fs))

pub returns-in-Ok-Some-clause-goes : goal.returns-in-Ok-Some-clause-goes
returns-in-Ok-Some-clause-goes c =
    let fs = c.args.functions.now in
    let m = c.args.self.now in
    let n = record m { turns = c.take_turn.new.turns } in
    let i = c.args.inner.now in
    let t : Task = turn_of (here (env_of m) m.line) (test_of i) (behind_of i) (body_of i) in
    onward_came fs m n (turning i) (bodily i) (testing i) refl refl (omega (arith, c.in-Ok.ensures.fewer))
    (λ knowing fits k s l. begins knowing fits fs k s m t l ∙ c.in-Ok.ensures.turn (at s m) (λ u. act knowing (map function_view fs) (tasks knowing fs k) t u))
    (Ok (Some c.in-Ok-Some.focus)) c.body.new.self
    (onward_some fs n (bodily i) (behind_body i) c.body.result c.body.new.self c.body.ensures.goes c.in-Ok-Some.focus (cc (c.in-Ok-Some.is, c.in-Ok-Some.field-0-is)))

pub returns-in-Err-body-clause-goes : goal.returns-in-Err-body-clause-goes
returns-in-Err-body-clause-goes c =
    let fs = c.args.functions.now in
    let m = c.args.self.now in
    let n = record m { turns = c.take_turn.new.turns } in
    let i = c.args.inner.now in
    let t : Task = turn_of (here (env_of m) m.line) (test_of i) (behind_of i) (body_of i) in
    onward_came fs m n (turning i) (bodily i) (testing i) refl refl (omega (arith, c.in-Ok.ensures.fewer))
    (λ knowing fits k s l. begins knowing fits fs k s m t l ∙ c.in-Ok.ensures.turn (at s m) (λ u. act knowing (map function_view fs) (tasks knowing fs k) t u))
    (Err c.in-Err-body.stop) c.body.new.self
    (onward_stops fs n (bodily i) (behind_body i) c.body.result c.body.new.self c.body.ensures.goes c.in-Err-body.stop c.in-Err-body.is)

pub returns-in-Err-clause-goes : goal.returns-in-Err-clause-goes
returns-in-Err-clause-goes c =
    let fs = c.args.functions.now in
    let m = c.args.self.now in
    let n = record m { turns = c.take_turn.new.turns } in
    let i = c.args.inner.now in
    let t : Task = turn_of (here (env_of m) m.line) (test_of i) (behind_of i) (body_of i) in
    halted fs m (env_of m) (turning i m) n c.in-Err.stop
    (λ knowing fits k s l. stops_by c.in-Err.stop (at s n) _ _ (begins knowing fits fs k s m t l) (c.in-Err.ensures.turn (at s m) (λ u. act knowing (map function_view fs) (tasks knowing fs k) t u)))
