use Rattle.std.proofs.Common.{◌+◌, ap, arith}
use Rattle.std.specs.Option.{option_map}
use Rattle.ec_code.specs.Views.{statements_view}
use Rattle.ec_meaning_defs.specs.evaluation.Execute.{settle}
use Rattle.ec_meaning_defs.specs.evaluation.Results.{back, went}
use Rattle.ec_values.specs.Words.{word_view}
use Rattle.ec_machine.specs.Frames.{behind_by, here, led, left_by, outside}
use Rattle.ec_machine.specs.Goes.{at, env_of, tasks}
use Rattle.ec_machine.specs.Weights.{flow_weight, frames_answer, statements_weight}
use Rattle.ec_machine.proofs.Finding.{astray_goes}
use Rattle.ec_machine.proofs.Moves.{goes_as}
use Rattle.ec_machine.proofs.Weighing.{err_is_near}
use Rattle.ec_machine.proofs.machine.Machine.leave_by.Goals as goal

pub returns-in-On-clause-goes : goal.returns-in-On-clause-goes
returns-in-On-clause-goes c =
    let fs = c.args.functions.now in
    let m = c.args.self.now in
    let x = c.args.way in
    let e = env_of m in
    let b = statements_view x.function.now.body in
    goes_as fs m c.go_out.new.self (outside x e) c.go_out.result
    (λ knowing w t. behind_by (here (outside x e) x.line) x.steps.now knowing w (left_by x (settle w (here e x.line) b (led c.args.flow t))))
    (λ knowing w t. behind_by (here (outside x e) x.line) x.steps.now knowing w (left_by x (back (option_map word_view x.function.now.otherwise) t)))
    (λ knowing w t. ap (λ f. behind_by (here (outside x e) x.line) x.steps.now knowing w (left_by x (settle w (here e x.line) b (led f t)))) c.in-On.is)
    c.go_out.ensures.goes

pub returns-in-Back-clause-goes : goal.returns-in-Back-clause-goes
returns-in-Back-clause-goes c =
    let fs = c.args.functions.now in
    let m = c.args.self.now in
    let x = c.args.way in
    let e = env_of m in
    let b = statements_view x.function.now.body in
    goes_as fs m c.go_out-in-Back.new.self (outside x e) c.go_out-in-Back.result
    (λ knowing w t. behind_by (here (outside x e) x.line) x.steps.now knowing w (left_by x (settle w (here e x.line) b (led c.args.flow t))))
    (λ knowing w t. behind_by (here (outside x e) x.line) x.steps.now knowing w (left_by x (back (option_map word_view c.in-Back.value) t)))
    (λ knowing w t. ap (λ f. behind_by (here (outside x e) x.line) x.steps.now knowing w (left_by x (settle w (here e x.line) b (led f t)))) c.in-Back.is)
    c.go_out-in-Back.ensures.goes

pub returns-in-Went-clause-goes : goal.returns-in-Went-clause-goes
returns-in-Went-clause-goes c =
    let fs = c.args.functions.now in
    let m = c.args.self.now in
    let x = c.args.way in
    let e = env_of m in
    let b = statements_view x.function.now.body in
    goes_as fs m c.go_in.new.self (outside x e) c.go_in.result
    (λ knowing w t. behind_by (here (outside x e) x.line) x.steps.now knowing w (left_by x (settle w (here e x.line) b (led c.args.flow t))))
    (λ knowing w t. behind_by (here (outside x e) x.line) x.steps.now knowing w (left_by x (settle w (here e x.line) b (went c.in-Went.label t))))
    (λ knowing w t. ap (λ f. behind_by (here (outside x e) x.line) x.steps.now knowing w (left_by x (settle w (here e x.line) b (led f t)))) c.in-Went.is)
    (c.go_in.ensures.goes fs)

pub returns-in-Broke-clause-goes : goal.returns-in-Broke-clause-goes
returns-in-Broke-clause-goes c =
    let m = c.args.self.now in
    let x = c.args.way in
    let b = statements_view x.function.now.body in
    astray_goes c.args.functions.now m c.go_astray.new.self c.go_astray.result x (λ knowing w t. settle w (here (env_of m) x.line) b (led c.args.flow t)) c.go_astray.ensures.stops c.go_astray.ensures.ended
    (λ knowing fits k s l. ap (λ f. left_by x (settle (tasks knowing c.args.functions.now k) (here (env_of m) x.line) b (led f (at s m)))) c.in-Broke.is)

pub returns-in-Continued-clause-goes : goal.returns-in-Continued-clause-goes
returns-in-Continued-clause-goes c =
    let m = c.args.self.now in
    let x = c.args.way in
    let b = statements_view x.function.now.body in
    astray_goes c.args.functions.now m c.go_astray-in-Continued.new.self c.go_astray-in-Continued.result x (λ knowing w t. settle w (here (env_of m) x.line) b (led c.args.flow t)) c.go_astray-in-Continued.ensures.stops c.go_astray-in-Continued.ensures.ended
    (λ knowing fits k s l. ap (λ f. left_by x (settle (tasks knowing c.args.functions.now k) (here (env_of m) x.line) b (led f (at s m)))) c.in-Continued.is)

pub returns-in-On-clause-nears : goal.returns-in-On-clause-nears
returns-in-On-clause-nears c = omega (arith, c.go_out.ensures.nears)

pub returns-in-Back-clause-nears : goal.returns-in-Back-clause-nears
returns-in-Back-clause-nears c = omega (arith, c.go_out-in-Back.ensures.nears)

pub returns-in-Went-clause-nears : goal.returns-in-Went-clause-nears
returns-in-Went-clause-nears c = omega (arith, c.go_in.ensures.nears, ap (λ f. flow_weight f (1 + statements_weight c.args.way.function.now.body + frames_answer c.args.self.now.frames)) c.in-Went.is)

pub returns-in-Broke-clause-nears : goal.returns-in-Broke-clause-nears
returns-in-Broke-clause-nears c = err_is_near _ _ c.go_astray.result c.go_astray.new.self _ c.go_astray.ensures.stops

pub returns-in-Continued-clause-nears : goal.returns-in-Continued-clause-nears
returns-in-Continued-clause-nears c = err_is_near _ _ c.go_astray-in-Continued.result c.go_astray-in-Continued.new.self _ c.go_astray-in-Continued.ensures.stops
