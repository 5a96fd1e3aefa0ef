use Rattle.std.proofs.Common.{◌∙◌, ap, arith}
use Rattle.std.specs.Option.{option_map}
use Rattle.ec_code.specs.Views.{expression_view, loop_view}
use Rattle.ec_meaning_defs.specs.evaluation.Evaluate.{eval}
use Rattle.ec_meaning_defs.specs.evaluation.Execute.{returning, run}
use Rattle.ec_meaning_defs.specs.evaluation.Results.{on, on_value}
use Rattle.ec_machine.specs.Frames.{here}
use Rattle.ec_machine.specs.Goes.{env_of}
use Rattle.ec_machine.specs.Weights.{statement_weight, test_weight}
use Rattle.ec_machine.proofs.Moves.{goes_as}
use Rattle.ec_machine.proofs.Running.{to_Evaluate, to_Loop, to_Return}
use Rattle.ec_machine.proofs.Weighing.{nearer, weight-Evaluate, weight-Loop, weight-Return}
use Rattle.ec_machine.proofs.machine.Machine.left.Goals as goal

pub returns-in-Evaluate-clause-goes : goal.returns-in-Evaluate-clause-goes
returns-in-Evaluate-clause-goes c =
    let fs = c.args.functions.now in
    let m = c.args.self.now in
    let d = here (env_of m) m.line in
    goes_as fs m c.effect.new.self (env_of m) c.effect.result _
    (λ knowing w t. on_value (eval knowing w d (expression_view c.in-Evaluate.expression) t) (λ v u. on u))
    (λ knowing w t. to_Evaluate knowing w (env_of m) t m.line c.args.statement.now c.in-Evaluate.expression c.in-Evaluate.is)
    c.effect.ensures.goes

pub returns-in-Loop-clause-goes : goal.returns-in-Loop-clause-goes
returns-in-Loop-clause-goes c =
    let fs = c.args.functions.now in
    let m = c.args.self.now in
    let d = here (env_of m) m.line in
    goes_as fs m c.run_loop.new.self (env_of m) c.run_loop.result _ (λ knowing w t. run knowing w d (loop_view c.get.result.now) t)
    (λ knowing w t. to_Loop knowing w (env_of m) t m.line c.args.statement.now c.in-Loop.inner c.get.result.now c.in-Loop.is c.get.ensures)
    c.run_loop.ensures.goes

pub returns-in-Return-clause-goes : goal.returns-in-Return-clause-goes
returns-in-Return-clause-goes c =
    let fs = c.args.functions.now in
    let m = c.args.self.now in
    let d = here (env_of m) m.line in
    goes_as fs m c.run_return.new.self (env_of m) c.run_return.result _ (λ knowing w t. returning knowing w d (option_map expression_view c.in-Return.value) t)
    (λ knowing w t. to_Return knowing w (env_of m) t m.line c.args.statement.now c.in-Return.value c.in-Return.is)
    c.run_return.ensures.goes

pub returns-in-Evaluate-clause-nears : goal.returns-in-Evaluate-clause-nears
returns-in-Evaluate-clause-nears c = omega (arith, c.effect.ensures.nears, ap statement_weight c.in-Evaluate.is ∙ weight-Evaluate _)

pub returns-in-Loop-clause-nears : goal.returns-in-Loop-clause-nears
returns-in-Loop-clause-nears c = omega (arith, c.run_loop.ensures.nears, ap statement_weight c.in-Loop.is ∙ weight-Loop _, ap test_weight c.get.ensures)

pub returns-in-Return-clause-nears : goal.returns-in-Return-clause-nears
returns-in-Return-clause-nears c = omega (arith, c.run_return.ensures.nears, ap statement_weight c.in-Return.is ∙ weight-Return _)

pub returns-in_default-clause-nears : goal.returns-in_default-clause-nears
returns-in_default-clause-nears c = nearer _ _ _ _ (omega arith)
