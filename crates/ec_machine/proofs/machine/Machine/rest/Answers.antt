use Rattle.std.proofs.Common.{ap, arith}
use Rattle.ec_code.specs.Views.{statements_view}
use Rattle.ec_meaning_defs.specs.evaluation.Execute.{run_all}
use Rattle.ec_meaning_defs.specs.evaluation.Results.{on_done}
use Rattle.ec_machine.specs.Frames.{here, led}
use Rattle.ec_machine.specs.Goes.{env_of}
use Rattle.ec_machine.proofs.Moves.{goes_as}
use Rattle.ec_machine.proofs.Weighing.{nearer}
use Rattle.ec_machine.proofs.machine.Machine.rest.Goals as goal

pub returns-in-On-clause-goes : goal.returns-in-On-clause-goes
returns-in-On-clause-goes c =
    let fs = c.args.functions.now in
    let m = c.args.self.now in
    let d = here (env_of m) m.line in
    let xs = statements_view c.args.statements.now in
    goes_as fs m c.list.new.self (env_of m) c.list.result
    (λ knowing w t. on_done (led c.args.flow t) (λ u. run_all knowing w d xs u))
    (λ knowing w t. run_all knowing w d xs t)
    (λ knowing w t. ap (λ f. on_done (led f t) (λ u. run_all knowing w d xs u)) c.in-On.is)
    c.list.ensures.goes

pub returns-in-On-clause-nears : goal.returns-in-On-clause-nears
returns-in-On-clause-nears c = omega (arith, c.list.ensures.nears)

pub returns-in-Continued-clause-nears : goal.returns-in-Continued-clause-nears
returns-in-Continued-clause-nears c = nearer _ _ _ _ (omega arith)

pub returns-in-Broke-clause-nears : goal.returns-in-Broke-clause-nears
returns-in-Broke-clause-nears c = nearer _ _ _ _ (omega arith)

pub returns-in-Went-clause-nears : goal.returns-in-Went-clause-nears
returns-in-Went-clause-nears c = nearer _ _ _ _ (omega arith)

pub returns-in-Back-clause-nears : goal.returns-in-Back-clause-nears
returns-in-Back-clause-nears c = nearer _ _ _ _ (omega arith)
