use Rattle.std.proofs.Common.{ap, None, Some, arith}
use Rattle.std.specs.Prelude.{reverse}
use Rattle.std.specs.Option.{option_map}
use Rattle.ec_code.specs.Views.{expression_view}
use Rattle.ec_meaning_defs.specs.evaluation.Evaluate.{eval}
use Rattle.ec_meaning_defs.specs.evaluation.Execute.{returning}
use Rattle.ec_meaning_defs.specs.evaluation.Results.{on_value, returned}
use Rattle.ec_machine.specs.Frames.{here, resume}
use Rattle.ec_machine.specs.Goes.{at, env_of, tasks}
use Rattle.ec_machine.proofs.Moves.{goes_as, returns_stand, stands_by}
use Rattle.ec_machine.specs.Weights.{optional_weight}
use Rattle.ec_machine.proofs.machine.Machine.run_return.Goals as goal

pub returns-in-None-clause-goes : goal.returns-in-None-clause-goes
returns-in-None-clause-goes c = λ knowing fits k s l.
    let fs = c.args.functions.now in
    let w = tasks knowing fs k in
    let m = c.args.self.now in
    let d = here (env_of m) m.line in
    stands_by knowing w s m c.gives.result _ _
    (ap (λ v. resume knowing w (env_of m) (reverse m.frames) (returning knowing w d (option_map expression_view v) (at s m))) c.in-None.is)
    (returns_stand knowing w s m c.gives.result (λ t. returned m.first None t) c.gives.ensures.gives)

pub returns-in-Some-clause-goes : goal.returns-in-Some-clause-goes
returns-in-Some-clause-goes c =
    let fs = c.args.functions.now in
    let m = c.args.self.now in
    let d = here (env_of m) m.line in
    goes_as fs m c.give.new.self (env_of m) c.give.result _
    (λ knowing w t. on_value (eval knowing w d (expression_view c.in-Some.value) t) (λ v u. returned m.first (Some v) u))
    (λ knowing w t. ap (λ v. returning knowing w d (option_map expression_view v) t) c.in-Some.is)
    c.give.ensures.goes

pub returns-in-None-clause-nears : goal.returns-in-None-clause-nears
returns-in-None-clause-nears c = omega (arith, c.gives.ensures.nears c.args.self.now.turns c.args.self.now)

pub returns-in-Some-clause-nears : goal.returns-in-Some-clause-nears
returns-in-Some-clause-nears c = omega (arith, c.give.ensures.nears, ap optional_weight c.in-Some.is)
