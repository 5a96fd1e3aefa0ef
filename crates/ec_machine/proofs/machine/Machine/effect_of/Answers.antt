use Rattle.std.proofs.Common.{ap, arith, sym}
use Rattle.std.specs.Prelude.{reverse}
use Rattle.ec_code.specs.Views.{full_view}
use Rattle.ec_meaning_defs.specs.evaluation.Evaluate.{eval}
use Rattle.ec_meaning_defs.specs.evaluation.Results.{on, on_value}
use Rattle.ec_machine.specs.Frames.{here, resume}
use Rattle.ec_machine.specs.Goes.{env_of, tasks}
use Rattle.ec_machine.specs.Weights.{frames_weight}
use Rattle.ec_machine.proofs.Finding.{does_all, does_near, does_nothing, does_stops}
use Rattle.ec_machine.proofs.Weighing.{err_near, nearer}
use Rattle.ec_machine.proofs.machine.Machine.effect_of.Goals as goal

pub returns-in-Ok-All-clause-goes : goal.returns-in-Ok-All-clause-goes
returns-in-Ok-All-clause-goes c = λ knowing fits k s l.
    let fs = c.args.functions.now in
    let w = tasks knowing fs k in
    let m = c.args.self.now in
    let a = does_all fs m c.does.new.self (λ knowing w t. eval knowing w (here (env_of m) m.line) (full_view c.args.full.now) t) (λ knowing w o. on_value o (λ v u. on u)) c.does.result c.does.new.left c.does.ensures.does (cc (c.in-Ok-All.is, c.in-Ok-All.field-0-is)) in
    λ i. resume knowing w (sym a.0.env i) (reverse (sym a.0.frames i)) (a.1 knowing fits k s on l i)

pub returns-in-Ok-Nothing-clause-goes : goal.returns-in-Ok-Nothing-clause-goes
returns-in-Ok-Nothing-clause-goes c =
    let m = c.args.self.now in
    does_nothing c.args.functions.now m c.does.new.self (λ knowing w t. eval knowing w (here (env_of m) m.line) (full_view c.args.full.now) t) (λ knowing w o. on_value o (λ v u. on u)) c.does.result c.does.new.left c.does.ensures.does (cc (c.in-Ok-Nothing.is, c.in-Ok-Nothing.field-0-is))

pub returns-in-Err-clause-goes : goal.returns-in-Err-clause-goes
returns-in-Err-clause-goes c =
    let m = c.args.self.now in
    does_stops c.args.functions.now m c.does.new.self (λ knowing w t. eval knowing w (here (env_of m) m.line) (full_view c.args.full.now) t) (λ knowing w o. on_value o (λ v u. on u)) c.does.result c.does.new.left c.does.ensures.does c.in-Err.stop c.in-Err.is

pub returns-in-Ok-All-clause-nears : goal.returns-in-Ok-All-clause-nears
returns-in-Ok-All-clause-nears c =
    let m = c.args.self.now in
    let a = does_all c.args.functions.now m c.does.new.self (λ knowing w t. eval knowing w (here (env_of m) m.line) (full_view c.args.full.now) t) (λ knowing w o. on_value o (λ v u. on u)) c.does.result c.does.new.left c.does.ensures.does (cc (c.in-Ok-All.is, c.in-Ok-All.field-0-is)) in
    nearer _ _ _ _ (omega (arith, ap frames_weight a.0.frames))

pub returns-in-Ok-Nothing-clause-nears : goal.returns-in-Ok-Nothing-clause-nears
returns-in-Ok-Nothing-clause-nears c = omega (arith, does_near c.args.self.now.turns _ c.does.result c.does.new.left c.does.new.self (cc (c.in-Ok-Nothing.is, c.in-Ok-Nothing.field-0-is)) c.does.ensures.nears)

pub returns-in-Err-clause-nears : goal.returns-in-Err-clause-nears
returns-in-Err-clause-nears c = err_near _ _ _ _
