use Rattle.std.proofs.Common.{◌∙◌, ap, arith, sym}
use Rattle.ec_code.specs.Views.{full_view}
use Rattle.ec_meaning_defs.specs.evaluation.Evaluate.{eval}
use Rattle.ec_machine.specs.Found.{found_view}
use Rattle.ec_machine.specs.Frames.{here}
use Rattle.ec_machine.specs.Goes.{env_of}
use Rattle.ec_machine.specs.Weights.{frames_weight}
use Rattle.ec_machine.proofs.Finding.{finds_none, finds_some, near_left, value_stands}
use Rattle.ec_machine.proofs.Weighing.{nearer, weight-full}
use Rattle.ec_machine.proofs.machine.Machine.full.Goals as goal

pub returns-in-Some-clause-goes : goal.returns-in-Some-clause-goes
returns-in-Some-clause-goes c =
    let fs = c.args.functions.now in
    let m = c.args.self.now in
    let n = c.value_of.new.self in
    let a = finds_some fs m n (env_of m) m.line (λ knowing w o. o) (λ knowing w t. eval knowing w (here (env_of m) m.line) (full_view c.args.full.now) t) (found_view c.value_of.result) c.value_of.new.left c.in-Some.value (sym c.get.ensures ∙ c.in-Some.is) c.value_of.ensures.finds in
    value_stands fs m n (env_of m) m.line (λ knowing w t. eval knowing w (here (env_of m) m.line) (full_view c.args.full.now) t) c.in-Some.value a.0 a.1

pub returns-in-None-clause-goes : goal.returns-in-None-clause-goes
returns-in-None-clause-goes c =
    let m = c.args.self.now in
    finds_none c.args.functions.now m c.value_of.new.self (env_of m) m.line (λ knowing w o. o) (λ knowing w t. eval knowing w (here (env_of m) m.line) (full_view c.args.full.now) t) (found_view c.value_of.result) c.value_of.new.left (sym c.get.ensures ∙ c.in-None.is) c.value_of.ensures.finds

pub returns-in-Some-clause-nears : goal.returns-in-Some-clause-nears
returns-in-Some-clause-nears c =
    let fs = c.args.functions.now in
    let m = c.args.self.now in
    let n = c.value_of.new.self in
    let a = finds_some fs m n (env_of m) m.line (λ knowing w o. o) (λ knowing w t. eval knowing w (here (env_of m) m.line) (full_view c.args.full.now) t) (found_view c.value_of.result) c.value_of.new.left c.in-Some.value (sym c.get.ensures ∙ c.in-Some.is) c.value_of.ensures.finds in
    nearer _ _ _ _ (omega (arith, ap frames_weight a.0.frames, weight-full c.args.full.now))

pub returns-in-None-clause-nears : goal.returns-in-None-clause-nears
returns-in-None-clause-nears c = near_left c.args.self.now.turns (found_view c.value_of.result) c.value_of.new.left c.value_of.new.self _ (sym c.get.ensures ∙ c.in-None.is) c.value_of.ensures.nears
