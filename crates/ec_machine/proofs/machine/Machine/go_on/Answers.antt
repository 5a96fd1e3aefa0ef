use Rattle.std.proofs.Common.{◌∙◌, ap, arith, sym}
use Rattle.ec_meaning_defs.specs.evaluation.Results.{value}
use Rattle.ec_values.specs.Words.{word_view}
use Rattle.ec_machine.specs.Found.{found_view}
use Rattle.ec_machine.specs.Frames.{behind_by, here}
use Rattle.ec_machine.specs.Goes.{env_of}
use Rattle.ec_machine.specs.Weights.{frames_weight}
use Rattle.ec_machine.proofs.Finding.{finds_none, finds_some, near_left, value_stands}
use Rattle.ec_machine.proofs.Weighing.{nearer}
use Rattle.ec_machine.proofs.machine.Machine.go_on.Goals as goal

pub returns-in-Some-clause-goes : goal.returns-in-Some-clause-goes
returns-in-Some-clause-goes c =
    let fs = c.args.functions.now in
    let m = c.args.self.now in
    let n = c.follow.new.self in
    let d = here (env_of m) m.line in
    let a = finds_some fs m n (env_of m) m.line (λ knowing w o. o) (λ knowing w t. behind_by d c.args.steps.now knowing w (value (word_view c.args.value) t)) (found_view c.follow.result) c.follow.new.left c.in-Some.value (sym c.get.ensures ∙ c.in-Some.is) c.follow.ensures.finds in
    value_stands fs m n (env_of m) m.line (λ knowing w t. behind_by d c.args.steps.now knowing w (value (word_view c.args.value) t)) c.in-Some.value a.0 a.1

pub returns-in-None-clause-goes : goal.returns-in-None-clause-goes
returns-in-None-clause-goes c =
    let m = c.args.self.now in
    finds_none c.args.functions.now m c.follow.new.self (env_of m) m.line (λ knowing w o. o) (λ knowing w t. behind_by (here (env_of m) m.line) c.args.steps.now knowing w (value (word_view c.args.value) t)) (found_view c.follow.result) c.follow.new.left (sym c.get.ensures ∙ c.in-None.is) c.follow.ensures.finds

pub returns-in-Some-clause-nears : goal.returns-in-Some-clause-nears
returns-in-Some-clause-nears c =
    let fs = c.args.functions.now in
    let m = c.args.self.now in
    let n = c.follow.new.self in
    let d = here (env_of m) m.line in
    let a = finds_some fs m n (env_of m) m.line (λ knowing w o. o) (λ knowing w t. behind_by d c.args.steps.now knowing w (value (word_view c.args.value) t)) (found_view c.follow.result) c.follow.new.left c.in-Some.value (sym c.get.ensures ∙ c.in-Some.is) c.follow.ensures.finds in
    nearer _ _ _ _ (omega (arith, ap frames_weight a.0.frames))

pub returns-in-None-clause-nears : goal.returns-in-None-clause-nears
returns-in-None-clause-nears c = near_left c.args.self.now.turns (found_view c.follow.result) c.follow.new.left c.follow.new.self _ (sym c.get.ensures ∙ c.in-None.is) c.follow.ensures.nears
