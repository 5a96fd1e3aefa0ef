use Rattle.std.proofs.Common.{◌∙◌, ap, arith, sym}
use Rattle.ec_code.specs.Views.{expressions_view}
use Rattle.ec_meaning_defs.specs.evaluation.Evaluate.{collect}
use Rattle.ec_machine.specs.Found.{found_view}
use Rattle.ec_machine.specs.Frames.{behind_by, here, received}
use Rattle.ec_machine.specs.Goes.{env_of, taken}
use Rattle.ec_machine.specs.Quick.{passing}
use Rattle.ec_machine.specs.Weights.{frames_weight}
use Rattle.ec_machine.proofs.Finding.{finds_none, finds_some, goes_behind, near_left}
use Rattle.ec_machine.proofs.Parts.{values_pushed}
use Rattle.ec_machine.proofs.Quickly.{remaining_less}
use Rattle.ec_machine.proofs.Weighing.{err_exit, err_near}
use Rattle.ec_machine.proofs.machine.Machine.pass_on.Goals as goal

pub returns-in-Some-get-clause-goes : goal.returns-in-Some-get-clause-goes
returns-in-Some-get-clause-goes c =
    let fs = c.args.functions.now in
    let m = c.args.self.now in
    let p = record m { values = c.push.new.self } in
    let n = c.pass.new.self in
    let d = here (env_of m) m.line in
    let a = finds_some fs p n (taken c.in-Some.more (env_of p)) m.line (behind_by d c.args.steps.now) (passing c.args.callee c.args.arguments.now c.in-Some.more p) (found_view c.pass.result) c.pass.new.left c.in-Some-get.value (sym c.get.ensures ∙ c.in-Some-get.is) c.pass.ensures.finds in
    values_pushed fs m c.go_on.new.self c.go_on.result c.args.count c.in-Some.more c.args.value c.push.new.self
    (λ xs knowing w t. behind_by d c.args.steps.now knowing w (collect knowing w d xs (expressions_view c.args.arguments.now) t (received knowing w d c.args.callee)))
    c.in_ok-push.ensures.ok c.in-Some.ensures.1
    (goes_behind fs p n c.go_on.new.self (taken c.in-Some.more (env_of p)) m.line c.args.steps.now (passing c.args.callee c.args.arguments.now c.in-Some.more p) c.in-Some-get.value c.go_on.result a.0 c.pass.ensures.turns a.1 c.go_on.ensures.goes)

pub returns-in-None-clause-goes : goal.returns-in-None-clause-goes
returns-in-None-clause-goes c =
    let fs = c.args.functions.now in
    let m = c.args.self.now in
    let p = record m { values = c.push.new.self } in
    let d = here (env_of m) m.line in
    values_pushed fs m c.pass.new.self c.pass.new.left c.args.count c.in-Some.more c.args.value c.push.new.self
    (λ xs knowing w t. behind_by d c.args.steps.now knowing w (collect knowing w d xs (expressions_view c.args.arguments.now) t (received knowing w d c.args.callee)))
    c.in_ok-push.ensures.ok c.in-Some.ensures.1
    (finds_none fs p c.pass.new.self (taken c.in-Some.more (env_of p)) m.line (behind_by d c.args.steps.now) (passing c.args.callee c.args.arguments.now c.in-Some.more p) (found_view c.pass.result) c.pass.new.left (sym c.get.ensures ∙ c.in-None.is) c.pass.ensures.finds)

pub returns-in-Some-get-clause-nears : goal.returns-in-Some-get-clause-nears
returns-in-Some-get-clause-nears c =
    let fs = c.args.functions.now in
    let m = c.args.self.now in
    let p = record m { values = c.push.new.self } in
    let d = here (env_of m) m.line in
    let a = finds_some fs p c.pass.new.self (taken c.in-Some.more (env_of p)) m.line (behind_by d c.args.steps.now) (passing c.args.callee c.args.arguments.now c.in-Some.more p) (found_view c.pass.result) c.pass.new.left c.in-Some-get.value (sym c.get.ensures ∙ c.in-Some-get.is) c.pass.ensures.finds in
    omega (arith, remaining_less m.turns c.pass.new.self.turns c.go_on.result c.go_on.new.self c.pass.ensures.turns, c.go_on.ensures.nears, ap frames_weight a.0.frames)

pub returns-in-None-clause-nears : goal.returns-in-None-clause-nears
returns-in-None-clause-nears c = omega (arith, near_left c.args.self.now.turns (found_view c.pass.result) c.pass.new.left c.pass.new.self _ (sym c.get.ensures ∙ c.in-None.is) c.pass.ensures.nears)

pub returns-in_err-push-clause-nears : goal.returns-in_err-push-clause-nears
returns-in_err-push-clause-nears c = err_exit _ _ _ _ _ c.from_residual.ensures.1

pub returns-in_default-clause-nears : goal.returns-in_default-clause-nears
returns-in_default-clause-nears c = err_near _ _ _ _
