use Rattle.std.proofs.Common.{◌≡◌, ◌∙◌, ap, arith, sym, Some}
use Rattle.std.specs.Prelude.{reverse}
use Rattle.ec_code.specs.Views.{full_view}
use Rattle.ec_meaning_defs.specs.evaluation.Evaluate.{eval}
use Rattle.ec_meaning_defs.specs.evaluation.Results.{on_value, returned}
use Rattle.ec_values.specs.Words.{word_view}
use Rattle.ec_machine.specs.declared.frame.Frame.TheVariants as frame
use Rattle.ec_machine.specs.Found.{found_view}
use Rattle.ec_machine.specs.Frames.{here, resume}
use Rattle.ec_machine.specs.Goes.{at, env_of, tasks}
use Rattle.ec_machine.specs.Weights.{frames_weight}
use Rattle.ec_machine.proofs.Finding.{finds_none, finds_some, near_left, taken_back}
use Rattle.ec_machine.proofs.Moves.{pushed, returns_stand, stands_by}
use Rattle.ec_machine.proofs.Weighing.{err_exit, pushed_weight}
use Rattle.ec_machine.proofs.machine.Machine.give_full.Goals as goal

pub returns-in-Some-clause-goes : goal.returns-in-Some-clause-goes
returns-in-Some-clause-goes c = λ knowing fits k s l.
    let fs = c.args.functions.now in
    let w = tasks knowing fs k in
    let m = c.args.self.now in
    let p = record m { frames = c.push.new.self } in
    let n = c.value_of.new.self in
    let q = record n { frames = c.truncate.new.self } in
    let d = here (env_of m) m.line in
    let v = word_view c.in-Some.value in
    let a = finds_some fs p n (env_of p) p.line (λ knowing w o. o) (λ knowing w t. eval knowing w d (full_view c.args.full.now) t) (found_view c.value_of.result) c.value_of.new.left c.in-Some.value (sym c.get.ensures ∙ c.in-Some.is) c.value_of.ensures.finds in
    let same : q.frames ≡ m.frames = c.truncate.ensures ∙ taken_back m.frames p.frames n.frames frame.Give c.len-height.result c.len-height.ensures c.in_ok-push.ensures.ok a.0.frames in
    stands_by knowing w s q c.gives.result _ _
    (ap (λ o. resume knowing w (env_of m) (reverse m.frames) (on_value o (λ v u. returned m.first (Some v) u))) (a.1 knowing fits k s l)
    ∙ (λ i. resume knowing w (sym a.0.env i) (reverse (sym same i)) (returned (sym a.0.env i).first (Some v) (at s q))))
    (returns_stand knowing w s q c.gives.result (λ t. returned n.first (Some v) t) c.gives.ensures.gives)

pub returns-in-None-clause-goes : goal.returns-in-None-clause-goes
returns-in-None-clause-goes c = λ knowing fits k s l.
    let fs = c.args.functions.now in
    let w = tasks knowing fs k in
    let m = c.args.self.now in
    let p = record m { frames = c.push.new.self } in
    let n = c.value_of.new.self in
    let d = here (env_of m) m.line in
    stands_by knowing w s n c.value_of.new.left _ _
    (pushed knowing w (env_of m) m.frames p.frames frame.Give (eval knowing w d (full_view c.args.full.now) (at s m)) c.in_ok-push.ensures.ok)
    (finds_none fs p n (env_of p) p.line (λ knowing w o. o) (λ knowing w t. eval knowing w d (full_view c.args.full.now) t) (found_view c.value_of.result) c.value_of.new.left (sym c.get.ensures ∙ c.in-None.is) c.value_of.ensures.finds knowing fits k s l)

pub returns-in-Some-clause-nears : goal.returns-in-Some-clause-nears
returns-in-Some-clause-nears c =
    let fs = c.args.functions.now in
    let m = c.args.self.now in
    let p = record m { frames = c.push.new.self } in
    let n = c.value_of.new.self in
    let q = record n { frames = c.truncate.new.self } in
    let d = here (env_of m) m.line in
    let a = finds_some fs p n (env_of p) p.line (λ knowing w o. o) (λ knowing w t. eval knowing w d (full_view c.args.full.now) t) (found_view c.value_of.result) c.value_of.new.left c.in-Some.value (sym c.get.ensures ∙ c.in-Some.is) c.value_of.ensures.finds in
    let same : q.frames ≡ m.frames = c.truncate.ensures ∙ taken_back m.frames p.frames n.frames frame.Give c.len-height.result c.len-height.ensures c.in_ok-push.ensures.ok a.0.frames in
    omega (arith, c.gives.ensures.nears m.turns q, ap frames_weight same)

pub returns-in-None-clause-nears : goal.returns-in-None-clause-nears
returns-in-None-clause-nears c =
    omega (arith, near_left c.args.self.now.turns (found_view c.value_of.result) c.value_of.new.left c.value_of.new.self _ (sym c.get.ensures ∙ c.in-None.is) c.value_of.ensures.nears, ap frames_weight c.in_ok-push.ensures.ok, pushed_weight c.args.self.now.frames frame.Give)

pub returns-in_err-push-clause-nears : goal.returns-in_err-push-clause-nears
returns-in_err-push-clause-nears c = err_exit _ _ _ _ _ c.from_residual.ensures.1
