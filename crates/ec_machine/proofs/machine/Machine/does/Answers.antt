use Rattle.std.proofs.Common.{◌∙◌, ap, arith, sym}
use Rattle.ec_code.specs.Views.{full_view}
use Rattle.ec_meaning_defs.specs.evaluation.Evaluate.{eval}
use Rattle.ec_meaning_defs.specs.evaluation.Results.{on_value}
use Rattle.ec_machine.specs.declared.frame.Frame.TheVariants as frame
use Rattle.ec_machine.specs.Found.{found_view}
use Rattle.ec_machine.specs.Frames.{here}
use Rattle.ec_machine.specs.Goes.{at, env_of, tasks}
use Rattle.ec_machine.specs.Weights.{frames_weight}
use Rattle.ec_machine.proofs.Finding.{finds_none, finds_some, near_left, taken_back}
use Rattle.ec_machine.proofs.Moves.{pushed, stands_by}
use Rattle.ec_machine.proofs.Weighing.{pushed_weight}
use Rattle.ec_machine.proofs.machine.Machine.does.Goals as goal

pub returns-in-Some-clause-does : goal.returns-in-Some-clause-does
returns-in-Some-clause-does c =
    let fs = c.args.functions.now in
    let m = c.args.self.now in
    let p = record m { frames = c.push.new.self } in
    let n = c.value_of.new.self in
    let d = here (env_of m) m.line in
    let a = finds_some fs p n (env_of p) p.line (λ knowing w o. o) (λ knowing w t. eval knowing w d (full_view c.args.full.now) t) (found_view c.value_of.result) c.value_of.new.left c.in-Some.field-0 (sym c.get.ensures ∙ c.in-Some.is) c.value_of.ensures.finds in (
      record {
        frames = c.truncate.ensures ∙ taken_back m.frames p.frames n.frames frame.Do c.len-height.result c.len-height.ensures c.in_ok-push.ensures.ok a.0.frames;
        env = a.0.env;
        same_line = a.0.same_line;
      },
      λ knowing fits k s go l. ap (λ o. on_value o (λ v u. go u)) (a.1 knowing fits k s l),
    )

pub returns-in-None-clause-does : goal.returns-in-None-clause-does
returns-in-None-clause-does c = λ knowing fits k s l.
    let fs = c.args.functions.now in
    let w = tasks knowing fs k in
    let m = c.args.self.now in
    let p = record m { frames = c.push.new.self } in
    let n = c.value_of.new.self in
    let d = here (env_of m) m.line in
    stands_by knowing w s n c.value_of.new.left _ _
    (pushed knowing w (env_of m) m.frames p.frames frame.Do (eval knowing w d (full_view c.args.full.now) (at s m)) c.in_ok-push.ensures.ok)
    (finds_none fs p n (env_of p) p.line (λ knowing w o. o) (λ knowing w t. eval knowing w d (full_view c.args.full.now) t) (found_view c.value_of.result) c.value_of.new.left (sym c.get.ensures ∙ c.in-None.is) c.value_of.ensures.finds knowing fits k s l)

pub returns-in-None-clause-nears : goal.returns-in-None-clause-nears
returns-in-None-clause-nears c =
    omega (arith, near_left c.args.self.now.turns (found_view c.value_of.result) c.value_of.new.left c.value_of.new.self _ (sym c.get.ensures ∙ c.in-None.is) c.value_of.ensures.nears, ap frames_weight c.in_ok-push.ensures.ok, pushed_weight c.args.self.now.frames frame.Do)
