use Rattle.std.proofs.Common.{◌∙◌, ◌++◌, ◌∷◌, [], ap, sym}
use Rattle.ec_code.specs.Views.{plain_view}
use Rattle.ec_meaning_defs.specs.evaluation.Evaluate.{eval}
use Rattle.ec_meaning_defs.specs.evaluation.Results.{on_value}
use Rattle.ec_plain.specs.Outcomes.{outcome_view}
use Rattle.ec_machine.specs.Frames.{here, waiting}
use Rattle.ec_machine.specs.Goes.{at, env_of}
use Rattle.ec_machine.proofs.Parts.{values_rest, values_wait}
use Rattle.ec_machine.proofs.Quickly.{has_none, has_value, stops_value}
use Rattle.ec_machine.proofs.machine.Machine.keep.Goals as goal

pub returns-in_ok-push-in-Ok-clause-keeps : goal.returns-in_ok-push-in-Ok-clause-keeps
returns-in_ok-push-in-Ok-clause-keeps c =
    let m = c.args.self.now in
    let n = record m { store = c.evaluate_argument.new.store } in (
      values_rest m c.args.count c.in-Some.more c.in-Ok.value c.push.new.self c.in_ok-push-in-Ok.ensures.ok c.in-Some.ensures.1,
      λ knowing w s go. ap (λ o. on_value o (λ v u. go (waiting c.args.count (env_of m) ++ v ∷ []) u))
          (has_value c.args.argument.now c.objects.result.now m.scope m.store n.store (outcome_view c.evaluate_argument.result) c.objects.ensures c.evaluate_argument.ensures knowing w m.line.0 m.first (at s m) c.in-Ok.value (sym c.get.ensures ∙ c.in-Ok.is))
          ∙ ap (λ vs. go vs (at s n)) (values_wait m c.args.count c.in-Some.more c.in-Ok.value c.push.new.self c.in_ok-push-in-Ok.ensures.ok c.in-Some.ensures.1),
    )

pub returns-in-Err-clause-keeps : goal.returns-in-Err-clause-keeps
returns-in-Err-clause-keeps c = λ knowing w s go.
    let m = c.args.self.now in
    let n = record m { store = c.evaluate_argument.new.store } in
    stops_value c.stopped.result (at s n) (eval knowing w (here (env_of m) m.line) (plain_view c.args.argument.now) (at s m)) go
    (has_none c.args.argument.now c.objects.result.now m.scope m.store n.store (outcome_view c.evaluate_argument.result) c.objects.ensures c.evaluate_argument.ensures knowing w m.line.0 m.first (at s m) c.in-Err.why c.stopped.result (sym c.get.ensures ∙ c.in-Err.is) c.stopped.ensures)
