use Rattle.std.proofs.Common.{◌∙◌, ap, arith, map, refl, subst, sym, true, false, None, ◌+◌, ◌≤◌}
use Rattle.ec_code.specs.Views.{expression_view, full_step_view, plain_view}
use Rattle.ec_meaning_defs.specs.evaluation.Evaluate.{World, Step as Knowing, eval}
use Rattle.ec_meaning_defs.specs.evaluation.Results.{Res, on_value}
use Rattle.ec_meaning_defs.specs.evaluation.State.{State}
use Rattle.ec_meaning_defs.specs.resolved.Operations.{is_true}
use Rattle.ec_meaning_defs.specs.resolved.Resolved.{choice}
use Rattle.ec_plain.proofs.Walks.{followed_over}
use Rattle.ec_values.specs.Words.{word_view}
use Rattle.ec_machine.specs.Found.{found_view}
use Rattle.ec_machine.specs.Frames.{behind_by, here}
use Rattle.ec_machine.specs.Goes.{at, env_of, tasks}
use Rattle.ec_machine.specs.Weights.{expression_weight, frames_weight, remaining, steps_weight}
use Rattle.ec_machine.proofs.Evaluating.{chosen_leads, to_Plain}
use Rattle.ec_machine.proofs.Finding.{alone_none, alone_some, finds_at, finds_from, finds_left, finds_stop, leaves_as, near_none, near_stop}
use Rattle.ec_machine.proofs.Weighing.{chosen_weight}
use Rattle.ec_machine.proofs.Parts.{stops_through}
use Rattle.ec_machine.proofs.Turns.{stops_by}
use Rattle.ec_machine.proofs.machine.Machine.choice.Goals as goal

pub returns-in-Some-clause-finds : goal.returns-in-Some-clause-finds
returns-in-Some-clause-finds c = λ fs.
    let m = c.args.self.now in
    let n = c.at_first.new.self in
    let new = c.operand.new.self in
    let d = here (env_of m) m.line in
    let a = alone_some m n (λ knowing w t. eval knowing w d (plain_view c.in-Plain.plain) t) (found_view c.at_first.result) c.at_first.new.left c.in-Some.value (sym c.get.ensures ∙ c.in-Some.is) c.at_first.ensures.finds in
    let part : Knowing → World → State → Res = λ knowing w t. eval knowing w d (choice (expression_view c.args.test.now) (expression_view c.args.first.now) (expression_view c.args.second.now)) t in
    let chosen : Knowing → World → State → Res = λ knowing w t. eval knowing w (here (env_of n) n.line) (expression_view c.chosen.result.now) t in
    finds_from fs m n new (env_of m) m.line (behind_by d c.args.steps.now) part chosen (found_view c.operand.result) c.operand.new.left a.0.frames (omega (arith, c.at_first.ensures.turns))
    (λ knowing fits k s l. let w = tasks knowing fs k in
    ap (λ o. on_value o (λ v u. elim (is_true v) [ true ↦ eval knowing w d (expression_view c.args.first.now) u | false ↦ eval knowing w d (expression_view c.args.second.now) u ])) (to_Plain knowing w d (at s m) c.args.test.now c.in-Plain.plain c.in-Plain.is ∙ a.1 knowing w s)
    ∙ chosen_leads knowing w d (at s n) (is_true (word_view c.in-Some.value)) c.args.first.now c.args.second.now c.chosen.result.now c.chosen.ensures
    ∙ (λ i. eval knowing w (here (sym a.0.env i) (sym a.0.same_line i)) (expression_view c.chosen.result.now) (at s n)))
    (finds_at fs n new (env_of n) (env_of m) n.line m.line c.args.steps.now chosen (found_view c.operand.result) c.operand.new.left a.0.env a.0.same_line (c.operand.ensures.finds fs))

pub returns-in-None-clause-finds : goal.returns-in-None-clause-finds
returns-in-None-clause-finds c = λ fs.
    let m = c.args.self.now in
    let n = c.at_first.new.self in
    let d = here (env_of m) m.line in
    let a = alone_none m n (λ knowing w t. eval knowing w d (plain_view c.in-Plain.plain) t) (found_view c.at_first.result) c.at_first.new.left (sym c.get.ensures ∙ c.in-None.is) c.at_first.ensures.finds in
    finds_stop fs m n (env_of m) m.line (behind_by d c.args.steps.now) (λ knowing w t. eval knowing w d (choice (expression_view c.args.test.now) (expression_view c.args.first.now) (expression_view c.args.second.now)) t) None c.at_first.new.left a.0
    (λ knowing w e s. followed_over knowing w d (map full_step_view c.args.steps.now) e s) refl a.1.0
    (λ knowing fits k s l. let w = tasks knowing fs k in
    let f : Res → Res = λ o. on_value o (λ v u. elim (is_true v) [ true ↦ eval knowing w d (expression_view c.args.first.now) u | false ↦ eval knowing w d (expression_view c.args.second.now) u ]) in
    stops_by a.0 (at s n) _ _ (ap f (to_Plain knowing w d (at s m) c.args.test.now c.in-Plain.plain c.in-Plain.is))
    (stops_through f (λ e t. refl) a.0 (at s n) (eval knowing w d (plain_view c.in-Plain.plain) (at s m)) (a.1.1 knowing w s)))

pub returns-in-Full-clause-finds : goal.returns-in-Full-clause-finds
returns-in-Full-clause-finds c = λ fs.
    let m = c.args.self.now in
    let d = here (env_of m) m.line in
    finds_left fs m c.ask_first.new.self (env_of m) m.line (behind_by d c.args.steps.now) (λ knowing w t. eval knowing w d (choice (expression_view c.args.test.now) (expression_view c.args.first.now) (expression_view c.args.second.now)) t) (found_view c.waits.result) c.waits.new.left c.ask_first.result c.waits.ensures.none c.waits.ensures.left (c.ask_first.ensures.goes fs)

pub returns-in-Some-clause-nears : goal.returns-in-Some-clause-nears
returns-in-Some-clause-nears c =
    let m = c.args.self.now in
    let n = c.at_first.new.self in
    let a = alone_some m n (λ knowing w t. eval knowing w (here (env_of m) m.line) (plain_view c.in-Plain.plain) t) (found_view c.at_first.result) c.at_first.new.left c.in-Some.value (sym c.get.ensures ∙ c.in-Some.is) c.at_first.ensures.finds in
    leaves_as m.turns n.turns _ _ (found_view c.operand.result) c.operand.new.left c.operand.new.self (omega (arith, c.at_first.ensures.turns))
    (omega (arith, ap frames_weight a.0.frames, chosen_weight (is_true (word_view c.in-Some.value)) c.args.first.now c.args.second.now c.chosen.result.now c.chosen.ensures)) c.operand.ensures.nears

pub returns-in-None-clause-nears : goal.returns-in-None-clause-nears
returns-in-None-clause-nears c =
    let m = c.args.self.now in
    let n = c.at_first.new.self in
    let a = alone_none m n (λ knowing w t. eval knowing w (here (env_of m) m.line) (plain_view c.in-Plain.plain) t) (found_view c.at_first.result) c.at_first.new.left (sym c.get.ensures ∙ c.in-None.is) c.at_first.ensures.finds in
    near_stop m.turns None c.at_first.new.left n _ a.0 refl a.1.0

pub returns-in-Full-clause-nears : goal.returns-in-Full-clause-nears
returns-in-Full-clause-nears c =
    let m = c.args.self.now in
    let n = 3 + frames_weight m.frames + expression_weight c.args.test.now + expression_weight c.args.first.now + expression_weight c.args.second.now + steps_weight c.args.steps.now in
    near_none m.turns (found_view c.waits.result) c.waits.new.left c.ask_first.new.self n c.waits.ensures.none
    (subst (λ r. remaining m.turns r c.ask_first.new.self ≤ n) (sym c.waits.ensures.left) (omega (arith, c.ask_first.ensures.nears)))
