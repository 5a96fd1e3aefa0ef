-- Step by step.
use Rattle.std.proofs.Common.{◌≡◌, ◌∙◌, ap, sym, rules, ◌+◌, drop}
use Rattle.std.specs.Int.{w64}
use mir.Val.{SFits}
use Rattle.std.proofs.lemmas.Int.{to_z-of_z}
use Rattle.std.specs.Prelude.{map}
use Rattle.ec_code.specs.declared.expression.Plain.{out-Plain, the_lemmas}
use Rattle.ec_code.specs.declared.expression.PlainStep.{the_lemmas as step_lemmas}
use Rattle.ec_code.specs.declared.step.Binary.TheVariants as binary
use Rattle.ec_code.specs.declared.step.Leaf.TheVariants as leaf
use Rattle.ec_code.specs.Trees.{leaf_view, two, walked}
use Rattle.ec_code.specs.Views.{plain_step_view, plain_view}
use Rattle.ec_meaning_defs.specs.evaluation.Evaluate.{eval}
use Rattle.ec_meaning_defs.specs.evaluation.Results.{value}
use Rattle.ec_memory_defs.specs.Memory.{number}
use Rattle.ec_meaning_defs.specs.resolved.Resolved as of
use Rattle.ec_values.specs.Words.{word_view}
use Rattle.ec_plain.specs.Answered.{answered, at, context}
use Rattle.ec_plain.specs.Steps.{followed, step_on, two_on}
use Rattle.ec_plain.specs.Outcomes.{outcome_view}
use Rattle.ec_plain.proofs.Walks.{answered_as, drop_item, followed_over, walk_leads}
use Rattle.ec_plain.proofs.whole.+evaluation.Goals as goal

pub walk-loop-step-init : goal.walk-loop-step-init
walk-loop-step-init t c = λ knowing w line first s.
    let e : plain_view c.args.expression.now ≡ walked (leaf_view (out-Plain c.args.expression.now).leaf) (map plain_step_view (out-Plain c.args.expression.now).steps) = search (rules, the_lemmas) in
    ap (λ x. eval knowing w (context line c.args.scope.now first) x (at s c.args.store.now)) e
    ∙ walk_leads knowing w (context line c.args.scope.now first) (leaf_view (out-Plain c.args.expression.now).leaf) (map plain_step_view (out-Plain c.args.expression.now).steps) (at s c.args.store.now)
    ∙ ap (λ xs. followed knowing w (context line c.args.scope.now first) (map plain_step_view xs) (eval knowing w (context line c.args.scope.now first) (leaf_view (out-Plain c.args.expression.now).leaf) (at s c.args.store.now))) (sym c.as_slice-steps.ensures)
    ∙ ap (followed knowing w (context line c.args.scope.now first) (map plain_step_view c.as_slice-steps.result.now)) (c.in-Ok.ensures knowing w line first s)

pub walk-returns-in-Err : goal.walk-returns-in-Err
walk-returns-in-Err t c = λ knowing w line first s.
    let e : plain_view c.args.expression.now ≡ walked (leaf_view (out-Plain c.args.expression.now).leaf) (map plain_step_view (out-Plain c.args.expression.now).steps) = search (rules, the_lemmas) in
    ap (λ x. eval knowing w (context line c.args.scope.now first) x (at s c.args.store.now)) e
    ∙ walk_leads knowing w (context line c.args.scope.now first) (leaf_view (out-Plain c.args.expression.now).leaf) (map plain_step_view (out-Plain c.args.expression.now).steps) (at s c.args.store.now)
    ∙ ap (followed knowing w (context line c.args.scope.now first) (map plain_step_view (out-Plain c.args.expression.now).steps)) (c.in-Err.ensures knowing w line first s)
    ∙ followed_over knowing w (context line c.args.scope.now first) (map plain_step_view (out-Plain c.args.expression.now).steps) _ _
    ∙ answered_as line _ _ _ (sym c.stopped.ensures)

pub walk-returns-in-Err-get : goal.walk-returns-in-Err-get
walk-returns-in-Err-get t c = λ knowing w line first s.
    c.loop-step.invariant knowing w line first s
    ∙ ap (λ xs. followed knowing w (context line c.args.scope.now first) (map plain_step_view xs) (value (word_view c.loop-step.value) (at s c.loop-step.store))) (drop_item c.as_slice-steps.result.now c.loop-step.step-index c.step-item.result c.loop-step-test.true c.step-item.is)
    ∙ ap (followed knowing w (context line c.args.scope.now first) (map plain_step_view (drop (c.loop-step.step-index + 1) c.as_slice-steps.result.now))) (c.take_step.ensures knowing w line first s ∙ answered_as line _ _ _ (sym c.get.ensures ∙ c.in-Err-get.is))
    ∙ followed_over knowing w (context line c.args.scope.now first) (map plain_step_view (drop (c.loop-step.step-index + 1) c.as_slice-steps.result.now)) _ _
    ∙ answered_as line _ _ _ (sym c.stopped-in-Err-get.ensures)

pub take_step-returns-in-WithInt : goal.take_step-returns-in-WithInt
take_step-returns-in-WithInt t c = λ knowing w line first s.
    let e : plain_step_view c.args.step.now ≡ two (binary.Operate c.in-WithInt.operation) (leaf_view (leaf.IntValue c.in-WithInt.slot)) = search (rules, step_lemmas) in
    ap (λ x. step_on knowing w (context line c.args.scope.now first) x (word_view c.args.value) (at s c.args.store.now)) e
    ∙ c.combine.ensures knowing w line first s

pub take_step-returns-in-WithLong : goal.take_step-returns-in-WithLong
take_step-returns-in-WithLong t c = λ knowing w line first s.
    let e : plain_step_view c.args.step.now ≡ two (binary.Operate c.in-WithLong.operation) (leaf_view (leaf.LongValue c.in-WithLong.slot)) = search (rules, step_lemmas) in
    ap (λ x. step_on knowing w (context line c.args.scope.now first) x (word_view c.args.value) (at s c.args.store.now)) e
    ∙ c.combine-in-WithLong.ensures knowing w line first s

pub take_step-returns-in-ChangeBy : goal.take_step-returns-in-ChangeBy
take_step-returns-in-ChangeBy t c = λ knowing w line first s.
    let f : SFits w64 c.in-ChangeBy.number = search rules in
    let e : plain_step_view c.args.step.now ≡ two (binary.Update c.in-ChangeBy.update) (of.constant (number c.in-ChangeBy.number)) = search (rules, step_lemmas) in
    let changed : two_on knowing w (context line c.args.scope.now first) (binary.Update c.in-ChangeBy.update) (of.constant (number c.in-ChangeBy.number)) (word_view c.args.value) (at s c.args.store.now) ≡ answered line (outcome_view c.change.result) (at s c.change.new.store) = simp to_z-of_z at (c.change.ensures knowing w (context line c.args.scope.now first) s) in
    ap (λ x. step_on knowing w (context line c.args.scope.now first) x (word_view c.args.value) (at s c.args.store.now)) e
    ∙ changed
