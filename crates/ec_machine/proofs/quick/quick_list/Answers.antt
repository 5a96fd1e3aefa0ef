use Rattle.std.proofs.Common.{◌≡◌, ◌≤◌, ◌∙◌, ◌-◌, ◌∷◌, ap, arith, drop, length, refl, take}
use Rattle.ec_code.specs.Views.{statement_view, statements_view}
use Rattle.ec_meaning_defs.specs.evaluation.Execute.{run, run_all}
use Rattle.ec_meaning_defs.specs.evaluation.Results.{on_done}
use Rattle.ec_plain.specs.Answered.{at, context}
use Rattle.ec_machine.specs.Frames.{objects_of}
use Rattle.ec_machine.specs.Weights.{statement_weight}
use Rattle.ec_machine.proofs.Parts.{front_is, stops_through}
use Rattle.ec_machine.proofs.Quickly.{if_some, leaves_none, leaves_some, leaves_stops, stops_as}
use Rattle.ec_machine.proofs.Weighing.{front_weight}
use Rattle.ec_machine.proofs.quick.quick_list.Goals as goal

pub loop-left-init : goal.loop-left-init
loop-left-init c = record { same = λ knowing w first s. refl; lighter = omega arith }

pub loop-left-preserved : goal.loop-left-preserved
loop-left-preserved c = record {
  same = λ knowing w first s.
      let xs = c.loop-left.left.now in
      let x = c.first-item.result in
      let ys = take (length xs - 1) (drop 1 xs) in
      let e : xs ≡ x ∷ ys = front_is xs x c.in-len1-up.len_at_least c.first-item.is in
      let d = context c.args.line.now.0 (objects_of c.args.scope.now) first in
      c.loop-left.invariant.same knowing w first s
      ∙ ap (λ zs. run_all knowing w d (statements_view zs) (at s c.loop-left.store)) e
      ∙ ap (λ o. on_done o (λ u. run_all knowing w d (statements_view ys) u)) (leaves_none c.quick.result (run knowing w (context c.args.line.now.0 (objects_of c.args.scope.now) first) (statement_view x) (at s c.loop-left.store)) (λ y. run knowing w (context c.quick.new.line.0 (objects_of c.args.scope.now) first) (statement_view y) (at s c.quick.new.store)) (at s c.quick.new.store) (c.quick.ensures.leaves knowing w first s) (cc (c.in-Ok-None.is, c.in-Ok-None.field-0-is)));
  lighter = omega (arith, c.loop-left.invariant.lighter, front_weight c.loop-left.left.now c.first-item.result c.in-len1-up.len_at_least c.first-item.is);
}

pub returns-in-Ok-Some-clause-leaves : goal.returns-in-Ok-Some-clause-leaves
returns-in-Ok-Some-clause-leaves c = λ knowing w first s.
    let xs = c.loop-left.left.now in
    let x = c.first-item.result in
    let ys = take (length xs - 1) (drop 1 xs) in
    let e : xs ≡ x ∷ ys = front_is xs x c.in-len1-up.len_at_least c.first-item.is in
    let d = context c.args.line.now.0 (objects_of c.args.scope.now) first in
    c.loop-left.invariant.same knowing w first s
    ∙ ap (λ zs. run_all knowing w d (statements_view zs) (at s c.loop-left.store)) e
    ∙ ap (λ o. on_done o (λ u. run_all knowing w d (statements_view ys) u)) (leaves_some c.quick.result (run knowing w (context c.args.line.now.0 (objects_of c.args.scope.now) first) (statement_view x) (at s c.loop-left.store)) (λ y. run knowing w (context c.quick.new.line.0 (objects_of c.args.scope.now) first) (statement_view y) (at s c.quick.new.store)) (at s c.quick.new.store) (c.quick.ensures.leaves knowing w first s) c.in-Ok-Some.first (cc (c.in-Ok-Some.is, c.in-Ok-Some.field-0-is)))

pub returns-in-Err-clause-leaves : goal.returns-in-Err-clause-leaves
returns-in-Err-clause-leaves c = λ knowing w first s.
    let xs = c.loop-left.left.now in
    let x = c.first-item.result in
    let ys = take (length xs - 1) (drop 1 xs) in
    let e : xs ≡ x ∷ ys = front_is xs x c.in-len1-up.len_at_least c.first-item.is in
    let d = context c.args.line.now.0 (objects_of c.args.scope.now) first in
    stops_as c.in-Err.stop (at s c.quick.new.store) _ (on_done (run knowing w (context c.args.line.now.0 (objects_of c.args.scope.now) first) (statement_view x) (at s c.loop-left.store)) (λ u. run_all knowing w d (statements_view ys) u))
    (c.loop-left.invariant.same knowing w first s ∙ ap (λ zs. run_all knowing w d (statements_view zs) (at s c.loop-left.store)) e)
    (stops_through (λ o. on_done o (λ u. run_all knowing w d (statements_view ys) u)) (λ e u. refl) c.in-Err.stop (at s c.quick.new.store) (run knowing w (context c.args.line.now.0 (objects_of c.args.scope.now) first) (statement_view x) (at s c.loop-left.store))
    (leaves_stops c.quick.result (run knowing w (context c.args.line.now.0 (objects_of c.args.scope.now) first) (statement_view x) (at s c.loop-left.store)) (λ y. run knowing w (context c.quick.new.line.0 (objects_of c.args.scope.now) first) (statement_view y) (at s c.quick.new.store)) (at s c.quick.new.store) (c.quick.ensures.leaves knowing w first s) c.in-Err.stop c.in-Err.is))

pub returns-in-Ok-Some-clause-lighter : goal.returns-in-Ok-Some-clause-lighter
returns-in-Ok-Some-clause-lighter c =
    omega (arith, c.loop-left.invariant.lighter, front_weight c.loop-left.left.now c.first-item.result c.in-len1-up.len_at_least c.first-item.is, if_some c.quick.result c.in-Ok-Some.first (λ x. statement_weight x.now ≤ statement_weight c.first-item.result) (cc (c.in-Ok-Some.is, c.in-Ok-Some.field-0-is)) c.quick.ensures.lighter)
