-- Where the beginning and the steps lead.
use Rattle.std.proofs.Common.{◌≡◌, ◌∙◌, ap, sym, refl, rules, drop, length, take, ◌∷◌, ◌-◌}
use Rattle.std.specs.Int.{w64}
use mir.Val.{SFits, to_z, of_z}
use Rattle.std.specs.Prelude.{map}
use Rattle.std.proofs.lemmas.Int.{to_z-of_z}
use Rattle.std.proofs.lemmas.List.{drop_all}
use Rattle.ec_code.specs.Trees.{leaf_view, two}
use Rattle.ec_code.specs.Views.{plain_step_view}
use Rattle.ec_code.specs.declared.expression.PlainStep.{the_lemmas as step_lemmas}
use Rattle.ec_code.specs.declared.step.Binary.TheVariants as binary
use Rattle.ec_values.specs.declared.operation.Operation.TheVariants as operation
use Rattle.ec_bytes.specs.declared.scalar.address.Ptr.{Ptr}
use Rattle.ec_code.specs.declared.step.Leaf.TheVariants as leaf
use Rattle.ec_meaning_defs.specs.evaluation.Results.{value}
use Rattle.ec_memory_defs.specs.Memory.{address, number}
use Rattle.ec_plain.specs.Answered.{at, context}
use Rattle.ec_plain.specs.Steps.{followed}
use Rattle.ec_code.specs.declared.expression.Plain.{out-Plain}
use Rattle.ec_plain.proofs.Numbers.{front_is, load_leads, move_leads, number_leads, operated, pair_leads, place_leads, step_as}
use Rattle.ec_plain.proofs.number.+number.Goals as goal

pub follow-returns : goal.follow-returns
follow-returns t c = λ knowing w line first s.
    let f = c.ranges.begun in
    let begun : to_z w64 (of_z w64 c.args.begun) ≡ c.args.begun = search rules in
    ap (λ z. followed knowing w (context line c.args.scope.now first) (map plain_step_view c.args.steps.now) (value (number z) (at s c.args.store.now))) (sym begun)
    ∙ c.loop-step.invariant knowing w line first s
    ∙ ap (λ xs. followed knowing w (context line c.args.scope.now first) (map plain_step_view xs) (value (number (to_z w64 c.loop-step.value-bits)) (at s c.args.store.now))) (drop_all c.loop-step.step-index c.args.steps.now c.loop-step-test.false)

pub element-returns-in_ok-by-in-WithInt-PointerPlus-default : goal.element-returns-in_ok-by-in-WithInt-PointerPlus-default
element-returns-in_ok-by-in-WithInt-PointerPlus-default t c =
    let f : SFits w64 c.in_ok-by-in-WithInt-PointerPlus-default.by = search rules in
    let size = c.in-WithInt-PointerPlus-default.size in
    let index = leaf_view (leaf.IntValue c.in-WithInt-PointerPlus-default.slot) in
    let e : plain_step_view c.args.step.now ≡ two (binary.Operate (operation.PointerPlus size)) index = search (rules, step_lemmas) in
    step_as c.args.scope.now (λ (p : Ptr). address p.0) (plain_step_view c.args.step.now) (two (binary.Operate (operation.PointerPlus size)) index) (address c.args.first.0) c.args.store.now c.args.store.now c.moved.result e
    (move_leads c.args.scope.now size index c.args.first.0 c.in_ok-by-in-WithInt-PointerPlus-default.by c.args.store.now c.moved.result c.in_ok-by-in-WithInt-PointerPlus-default.ensures (simp to_z-of_z at c.moved.ensures))

pub placed-returns-in_ok-begun-in-len1-up-rest : goal.placed-returns-in_ok-begun-in-len1-up-rest
placed-returns-in_ok-begun-in-len1-up-rest t c =
    let f : SFits w64 c.in_ok-begun-in-len1-up-rest.begun = search rules in
    let xs = c.args.steps.now in
    let behind = take (length xs - 1) (drop 1 xs) in
    let rest = take (length behind - 1) (drop 1 behind) in
    pair_leads c.args.scope.now xs c.first-item.result c.second-item.result rest c.args.store.now c.args.place.0 c.in_ok-begun-in-len1-up-rest.begun c.follow-in-len1-up-rest.result
    (front_is xs c.first-item.result c.in-len1-up.len_at_least c.first-item.is ∙ ap (λ ys. c.first-item.result ∷ ys) (front_is behind c.second-item.result c.in-len1-up-rest.len_at_least c.second-item.is))
    c.in_ok-begun-in-len1-up-rest.ensures (simp to_z-of_z at c.follow-in-len1-up-rest.ensures)

pub advance-returns-in-Some : goal.advance-returns-in-Some
advance-returns-in-Some t c =
    let g = c.ranges.value in
    let f : SFits w64 c.in-Some.right.number = search rules in
    operated c.args.scope.now (plain_step_view c.args.step.now) c.in-Some.right.operation.now c.args.value c.in-Some.right.number c.args.store.now c.combined.result c.in-Some.ensures (simp to_z-of_z at c.combined.ensures)

pub number-returns-in-Some : goal.number-returns-in-Some
number-returns-in-Some t c =
    place_leads c.args.scope.now c.args.expression.now (out-Plain c.args.expression.now).leaf c.as_slice.result.now c.args.store.now c.in-Some.place.0 c.placed.result
    refl c.as_slice.ensures (c.in-Some.ensures c.args.store.now) c.placed.ensures

pub placed-returns-in_ok-begun-in-Some : goal.placed-returns-in_ok-begun-in-Some
placed-returns-in_ok-begun-in-Some t c =
    let f : SFits w64 c.in_ok-begun-in-Some.begun = search rules in
    let xs = c.args.steps.now in
    let rest = take (length xs - 1) (drop 1 xs) in
    load_leads c.args.scope.now xs rest c.in-Some.kind c.args.store.now c.args.place.0 c.in_ok-begun-in-Some.begun c.follow.result
    (ap (map plain_step_view) (front_is xs c.first-item.result c.in-len1-up.len_at_least c.first-item.is) ∙ ap (λ x. x ∷ map plain_step_view rest) c.in-Some.ensures)
    c.in_ok-begun-in-Some.ensures (simp to_z-of_z at c.follow.ensures)

pub number-returns-in_ok-begun-in-None : goal.number-returns-in_ok-begun-in-None
number-returns-in_ok-begun-in-None t c =
    let f : SFits w64 c.in_ok-begun-in-None.begun = search rules in
    number_leads c.args.scope.now c.args.expression.now c.as_slice-in-None.result.now c.args.store.now c.in_ok-begun-in-None.begun c.follow.result
    c.as_slice-in-None.ensures c.in_ok-begun-in-None.ensures (simp to_z-of_z at c.follow.ensures)
