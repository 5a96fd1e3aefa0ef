-- Byte by byte.
use Rattle.std.proofs.Common.{◌≡◌, ◌∙◌, ap, rules, arith, Ok, true}
use Rattle.std.specs.Int.{w64}
use Rattle.std.proofs.lemmas.Bool.Decides.{nat_tests}
use Rattle.std.proofs.lemmas.Int.{to_z-of_z}
use Rattle.std.proofs.lemmas.Result.{err_from_is_err_and}
use mir.Val.{SFits}
use Rattle.ec_meaning_defs.specs.functions.Strings.{compared, reads_from}
use Rattle.ec_stdlib.proofs.SingleReads.{differing, ending, first_traps, going, read_err, read_ok, reads_some, second_traps}
use Rattle.ec_stdlib.proofs.compare.compare.Goals as goal
use Rattle.ec_stdlib.proofs.compare.compare.Goals.{else-texts-via-then-texts+else-left-eq0, else-texts-via-else-texts}

pub loop-at-init : goal.loop-at-init
loop-at-init c = record {
  same = ap (λ k. compared c.args.texts k (reads_from c.args.store.now c.args.first.0) (reads_from c.args.store.now c.args.second.0)) (omega arith);
  first_left = reads_some c.args.store.now c.args.first.0;
  second_left = reads_some c.args.store.now c.args.second.0;
}

pub returns-in_err-left : goal.returns-in_err-left
returns-in_err-left c =
    let p = err_from_is_err_and c.from_residual.result c.from_residual.ensures.1 in
    let i = c.loop-at.invariant in
    rw (p.1, p.2) (first_traps _ _ _ _ _ (omega (arith, c.loop-at-test.true)) (read_err c.args.store.now c.args.first.0 c.loop-at.at _ i.first_left c.in_err-left.ensures) ∙ i.same)

pub returns-in_err-right : goal.returns-in_err-right
returns-in_err-right c =
    let p = err_from_is_err_and c.from_residual-in_err-right.result c.from_residual-in_err-right.ensures.1 in
    let i = c.loop-at.invariant in
    let left = read_ok c.args.store.now c.args.first.0 c.loop-at.at _ i.first_left c.in_ok-left.ensures in
    rw (p.1, p.2) (second_traps _ _ _ _ _ _ _ (omega (arith, c.loop-at-test.true)) left.here (read_err c.args.store.now c.args.second.0 c.loop-at.at _ i.second_left c.in_err-right.ensures) ∙ i.same)

pub returns-then-left-right : goal.returns-then-left-right
returns-then-left-right c =
    let i = c.loop-at.invariant in
    let left = read_ok c.args.store.now c.args.first.0 c.loop-at.at _ i.first_left c.in_ok-left.ensures in
    let right = read_ok c.args.store.now c.args.second.0 c.loop-at.at _ i.second_left c.in_ok-right.ensures in
    let f : SFits w64 c.order.result = search rules in
    ap Ok (to_z-of_z w64 c.order.result f) ∙ ap Ok c.order.ensures
    ∙ differing _ _ _ _ _ _ _ _ (omega (arith, c.loop-at-test.true)) left.here right.here (grind (arith, nat_tests, c.if-left-right.true)) ∙ i.same

pub returns-then-left-eq0 : goal.returns-then-left-eq0
returns-then-left-eq0 c =
    let i = c.loop-at.invariant in
    let left = read_ok c.args.store.now c.args.first.0 c.loop-at.at _ i.first_left c.in_ok-left.ensures in
    let right = read_ok c.args.store.now c.args.second.0 c.loop-at.at _ i.second_left c.in_ok-right.ensures in
    ending _ _ _ _ _ _ _ _ (omega (arith, c.loop-at-test.true)) left.here right.here (grind (arith, nat_tests, c.if-left-right.false)) c.if-texts.true c.if-left-eq0.true ∙ i.same

pub loop-at-preserved : goal.loop-at-preserved
loop-at-preserved c =
    let i = c.loop-at.invariant in
    let left = read_ok c.args.store.now c.args.first.0 c.loop-at.at _ i.first_left c.in_ok-left.ensures in
    let right = read_ok c.args.store.now c.args.second.0 c.loop-at.at _ i.second_left c.in_ok-right.ensures in
    let on : c.args.texts ≡ true → c.in_ok-left.left ≡ 0 → ⊥ = elim c.else-texts.branch [
      | else-texts-via-then-texts+else-left-eq0 w ↦ λ t z. absurd (omega (arith, w.if-left-eq0.false, z))
      | else-texts-via-else-texts w ↦ λ t z. let f = w.if-texts.false in cc
    ] in
    record {
      same = going c.args.texts c.args.limit c.loop-at.at _ _ _ _ (omega (arith, c.loop-at-test.true)) left right (grind (arith, nat_tests, c.if-left-right.false)) on ∙ i.same;
      first_left = omega (arith, left.more);
      second_left = omega (arith, right.more);
    }
