use Rattle.std.proofs.Common.{◌∙◌, sym, arith}
use Rattle.ec_marks.specs.Steps.{one, two}
use Rattle.ec_marks.specs.Views.{place_view, step_view}
use Rattle.ec_marks.proofs.Marked.{one_less, taken_fits, behind_mark, behind_one, behind_two}
use Rattle.ec_marks.proofs.marks.with_marks.Goals as goal

pub loop-rest-preserved-in-Mark : goal.loop-rest-preserved-in-Mark
loop-rest-preserved-in-Mark c =
    let e = (λ j. step_view (sym c.in-Mark.is j)) ∙ c.step_from.ensures in
    let l = one_less c.loop-rest.rest.now c.behind_first-more.result.now c.in-len1-up.len_at_least c.behind_first-more.ensures in
    record {
      goes_on = behind_mark _ _ (place_view c.loop-rest.place) c.loop-rest.marks c.loop-rest.rest.now c.behind_first-more.result.now _ c.loop-rest.invariant.goes_on c.in-len1-up.len_at_least c.behind_first-more.ensures e c.in_ok-push_parameter-in-Mark.ensures;
      counted = omega (arith, l);
      deep = omega (arith, l);
    }

pub loop-rest-preserved-in-One : goal.loop-rest-preserved-in-One
loop-rest-preserved-in-One c =
    let e = (λ j. step_view (sym c.in-One.is j)) ∙ c.step_from.ensures in
    let f = taken_fits _ _ (place_view c.loop-rest.place) c.loop-rest.marks c.loop-rest.rest.now c.behind_first-more.result.now (one (place_view c.in-One.behind)) c.loop-rest.invariant.goes_on c.in-len1-up.len_at_least c.behind_first-more.ensures e in
    let l = one_less c.loop-rest.rest.now c.behind_first-more.result.now c.in-len1-up.len_at_least c.behind_first-more.ensures in
    record {
      goes_on = behind_one _ _ (place_view c.loop-rest.place) c.loop-rest.marks (place_view c.in-One.behind) c.loop-rest.rest.now c.behind_first-more.result.now _ c.loop-rest.invariant.goes_on c.in-len1-up.len_at_least c.behind_first-more.ensures e c.in_ok-push-in-One.ensures.ok;
      counted = omega (arith, l);
      deep = omega (arith, l, f);
    }

pub loop-rest-preserved : goal.loop-rest-preserved
loop-rest-preserved c =
    let e = (λ j. step_view (sym c.in-Two.is j)) ∙ c.step_from.ensures in
    let f = taken_fits _ _ (place_view c.loop-rest.place) c.loop-rest.marks c.loop-rest.rest.now c.behind_first-more.result.now (two c.in-Two.next (place_view c.in-Two.behind)) c.loop-rest.invariant.goes_on c.in-len1-up.len_at_least c.behind_first-more.ensures e in
    let l = one_less c.loop-rest.rest.now c.behind_first-more.result.now c.in-len1-up.len_at_least c.behind_first-more.ensures in
    let l2 = one_less c.behind_first-more.result.now c.behind_first-rest.result.now f.1 c.behind_first-rest.ensures in
    record {
      goes_on = behind_two _ _ (place_view c.loop-rest.place) c.loop-rest.marks (place_view c.in-Two.behind) c.in-Two.next c.loop-rest.rest.now c.behind_first-more.result.now c.behind_first-rest.result.now _ _ c.loop-rest.invariant.goes_on c.in-len1-up.len_at_least c.behind_first-more.ensures e c.in_ok-push-in-Two.ensures.ok c.in_ok-push-in-Two-2.ensures.ok c.behind_first-rest.ensures;
      counted = omega (arith, l, l2);
      deep = omega (arith, l, l2, f.0, f.1);
    }
