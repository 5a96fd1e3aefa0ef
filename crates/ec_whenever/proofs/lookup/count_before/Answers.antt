use Rattle.std.proofs.Common.{◌+◌, ◌-◌, ◌/◌, ◌<◌, length, map, ap, sym, ◌∙◌, arith}
use Rattle.std.proofs.lemmas.List.{length-map}
use Rattle.ec_ctypes.specs.views.Checked.{mark_view}
use Rattle.ec_whenever.specs.Tables.{comes_before}
use Rattle.ec_whenever.proofs.Searching.{one_more_before, rest_behind, mapped_at}
use Rattle.ec_whenever.proofs.lookup.count_before.Goals as goal

pub loop-low-preserved-then-comes_before : goal.loop-low-preserved-then-comes_before
loop-low-preserved-then-comes_before c =
    let item = c.index-marks-middle.result in
    let inside : c.loop-low.low + (c.loop-low.high - c.loop-low.low) / 2 < length (map mark_view c.args.marks.now) = omega (arith, length-map c.args.marks.now mark_view) in
    record {
      rise = omega arith;
      most = c.loop-low.invariant.most;
      before = one_more_before c.args.place c.args.cond (c.loop-low.low + (c.loop-low.high - c.loop-low.low) / 2) (map mark_view c.args.marks.now) (mark_view item) inside c.requires
          (ap (comes_before c.args.place c.args.cond) (mapped_at mark_view c.args.marks.now (c.loop-low.low + (c.loop-low.high - c.loop-low.low) / 2) item ∙ ap mark_view (sym c.index-marks-middle.is)) ∙ sym c.comes_before.ensures ∙ c.if-comes_before.true);
      behind = c.loop-low.invariant.behind;
    }

pub loop-low-preserved : goal.loop-low-preserved
loop-low-preserved c =
    let item = c.index-marks-middle.result in
    let inside : c.loop-low.low + (c.loop-low.high - c.loop-low.low) / 2 < length (map mark_view c.args.marks.now) = omega (arith, length-map c.args.marks.now mark_view) in
    record {
      rise = omega arith;
      most = omega arith;
      before = c.loop-low.invariant.before;
      behind = rest_behind c.args.place c.args.cond (c.loop-low.low + (c.loop-low.high - c.loop-low.low) / 2) (map mark_view c.args.marks.now) (mark_view item) inside c.requires
          (ap (comes_before c.args.place c.args.cond) (mapped_at mark_view c.args.marks.now (c.loop-low.low + (c.loop-low.high - c.loop-low.low) / 2) item ∙ ap mark_view (sym c.index-marks-middle.is)) ∙ sym c.comes_before.ensures ∙ c.if-comes_before.false);
    }
