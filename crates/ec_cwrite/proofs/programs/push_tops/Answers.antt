use Rattle.std.proofs.Common.{refl, ◌∙◌}
use Rattle.std.specs.Prelude.{map}
use Rattle.ec_ctypes.specs.views.Units.{top_view}
use Rattle.ec_writing_defs.specs.Programs.{top_chunks, tops_chunks}
use Rattle.ec_cwrite.proofs.Lists.{drop_item, each_kept}
use Rattle.ec_cwrite.proofs.programs.push_tops.Goals as goal

pub loop-top-preserved : goal.loop-top-preserved
loop-top-preserved c =
    each_kept (λ x. top_chunks (top_view x)) (λ xs. tops_chunks (map top_view xs)) (λ x xs. refl) c.loop-top.top-index c.args.tops.now c.top-item.result
    (drop_item c.args.tops.now c.loop-top.top-index c.top-item.result c.loop-top-test.true c.top-item.is) c.in_ok-push_top.ensures ∙ c.loop-top.invariant
