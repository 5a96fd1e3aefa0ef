use Rattle.std.proofs.Common.{refl, ◌∙◌}
use Rattle.ec_ctypes.specs.views.Exprs.{declarator_view, declarators_view}
use Rattle.ec_cwrite.proofs.Lists.{drop_item, each_kept}
use Rattle.ec_expansion_defs.specs.Declarations.{varchar_object, varchar_objects}
use Rattle.ec_write_parts.specs.Written.{line_chunks, lines_chunks}
use Rattle.ec_write_parts.proofs.declarations.put_varchars.Goals as goal

pub loop-item-preserved : goal.loop-item-preserved
loop-item-preserved c =
    each_kept (λ x. line_chunks c.args.line.0 (varchar_object c.args.line.0 (declarator_view x))) (λ xs. lines_chunks c.args.line.0 (varchar_objects c.args.line.0 (declarators_view xs))) (λ x xs. refl) c.loop-item.item-index c.args.items.now c.item-item.result
    (drop_item c.args.items.now c.loop-item.item-index c.item-item.result c.loop-item-test.true c.item-item.is) c.in_ok-put_varchar.ensures ∙ c.loop-item.invariant
