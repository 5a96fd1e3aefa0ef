use Rattle.std.proofs.Common.{◌≡◌, ◌++◌, drop, map}
use Rattle.ec_ctypes.specs.trees.Units.{decl_top}
use Rattle.ec_ctypes.specs.views.Exprs.{declarators_view}
use Rattle.ec_ctypes.specs.views.Units.{top_view}
use Rattle.ec_expansion_defs.specs.Declarations.{varchar_objects}
use Rattle.ec_expand_declarations.proofs.objects.push_varchar_tops.Given as goal

abbrev pub invariant-loop-item : goal.invariant-loop-item
invariant-loop-item l =
    map top_view l.list ++ map decl_top (varchar_objects l.line.0 (declarators_view (drop l.item-index l.items)))
    ≡ map top_view l.initial.list ++ map decl_top (varchar_objects l.line.0 (declarators_view l.items))
