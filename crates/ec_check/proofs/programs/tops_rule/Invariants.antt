use Rattle.std.proofs.Common.{drop, map}
use Rattle.ec_ctypes.specs.views.Embedded.{emb_view}
use Rattle.ec_ctypes.specs.views.Units.{top_view}
use Rattle.ec_scopes.specs.Seen.{world_of, notes_of}
use Rattle.ec_scopes.proofs.Steps.{Goes}
use Rattle.ec_typing_defs.specs.Programs.{tops_rule}
use Rattle.ec_check.proofs.programs.tops_rule.Given as goal

abbrev pub invariant-loop-top : goal.invariant-loop-top
invariant-loop-top l =
    Goes (tops_rule (map emb_view l.embedded) (map top_view l.tops) (world_of l.fn.checker)) (notes_of l.fn.checker)
    (tops_rule (map emb_view l.embedded) (map top_view (drop l.top-index l.tops)) (world_of l.checker)) (notes_of l.checker) (λ u. u)
