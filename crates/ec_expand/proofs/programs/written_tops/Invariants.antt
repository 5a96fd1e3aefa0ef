use Rattle.std.proofs.Common.{◌≡◌, ◌++◌, drop, map}
use Rattle.ec_ctypes.specs.views.Units.{top_view}
use Rattle.ec_expansion_defs.specs.Statements as spec
use Rattle.ec_expand.specs.Blocks.{written_at}
use Rattle.ec_expand.proofs.programs.written_tops.Given as goal

abbrev pub invariant-loop-top : goal.invariant-loop-top
invariant-loop-top l =
    map top_view l.list ++ spec.written_tops (written_at l.blocks.typed.now l.blocks.bounds.now) (map top_view (drop l.top-index l.top-items))
    ≡ spec.written_tops (written_at l.blocks.typed.now l.blocks.bounds.now) (map top_view l.tops)
