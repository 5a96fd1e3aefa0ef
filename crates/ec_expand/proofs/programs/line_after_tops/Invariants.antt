use Rattle.std.proofs.Common.{◌≡◌, drop, map}
use Rattle.ec_ctypes.specs.views.Units.{top_view}
use Rattle.ec_expansion_defs.specs.Lines as lines
use Rattle.ec_expand.proofs.programs.line_after_tops.Given as goal

abbrev pub invariant-loop-top : goal.invariant-loop-top
invariant-loop-top l = lines.line_after_tops l.line (map top_view (drop l.top-index l.top-items)) ≡ lines.line_after_tops 3 (map top_view l.tops)
