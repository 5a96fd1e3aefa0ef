use Rattle.std.proofs.Common.{◌≡◌, drop, map}
use Rattle.ec_ctypes.specs.views.Units.{top_view}
use Rattle.ec_typing_defs.specs.Programs.{has_main}
use Rattle.ec_check.proofs.defined.has_main.Given as goal

abbrev pub invariant-loop-top : goal.invariant-loop-top
invariant-loop-top l = has_main (map top_view (drop l.top-index l.tops)) ≡ has_main (map top_view l.tops)
