use Rattle.std.proofs.Common.{◌≡◌, [], drop, map}
use Rattle.ec_ctypes.specs.views.Units.{top_view}
use Rattle.ec_typing_defs.specs.Programs.{defined_in}
use Rattle.ec_resolve_parts.proofs.globals.defined_table.Given as goal

abbrev pub invariant-loop-top : goal.invariant-loop-top
invariant-loop-top l = defined_in (map top_view (drop l.top-index l.tops)) l.defined ≡ defined_in (map top_view l.tops) []
