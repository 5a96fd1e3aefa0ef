use Rattle.std.proofs.Common.{◌≡◌, ◌+◌, drop, map}
use Rattle.ec_ctypes.specs.views.Units.{top_view}
use Rattle.ec_resolving_defs.specs.Programs.{globals_in}
use Rattle.ec_resolve_parts.proofs.globals.globals_in.Given as goal

abbrev pub invariant-loop-top : goal.invariant-loop-top
invariant-loop-top l = l.count + globals_in (map top_view (drop l.top-index l.tops)) ≡ globals_in (map top_view l.tops)
