use Rattle.std.proofs.Common.{◌≡◌, [], drop, map}
use Rattle.ec_ctypes.specs.views.Units.{top_view}
use Rattle.ec_resolve_forms.specs.Seen.{from}
use Rattle.ec_resolving_defs.specs.Programs.{tops_rule}
use Rattle.ec_resolve.proofs.programs.tops_rule.Given as goal

abbrev pub invariant-loop-top : goal.invariant-loop-top
invariant-loop-top l = from (tops_rule [] (map top_view l.tops)) l.fn.resolver ≡ from (tops_rule [] (map top_view (drop l.top-index l.tops))) l.resolver
