use Rattle.std.proofs.Common.{◌≡◌, ◌++◌, drop, map}
use Rattle.ec_ctypes.specs.views.Embedded.{host_view}
use Rattle.ec_typing_defs.specs.statement_parts.References.{of_all, of_host}
use Rattle.ec_embedded_rules.specs.parts.Views.{reference_view}
use Rattle.ec_embedded_rules.proofs.parts.gathering.add_hosts.Given as goal

abbrev pub invariant-loop-host : goal.invariant-loop-host
invariant-loop-host l =
    map reference_view l.all ++ of_all of_host (map host_view (drop l.host-index l.hosts))
    ≡ map reference_view l.initial.all ++ of_all of_host (map host_view l.hosts)
