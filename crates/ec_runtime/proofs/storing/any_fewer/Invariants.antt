use Rattle.std.proofs.Common.{◌≡◌, drop}
use Rattle.ec_call_defs.specs.Storing.{any_fewer}
use Rattle.ec_runtime.specs.Views.{hosts_view}
use Rattle.ec_runtime.proofs.storing.any_fewer.Given as goal

abbrev pub invariant-loop-host : goal.invariant-loop-host
invariant-loop-host l = any_fewer l.rows (hosts_view l.hosts) ≡ any_fewer l.rows (hosts_view (drop l.host-index l.hosts))
