use Rattle.std.proofs.Common.{◌≡◌, drop, map}
use Rattle.ec_ctypes.specs.views.Units.{param_view}
use Rattle.ec_host_defs.specs.sections.Uses.{in_params, ◌&◌}
use Rattle.ec_declare.specs.Seen.{uses_view}
use Rattle.ec_declare.proofs.uses.in_params.Given as goal

abbrev pub invariant-loop-param : goal.invariant-loop-param
invariant-loop-param l = (uses_view l.uses & in_params (map param_view (drop l.param-index l.params))) ≡ in_params (map param_view l.params)
