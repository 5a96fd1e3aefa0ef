use Rattle.std.proofs.Common.{◌≡◌, ◌++◌, drop, map}
use Rattle.ec_ctypes.specs.views.Units.{param_view}
use Rattle.ec_expand.specs.Items.{param_of}
use Rattle.ec_expand.proofs.programs.written_params.Given as goal

abbrev pub invariant-loop-param : goal.invariant-loop-param
invariant-loop-param l = map param_view l.list ++ map (param_of l.line.0) (map param_view (drop l.param-index l.param-items)) ≡ map (param_of l.line.0) (map param_view l.params)
