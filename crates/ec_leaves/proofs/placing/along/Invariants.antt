use Rattle.std.proofs.Common.{◌≡◌, drop}
use Rattle.ec_ctypes.specs.views.Exprs.{expr_view}
use Rattle.ec_host_defs.specs.Places.{along}
use Rattle.ec_leaves.proofs.placing.along.Given as goal

abbrev pub invariant-loop-step : goal.invariant-loop-step
invariant-loop-step l = along (expr_view l.inner) (drop l.step-index l.step-items) ≡ along (expr_view l.initial.inner) l.path
