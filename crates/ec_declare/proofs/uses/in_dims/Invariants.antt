use Rattle.std.proofs.Common.{◌≡◌, drop, map}
use Rattle.ec_ctypes.specs.views.Exprs.{dims_view}
use Rattle.ec_host_defs.specs.sections.Uses.{in_dims, ◌&◌}
use Rattle.ec_declare.specs.Seen.{uses_view}
use Rattle.ec_declare.proofs.uses.in_dims.Given as goal

abbrev pub invariant-loop-dim : goal.invariant-loop-dim
invariant-loop-dim l = (uses_view l.uses & in_dims (dims_view (drop l.dim-index l.dims))) ≡ in_dims (dims_view l.dims)
