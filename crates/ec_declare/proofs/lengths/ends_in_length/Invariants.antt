use Rattle.std.proofs.Common.{◌≡◌, length}
use Rattle.ec_ctypes.specs.views.Exprs.{dims_view}
use Rattle.ec_host_defs.specs.sections.Lengths.{ends_in_length}
use Rattle.ec_declare.proofs.lengths.ends_in_length.Given as goal

abbrev pub invariant-loop-left : goal.invariant-loop-left
invariant-loop-left l = ends_in_length (dims_view l.left) ≡ ends_in_length (dims_view l.dims)

abbrev pub decreases-loop-left : goal.decreases-loop-left
decreases-loop-left l = length l.left
