use Rattle.std.proofs.Common.{◌≡◌, drop}
use Rattle.ec_ctypes.specs.views.Exprs.{dims_view}
use Rattle.ec_write_parts.specs.Structs.{any_dim_has_struct}
use Rattle.ec_write_parts.proofs.structs.any_length_has_struct.Given as goal

abbrev pub invariant-loop-length : goal.invariant-loop-length
invariant-loop-length l = any_dim_has_struct (dims_view (drop l.length-index l.lengths)) ≡ any_dim_has_struct (dims_view l.lengths)
