use Rattle.std.proofs.Common.{◌≡◌, drop}
use Rattle.ec_ctypes.specs.views.Exprs.{inits_view}
use Rattle.ec_write_parts.specs.Structs.{any_init_has_struct}
use Rattle.ec_write_parts.proofs.structs.+initializers.Given as goal

abbrev pub invariant-any_init_has_struct-loop-init : goal.invariant-any_init_has_struct-loop-init
invariant-any_init_has_struct-loop-init l = any_init_has_struct (inits_view (drop l.init-index l.inits)) ≡ any_init_has_struct (inits_view l.inits)
