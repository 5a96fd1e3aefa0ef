use Rattle.std.proofs.Common.{◌≡◌, drop}
use Rattle.ec_ctypes.specs.views.Exprs.{exprs_view}
use Rattle.ec_write_parts.specs.Structs.{any_has_struct}
use Rattle.ec_write_parts.proofs.structs.+structs.Given as goal

abbrev pub invariant-any_has_struct-loop-expr : goal.invariant-any_has_struct-loop-expr
invariant-any_has_struct-loop-expr l = any_has_struct (exprs_view (drop l.expr-index l.exprs)) ≡ any_has_struct (exprs_view l.exprs)
