use Rattle.std.proofs.Common.{◌≡◌, drop}
use Rattle.ec_ctypes.specs.views.Exprs.{declarators_view}
use Rattle.ec_write_parts.specs.Structs.{any_declarator_has_struct}
use Rattle.ec_write_parts.proofs.structs.any_declarator_has_struct.Given as goal

abbrev pub invariant-loop-item : goal.invariant-loop-item
invariant-loop-item l = any_declarator_has_struct (declarators_view (drop l.item-index l.items)) ≡ any_declarator_has_struct (declarators_view l.items)
