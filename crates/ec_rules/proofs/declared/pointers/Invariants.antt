use Rattle.std.proofs.Common.{◌≡◌}
use Rattle.ec_ctypes.specs.views.Types.{ty_view}
use Rattle.ec_typing_defs.specs.Operands.{pointers}
use Rattle.ec_rules.proofs.declared.pointers.Given as goal

abbrev pub invariant-loop-left : goal.invariant-loop-left
invariant-loop-left l = pointers l.left (ty_view l.made) ≡ pointers l.fn.stars (ty_view l.fn.ty)

abbrev pub decreases-loop-left : goal.decreases-loop-left
decreases-loop-left l = l.left
