use Rattle.std.proofs.Common.{◌≡◌, ◌≤◌, length, drop}
use Rattle.ec_ctypes.specs.views.Types.{ty_view}
use Rattle.ec_scopes.specs.Entries.{type_view}
use Rattle.ec_typing_defs.specs.Operands.{arrays}
use Rattle.ec_rules.proofs.declared.arrays.Given as goal

abbrev pub invariant-loop-left : goal.invariant-loop-left
invariant-loop-left l = record {
  within : l.left ≤ length l.lengths;
  inner : type_view l.made ≡ arrays (ty_view l.fn.ty) (drop l.left l.lengths);
}

abbrev pub decreases-loop-left : goal.decreases-loop-left
decreases-loop-left l = l.left
