use Rattle.std.proofs.Common.{◌≡◌, ◌≤◌, length, drop, option_map}
use Rattle.ec_ctypes.specs.views.Types.{ty_view}
use Rattle.ec_scopes.specs.Seen.{world_of}
use Rattle.ec_typing_defs.specs.Worlds.{is_complete}
use Rattle.ec_typing_defs.specs.Operands.{pointers, arrays, has_complete_elements}
use Rattle.ec_rules.proofs.declared.has_complete_elements.Given as goal

abbrev pub invariant-loop-left : goal.invariant-loop-left
invariant-loop-left l = record {
  within : l.left ≤ length l.lengths;
  known : l.element ≡ option_map (is_complete (world_of l.fn.checker)) (arrays (pointers l.fn.stars (ty_view l.fn.ty)) (drop l.left l.lengths));
  so_far : l.complete ≡ has_complete_elements (is_complete (world_of l.fn.checker)) (pointers l.fn.stars (ty_view l.fn.ty)) (drop l.left l.lengths);
}

abbrev pub decreases-loop-left : goal.decreases-loop-left
decreases-loop-left l = l.left
