use Rattle.std.proofs.Common.{◌≡◌, ◌-◌, ◌≤◌, length, drop, Option, Some}
use Rattle.ec_ctypes.specs.declared.types.sizes.Shape.{Shape}
use Rattle.ec_ctypes.specs.Layout.{no_members}
use Rattle.ec_scopes.specs.Entries.{named_view, type_view}
use Rattle.ec_scopes.specs.Measures.{measured, IsSmallMeasure}
use Rattle.ec_scopes.specs.Structs.{infos, shapes_of}
use Rattle.ec_scopes.proofs.Sizes.{walked}
use Rattle.ec_scopes.proofs.structs.StructTable.struct_measure.Given as goal

abbrev pub invariant-loop-i : goal.invariant-loop-i
invariant-loop-i l = record {
  within : l.i ≤ length l.members;
  small : IsSmallMeasure l.all;
  rest : (so_far : Option Shape) × (l.all ≡ measured so_far)
      × (walked (shapes_of (infos l.self.0 l.self.1)) so_far (named_view type_view (drop l.i l.members)) ≡ walked (shapes_of (infos l.self.0 l.self.1)) (Some no_members) (named_view type_view l.members));
}

abbrev pub decreases-loop-i : goal.decreases-loop-i
decreases-loop-i l = length l.members - l.i
