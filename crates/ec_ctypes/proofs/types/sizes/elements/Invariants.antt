-- The whole is so many of what is left.
use Rattle.std.proofs.Common.{◌≡◌, ◌<◌, ◌≤◌, List, option_map}
use Rattle.ec_ctypes.specs.trees.Types.{StructData}
use Rattle.ec_ctypes.specs.views.Types.{ty_view}
use Rattle.ec_ctypes.specs.Layout.{repeated, shape_of}
use Rattle.ec_ctypes.proofs.types.sizes.elements.Given as goal

abbrev pub invariant-loop-element : goal.invariant-loop-element
invariant-loop-element l = record {
  positive : 0 < l.count;
  small : l.count ≤ 16777216;
  shape : (structs : List StructData) → shape_of structs (ty_view l.ty) ≡ option_map (repeated l.count) (shape_of structs (ty_view l.element));
}
