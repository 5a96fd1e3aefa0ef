-- What the code holds, as plain data.
use Rattle.ec_ctypes.specs.views.Types.{ty_view}
use Rattle.ec_leaves.specs.declared.parts.Leaf.{Leaf}
use Rattle.ec_leaves.specs.declared.parts.Frame.{Frame}
use Rattle.ec_leaves.specs.declared.parts.Frame.TheVariants.{Single, Many}
use Rattle.ec_host_defs.specs.Leaves.{LeafData, Way, leaf_of_struct, leaf_of_structs}

abbrev pub leaf_view : Leaf → LeafData
leaf_view l = record {
  in_first = l.in_first;
  path = l.path;
  whole = ty_view l.whole;
  element = ty_view l.element;
  count = l.count;
  apart = ty_view l.apart;
}

-- the leaf at the end of a way, of one struct or of an array of structs
abbrev pub leaf_at : Frame → Way → LeafData
leaf_at Single w = leaf_of_struct w
leaf_at (Many k n) w = leaf_of_structs k n w
