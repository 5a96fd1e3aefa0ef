-- The members so far, and then those that are left.
use Rattle.std.proofs.Common.{◌≡◌, map, drop}
use Rattle.ec_ctypes.specs.Layout.{no_members, with_members, shapes_of, IsSmall}
use Rattle.ec_ctypes.specs.views.Types.{member_view, structs_view}
use Rattle.ec_ctypes.proofs.types.sizes.members_shape.Given as goal

abbrev pub invariant-loop-ty : goal.invariant-loop-ty
invariant-loop-ty l = record {
  small : IsSmall l.all;
  whole : with_members (shapes_of (structs_view l.structs)) no_members (map member_view l.members)
      ≡ with_members (shapes_of (structs_view l.structs)) l.all (map member_view (drop l.ty-index l.members));
}
