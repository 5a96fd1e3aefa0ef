-- The member of the whole is the one of the members that are left, behind those before them, and they end within the limit.
use Rattle.std.proofs.Common.{◌≡◌, map, drop, IsSome}
use Rattle.ec_ctypes.specs.Layout.{no_members, with_members, member_behind, shapes_of, limited, IsSmall}
use Rattle.ec_ctypes.specs.views.Types.{member_view, structs_view}
use Rattle.ec_ctypes.proofs.types.sizes.find_member.Given as goal

abbrev pub invariant-loop-title : goal.invariant-loop-title
invariant-loop-title l = record {
  small : IsSmall l.before;
  fits : IsSome (limited (with_members (shapes_of (structs_view l.structs)) l.before (map member_view (drop l.title-index l.members))));
  whole : member_behind (shapes_of (structs_view l.structs)) no_members l.name (map member_view l.members)
      ≡ member_behind (shapes_of (structs_view l.structs)) l.before l.name (map member_view (drop l.title-index l.members));
}
