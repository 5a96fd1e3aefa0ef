use Rattle.std.proofs.Common.{◌≡◌, map, take}
use Rattle.ec_ctypes.specs.views.Types.{member_view}
use Rattle.ec_scopes.specs.Entries.{type_view, named_view}
use Rattle.ec_check.specs.Members.{plain_member}
use Rattle.ec_check.proofs.structs.listed_members.Given as goal

abbrev pub invariant-loop-i : goal.invariant-loop-i
invariant-loop-i l = map member_view l.all ≡ map plain_member (take l.i (named_view type_view l.members))
