use Rattle.std.proofs.Common.{◌≡◌, drop}
use Rattle.ec_ctypes.specs.Layout.{no_members}
use Rattle.ec_scopes.specs.Entries.{named_view, type_view}
use Rattle.ec_scopes.specs.Seen.{world_of}
use Rattle.ec_typing_defs.specs.Worlds.{shapes_in}
use Rattle.ec_resolve_forms.specs.members.Offsets.{offset_from}
use Rattle.ec_resolve_forms.proofs.members.offsets.offset_from.Given as goal

abbrev pub invariant-loop-i : goal.invariant-loop-i
invariant-loop-i l = offset_from (shapes_in (world_of l.checker)) l.before l.name (drop l.i (named_view type_view l.members)) ≡ offset_from (shapes_in (world_of l.checker)) no_members l.name (named_view type_view l.members)
