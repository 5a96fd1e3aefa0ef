use Rattle.std.proofs.Common.{◌≡◌, drop, is_some}
use Rattle.ec_scopes.specs.Entries.{named_view, type_view}
use Rattle.ec_typing_defs.specs.Expressions.{typed_members}
use Rattle.ec_resolve_forms.proofs.members.offsets.are_typed.Given as goal

abbrev pub invariant-loop-i : goal.invariant-loop-i
invariant-loop-i l = is_some (typed_members (drop l.i (named_view type_view l.members))) ≡ is_some (typed_members (named_view type_view l.members))
