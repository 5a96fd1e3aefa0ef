use Rattle.std.proofs.Common.{◌≡◌, ℕ, Option, IfOk, sym, subst}
use Rattle.ec_scopes.specs.Entries.{named_view, type_view}
use Rattle.ec_scopes.specs.Seen.{world_of}
use Rattle.ec_typing_defs.specs.Worlds.{shapes_in}
use Rattle.ec_resolve_forms.proofs.members_lemmas.Passing.{all_typed, some_untyped}
use Rattle.ec_resolve_forms.proofs.members.offsets.offset_among.Goals as goal

pub returns-then-are_typed : goal.returns-then-are_typed
returns-then-are_typed c =
    subst (λ (o : Option ℕ). IfOk c.offset_from.result (λ offset. offset ≡ o))
    (all_typed (shapes_in (world_of c.args.checker.now)) c.args.name.now (named_view type_view c.args.members.now) (sym c.if-are_typed.ensures)) c.offset_from.ensures

pub returns-else-are_typed : goal.returns-else-are_typed
returns-else-are_typed c =
    some_untyped (shapes_in (world_of c.args.checker.now)) c.args.name.now (named_view type_view c.args.members.now) (sym c.if-are_typed.ensures)
