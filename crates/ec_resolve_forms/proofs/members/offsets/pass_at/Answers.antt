use Rattle.std.proofs.Common.{◌≡◌, Option, IfOk, ap, subst}
use Rattle.ec_ctypes.specs.trees.Types.{TyData}
use Rattle.ec_language.specs.Letters.{Text}
use Rattle.ec_scopes.specs.Entries.{type_view}
use Rattle.ec_scopes.specs.Seen.{world_of}
use Rattle.ec_typing_defs.specs.Worlds.{shapes_in}
use Rattle.ec_resolve_forms.specs.members.Offsets.{passed_at}
use Rattle.ec_resolve_forms.proofs.members_lemmas.Passing.{member_read, none_read}
use Rattle.ec_resolve_forms.proofs.members.offsets.pass_at.Goals as goal

pub returns-in-None : goal.returns-in-None
returns-in-None c =
    ap (passed_at (shapes_in (world_of c.args.checker.now)) c.args.before c.args.name.now) (none_read type_view (λ e. e.0) c.args.members.now c.args.i c.in-None.ensures)

pub returns-in-None-value_at : goal.returns-in-None-value_at
returns-in-None-value_at c =
    ap (passed_at (shapes_in (world_of c.args.checker.now)) c.args.before c.args.name.now) (none_read type_view (λ e. e.1) c.args.members.now c.args.i c.in-None-value_at.ensures)

pub returns-in-Some-value_at : goal.returns-in-Some-value_at
returns-in-Some-value_at c =
    subst (λ (o : Option (Text × Option TyData)). IfOk c.pass.result (λ found. found ≡ passed_at (shapes_in (world_of c.args.checker.now)) c.args.before c.args.name.now o))
    (member_read type_view c.args.members.now c.args.i c.in-Some.title.now c.in-Some-value_at.ty.now c.in-Some.ensures c.in-Some-value_at.ensures) c.pass.ensures
