use Rattle.std.proofs.Common.{◌≡◌, Some, IfSome, sym, subst}
use Rattle.ec_scopes.specs.Offsets.{offset_among}
use Rattle.ec_scopes.specs.Structs.{infos, shapes_of, members_at}
use Rattle.ec_scopes.proofs.Closings.{offset-kept}
use Rattle.ec_scopes.proofs.structs.StructTable.offset.Goals as goal

pub returns-in-Some : goal.returns-in-Some
returns-in-Some c =
    subst (λ v. IfSome c.offset.result (λ offset. offset_among (shapes_of (infos v.0 v.1)) c.args.name.now (members_at v.0 v.1 c.args.k) ≡ Some offset)) c.self.view_is
    (offset-kept c.self.inside.rows c.self.inside.closed c.args.k c.in-Some.row.now c.args.name.now c.offset.result c.self.invariant (sym c.in-Some.ensures) c.offset.ensures)
