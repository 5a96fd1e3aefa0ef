use Rattle.std.proofs.Common.{◌∙◌, Some, ap, sym, arith}
use Rattle.ec_scopes.specs.Entries.{named_view, type_view}
use Rattle.ec_scopes.specs.Structs.{members_view, listed_of}
use Rattle.ec_scopes.proofs.Starting.{row-kept}
use Rattle.ec_scopes.proofs.structs.StructRow.offset.Goals as goal

pub returns-in-Some : goal.returns-in-Some
returns-in-Some c =
    row-kept c.args.self.now c.args.name.now c.get-members.result.now c.in-Some.i c.copied.result
    (ap (λ m. listed_of (members_view m)) c.in-Listed.is ∙ ap (λ l. Some (named_view type_view l)) (sym c.get-members.ensures))
    (omega (arith, c.if-len.false, c.len.ensures, c.len-in-Listed.ensures))
    c.in-Some.ensures (c.copied.ensures ∙ c.get.ensures)
