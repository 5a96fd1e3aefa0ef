use Rattle.std.proofs.Common.{◌∙◌, ap, map, is_some}
use Rattle.ec_typing_defs.specs.Tables.{find, put}
use Rattle.ec_scopes.proofs.Tables.{row, find-rows, put-rows}
use Rattle.ec_scopes.proofs.table.Table.put.Goals as goal

pub returns-clause-ok : goal.returns-clause-ok
returns-clause-ok g c =
    ap (map row) c.in_ok-insert.ensures.entries ∙ put-rows c.in_ok-key.key c.args.value c.self.inside.inner.entries
    ∙ (λ i. put (c.in_ok-key.ensures.items i) c.args.value (c.self.view_is i))

pub returns-clause-was : goal.returns-clause-was
returns-clause-was g c =
    c.is_some.ensures ∙ ap is_some (c.in_ok-insert.ensures.old ∙ find-rows c.in_ok-key.key.items c.self.inside.inner.entries ∙ (λ i. find (c.in_ok-key.ensures.items i) (c.self.view_is i)))
