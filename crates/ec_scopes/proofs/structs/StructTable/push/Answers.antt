use Rattle.std.proofs.Common.{◌∙◌, ◌++◌, ◌∷◌, [], ap}
use Rattle.ec_scopes.specs.Structs.{infos}
use Rattle.ec_scopes.proofs.Closings.{kept-push, infos-more}
use Rattle.ec_scopes.proofs.structs.StructTable.push.Goals as goal

pub invariant_of-self-2 : goal.invariant_of-self-2
invariant_of-self-2 c = kept-push c.self.inside.rows _ c.self.inside.closed c.open_row-row.result c.in_ok-push.ensures.ok c.open_row-row.ensures.measure c.open_row-row.ensures.count c.open_row-row.ensures.offsets c.self.invariant

pub returns-clause-infos : goal.returns-clause-infos
returns-clause-infos c =
    ap (λ l. infos l c.self.inside.closed) c.in_ok-push.ensures.ok ∙ infos-more c.self.inside.rows c.open_row-row.result c.self.inside.closed c.self.invariant.lists
    ∙ (λ i. infos (c.self.view_is i).0 (c.self.view_is i).1 ++ c.open_row-row.ensures.opened i ∷ [])
