use Rattle.std.proofs.Common.{◌∙◌, set, refl, ap, slice_get}
use Rattle.ec_scopes.specs.Structs.{infos, listed_at}
use Rattle.ec_scopes.proofs.Closings.{kept-begin, infos-set, none-listed, apart-of, members-kept}
use Rattle.ec_scopes.proofs.structs.StructTable.begin.Goals as goal

pub invariant_of-self : goal.invariant_of-self
invariant_of-self c = kept-begin c.self.inside.rows _ c.self.inside.closed c.args.k c.open_row-row.result c.set.ensures c.open_row-row.ensures.measure c.open_row-row.ensures.count c.open_row-row.ensures.offsets (ap (λ l. listed_at l c.args.k) (λ i. (c.self.view_is i).0) ∙ none-listed (slice_get c.args.self.now.0 c.args.k) (members-kept c.args.self.now.0 c.args.self.now.1 c.args.k ∙ c.requires) refl) c.self.invariant

pub returns-then-k-len-clause-infos : goal.returns-then-k-len-clause-infos
returns-then-k-len-clause-infos c =
    let none = ap (λ l. listed_at l c.args.k) (λ i. (c.self.view_is i).0) ∙ none-listed (slice_get c.args.self.now.0 c.args.k) (members-kept c.args.self.now.0 c.args.self.now.1 c.args.k ∙ c.requires) refl in
    ap (λ l. infos l c.self.inside.closed) c.set.ensures ∙ infos-set c.self.inside.rows c.open_row-row.result c.self.inside.closed c.args.k (apart-of c.self.inside.rows c.self.inside.closed c.args.k c.self.invariant.lists none)
    ∙ (λ i. set (infos (c.self.view_is i).0 (c.self.view_is i).1) c.args.k (c.open_row-row.ensures.opened i))
