use Rattle.std.proofs.Common.{◌∙◌, sym, ap, option_map}
use Rattle.ec_ctypes.specs.trees.Types.{structure}
use Rattle.ec_scopes.specs.Structs.{infos, measure_in}
use Rattle.ec_scopes.proofs.Sizes.{or_unknown, struct-measure, small-at}
use Rattle.ec_scopes.proofs.structs.StructTable.measure_at.Goals as goal

pub returns-in-Some-clause-measure : goal.returns-in-Some-clause-measure
returns-in-Some-clause-measure c =
    ap (λ o. or_unknown (option_map (λ r. r.measure) o)) c.in-Some.ensures ∙ struct-measure c.self.inside.rows c.self.inside.closed c.args.k c.self.invariant
    ∙ (λ i. measure_in (infos (c.self.view_is i).0 (c.self.view_is i).1) (structure c.args.k))

pub returns-in-Some-clause-small : goal.returns-in-Some-clause-small
returns-in-Some-clause-small c = small-at c.self.inside.rows c.args.k c.in-Some.row.now c.self.invariant.fits (sym c.in-Some.ensures)

pub returns-in-None-clause-measure : goal.returns-in-None-clause-measure
returns-in-None-clause-measure c =
    ap (λ o. or_unknown (option_map (λ r. r.measure) o)) c.in-None.ensures ∙ struct-measure c.self.inside.rows c.self.inside.closed c.args.k c.self.invariant
    ∙ (λ i. measure_in (infos (c.self.view_is i).0 (c.self.view_is i).1) (structure c.args.k))
