use Rattle.std.proofs.Common.{◌∙◌, ap, option_map}
use Rattle.ec_ctypes.specs.trees.Types.{structure}
use Rattle.ec_typing_defs.specs.Expressions.{stands_for}
use Rattle.ec_scopes.specs.Counts.{counted}
use Rattle.ec_scopes.specs.Structs.{infos}
use Rattle.ec_scopes.proofs.HostCounts.{or_zero, struct_count}
use Rattle.ec_scopes.proofs.structs.StructTable.stands_for_at.Goals as goal

pub returns-in-Some : goal.returns-in-Some
returns-in-Some c =
    ap (λ o. or_zero (option_map (λ r. r.stands_for) o)) c.in-Some.ensures ∙ struct_count c.self.inside.rows c.self.inside.closed c.args.k c.self.invariant
    ∙ (λ i. counted (stands_for (infos (c.self.view_is i).0 (c.self.view_is i).1) (structure c.args.k)))

pub returns-in-None : goal.returns-in-None
returns-in-None c =
    ap (λ o. or_zero (option_map (λ r. r.stands_for) o)) c.in-None.ensures ∙ struct_count c.self.inside.rows c.self.inside.closed c.args.k c.self.invariant
    ∙ (λ i. counted (stands_for (infos (c.self.view_is i).0 (c.self.view_is i).1) (structure c.args.k)))
