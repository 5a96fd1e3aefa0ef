use Rattle.std.proofs.Common.{◌∙◌, ap, option_map}
use Rattle.ec_scopes.specs.Structs.{members_view, members_at}
use Rattle.ec_scopes.proofs.Closings.{members-kept}
use Rattle.ec_scopes.proofs.structs.StructTable.members_of.Goals as goal

pub returns-in-Some : goal.returns-in-Some
returns-in-Some c = ap (option_map (λ r. members_view r.members)) c.in-Some.ensures ∙ members-kept c.self.inside.rows c.self.inside.closed c.args.k ∙ (λ i. members_at (c.self.view_is i).0 (c.self.view_is i).1 c.args.k)

pub returns-in-None : goal.returns-in-None
returns-in-None c = ap (option_map (λ r. members_view r.members)) c.in-None.ensures ∙ members-kept c.self.inside.rows c.self.inside.closed c.args.k ∙ (λ i. members_at (c.self.view_is i).0 (c.self.view_is i).1 c.args.k)
