use Rattle.ec_sim_statement_laws.specs.argument.Bound.{cursor_of}
use Rattle.ec_host_defs.specs.Programs.{names_count}
use Rattle.ec_sim_world_laws.specs.place.References.{tables_of}
use Rattle.std.proofs.Common.{take}
use Rattle.ec_sim_host_laws.proofs.host_lemmas.HostsWalk.{statement_leads}
use Rattle.ec_sim_host_laws.proofs.host_lemmas.TextsNamed.{texts_named, text_held}
use Rattle.ec_sim_host_laws.proofs.host.laws.statements_lead_to_their_places.Goals as goal

pub returns : goal.returns
returns c = λ at s w z hosts functions within names varchars prepared d rs e x h. statement_leads at s w (tables_of z hosts functions)
    (c.hosts_lead_to_their_places.ensures at s w z hosts functions within names)
    c.elements_are_one_leaf.ensures
    (c.texts_lead_to_their_places.ensures at s w z hosts functions within names)
    (texts_named z varchars)
    (λ f y r there t. text_held w h.reserved_here h.reserved_outer (tables_of z hosts functions) f (take (names_count f) y.denoted) r.form r.variable there t)
    e (cursor_of prepared d e x.denoted rs) x h
