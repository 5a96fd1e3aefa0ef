use Rattle.std.proofs.Common.{◌≡◌, ◌∙◌, Some, None, rules}
use Rattle.ec_typing_defs.specs.Tables.{find}
use Rattle.ec_resolve_values.proofs.storage_lemmas.Placing.{place_found, place_missing}
use Rattle.ec_resolve_values.proofs.storage.names.Names.place.Goals as goal

pub returns-in-Some : goal.returns-in-Some
returns-in-Some c =
    let e : Some c.in-Some.place ≡ find c.args.name.now c.self.inside.places = search rules in
    place_found c.args.name.now c.self.inside.places c.args.self.now c.in-Some.place c.self.invariant c.self.view_is e

pub returns-else-count : goal.returns-else-count
returns-else-count c =
    let e : None ≡ find c.args.name.now c.self.inside.places = search rules in
    c.len-count.ensures ∙ place_missing c.args.name.now c.self.inside.places c.args.self.now c.self.invariant c.self.view_is e
