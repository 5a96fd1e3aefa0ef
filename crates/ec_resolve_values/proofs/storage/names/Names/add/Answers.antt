use Rattle.std.proofs.Common.{◌≡◌, ◌∙◌, ap, true, false, is_some, rules}
use Rattle.ec_typing_defs.specs.Tables.{find, put}
use Rattle.ec_resolve_values.proofs.storage_lemmas.Placing.{there, added, still_placed, now_seen}
use Rattle.ec_resolve_values.proofs.storage.names.Names.add.Goals as goal

pub returns-then-is_some : goal.returns-then-is_some
returns-then-is_some c =
    let e : is_some (find c.args.name.now c.self.inside.places) ≡ true = search rules in
    there c.args.name.now c.self.inside.places c.args.self.now c.self.invariant c.self.view_is e

pub invariant_of-self : goal.invariant_of-self
invariant_of-self c =
    let e : is_some (find c.args.name.now c.self.inside.places) ≡ false = search rules in
    still_placed c.put.new.self _ (added c.args.name.now c.self.inside.places c.put.new.self c.args.self.now c.self.invariant c.self.view_is e
    (c.in-Ok.ensures.ok ∙ ap (λ n. put c.args.name.now n c.self.inside.places) c.len-place.ensures))

pub returns-in-Ok : goal.returns-in-Ok
returns-in-Ok c =
    let e : is_some (find c.args.name.now c.self.inside.places) ≡ false = search rules in
    now_seen c.put.new.self _ (added c.args.name.now c.self.inside.places c.put.new.self c.args.self.now c.self.invariant c.self.view_is e
    (c.in-Ok.ensures.ok ∙ ap (λ n. put c.args.name.now n c.self.inside.places) c.len-place.ensures))
