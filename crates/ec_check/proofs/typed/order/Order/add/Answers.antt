use Rattle.std.proofs.Common.{◌≡◌, ◌∙◌, ◌<◌, ◌-◌, ◌^◌, ap, sym, subst, length, List, ℕ, Option, arith}
use Rattle.ec_check.specs.typed.Orders.{IsOrder, with_place}
use Rattle.ec_check.proofs.typed_lemmas.Places.{length-with_place, added}
use Rattle.ec_check.proofs.typed.order.Order.add.Goals as goal

pub returns-clause-count : goal.returns-clause-count
returns-clause-count c = ap length c.put_place.ensures ∙ length-with_place c.args.self.now.places c.args.k c.len-place.result

pub returns-clause-placed : goal.returns-clause-placed
returns-clause-placed c =
    let few : length c.args.self.now.numbers < 2 ^ 32 - 1 = omega (arith, c.if-place.false, c.len-place.ensures) in
    let places : c.put_place.new.places ≡ with_place c.args.self.now.places c.args.k (length c.args.self.now.numbers) =
    c.put_place.ensures ∙ ap (with_place c.args.self.now.places c.args.k) c.len-place.ensures in
    let there : IsOrder _ _ = added c.args.self.now.numbers c.args.self.now.places c.args.k c.requires few in
    rw (c.in_ok-push.ensures.ok, places) there
