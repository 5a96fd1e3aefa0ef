use Rattle.std.proofs.Common.{◌≡◌, Some, ap}
use Rattle.ec_check.proofs.typed_lemmas.Places.{read_place, place_is}
use Rattle.ec_check.proofs.typed.order.Order.place.Goals as goal

pub returns-in-Some-Some : goal.returns-in-Some-Some
returns-in-Some-Some c =
    place_is c.args.k c.args.self.now.numbers c.in-Some-Some.place (read_place c.args.self.now.numbers c.args.self.now.places c.args.k (Some c.in-Some-Some.place) c.requires (rw c.in-Some-Some.field-0-is at c.in-Some-Some.ensures))
