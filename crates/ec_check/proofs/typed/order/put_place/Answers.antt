use Rattle.std.proofs.Common.{◌≡◌, ◌∙◌, Some, None, ap}
use Rattle.ec_check.proofs.typed_lemmas.Places.{set_free, is_inside, stays_taken, stays_outside}
use Rattle.ec_check.proofs.typed.order.put_place.Goals as goal

pub returns-in-Some-Some : goal.returns-in-Some-Some
returns-in-Some-Some c = stays_taken c.args.places.now c.args.k c.args.place c.in-Some-Some.field-0-0 (rw c.in-Some-Some.field-0-is at c.in-Some-Some.ensures)

pub returns-in-None : goal.returns-in-None
returns-in-None c = stays_outside c.args.places.now c.args.k c.args.place c.in-None.ensures

pub set-requires : goal.set-requires
set-requires c = is_inside c.args.places.now c.args.k None (rw c.in-Some-None.field-0-is at c.in-Some-None.ensures)

pub returns : goal.returns
returns c = c.set.ensures ∙ set_free c.args.places.now c.args.k c.args.place (rw c.in-Some-None.field-0-is at c.in-Some-None.ensures)
