use Rattle.std.proofs.Common.{◌≡◌, length, take}
use Rattle.ec_check.specs.typed.Orders.{IsOrder}
use Rattle.ec_check.proofs.typed_lemmas.Places.{Opens}
use Rattle.ec_check.proofs.typed.order.order_of.Given as goal

abbrev pub invariant-loop-k : goal.invariant-loop-k
invariant-loop-k l = record {
  numbers : l.order.numbers ≡ take l.k-index l.closed;
  counted : length l.order.places ≡ l.count;
  placed : IsOrder l.order.numbers l.order.places;
}

abbrev pub invariant-loop-open : goal.invariant-loop-open
invariant-loop-open l = record {
  opens : Opens l.closed l.count l.order.numbers l.open;
  counted : length l.order.places ≡ l.count;
  placed : IsOrder l.order.numbers l.order.places;
}
