use Rattle.std.proofs.Common.{◌≡◌, ◌<◌, ℕ, length, get_or, None}
use Rattle.ec_check.proofs.typed.order.no_numbers.Given as goal

abbrev pub invariant-loop-made : goal.invariant-loop-made
invariant-loop-made l = record {
  counted : length l.places ≡ l._made;
  empty : (k : ℕ) → k < length l.places → get_or l.places k None ≡ None;
}
