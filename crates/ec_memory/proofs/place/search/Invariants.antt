-- The object is not outside of what is left.
use Rattle.std.proofs.Common.{◌≢◌, ℕ, ◌-◌, ◌<◌, ◌≤◌, length}
use Rattle.ec_memory.specs.Objects.{number_at}
use Rattle.ec_memory.proofs.place.search.Given as goal

abbrev pub invariant-loop-low : goal.invariant-loop-low
invariant-loop-low l = record {
  order : l.low ≤ l.high;
  within : l.high ≤ length l.places;
  before : (k : ℕ) → k < l.low → number_at l.places k ≢ l.number;
  after : (k : ℕ) → l.high ≤ k → k < length l.places → number_at l.places k ≢ l.number;
}

abbrev pub decreases-loop-low : goal.decreases-loop-low
decreases-loop-low l = l.high - l.low
