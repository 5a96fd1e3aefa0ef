-- What was passed is behind the mark.
use Rattle.std.proofs.Common.{ℕ, ◌<◌, ◌≤◌, length}
use Rattle.ec_memory.specs.Objects.{number_at}
use Rattle.ec_memory.proofs.place.count_up_to.Given as goal

abbrev pub invariant-loop-count : goal.invariant-loop-count
invariant-loop-count l = record {
  bound : l.count ≤ length l.places;
  after : (i : ℕ) → l.count ≤ i → i < length l.places → l.mark < number_at l.places i;
}

abbrev pub decreases-loop-count : goal.decreases-loop-count
decreases-loop-count l = l.count
