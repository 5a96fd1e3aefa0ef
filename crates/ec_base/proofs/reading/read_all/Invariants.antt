-- The source gave what stands in `bytes`, at most a block beyond the limit, and each turn adds a byte or more.
use Rattle.std.proofs.Common.{◌+◌, ◌-◌, ◌≤◌, length}
use Rattle.ec_base.specs.Reading.{Reads, block}
use Rattle.ec_base.proofs.reading.read_all.Given as goal

abbrev pub invariant-loop-block : goal.invariant-loop-block
invariant-loop-block g l =
    Reads g.S.Source.left g.S.Source.faults l.initial.source l.source l.bytes × (length l.bytes ≤ l.limit + block)

abbrev pub decreases-loop-block : goal.decreases-loop-block
decreases-loop-block g l = l.limit + 1 - length l.bytes
