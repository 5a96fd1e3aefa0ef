-- What is gone from `rest` is in the sink, and each turn takes a byte or more.
use Rattle.std.proofs.Common.{◌≡◌, ℕ, List, ◌++◌, length}
use Rattle.ec_base.specs.Putting.{Puts}
use Rattle.ec_base.proofs.putting.put_all.Given as goal

abbrev pub invariant-loop-rest : goal.invariant-loop-rest
invariant-loop-rest g l =
    (done : List ℕ) × (l.initial.rest ≡ done ++ l.rest) × Puts g.S.Sink.held g.S.Sink.faults l.initial.sink l.sink done

abbrev pub decreases-loop-rest : goal.decreases-loop-rest
decreases-loop-rest g l = length l.rest
