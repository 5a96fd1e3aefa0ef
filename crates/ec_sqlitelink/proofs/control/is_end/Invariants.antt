use Rattle.std.proofs.Common.{◌≡◌, length}
use Rattle.ec_sqlitelink.specs.Control.{is_end}
use Rattle.ec_sqlitelink.specs.Reading.{left}
use Rattle.ec_sqlitelink.proofs.control.is_end.Given as goal

abbrev pub invariant-loop-word : goal.invariant-loop-word
invariant-loop-word l = is_end (left l.words) ≡ is_end (left l.fn.words)

abbrev pub decreases-loop-word : goal.decreases-loop-word
decreases-loop-word l = length (left l.words)
