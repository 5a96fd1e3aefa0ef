-- What was counted, and what is left to count, give the length of the whole.
use Rattle.std.proofs.Common.{◌≡◌, ◌+◌, ◌≤◌, length}
use Rattle.ec_transfer_defs.specs.Area.{text_length}
use Rattle.ec_sqlca.proofs.message.text_length.Given as goal

abbrev pub invariant-loop-rest : goal.invariant-loop-rest
invariant-loop-rest l = (l.count + text_length l.rest ≡ text_length l.text) × (l.count + length l.rest ≤ 150)

abbrev pub decreases-loop-rest : goal.decreases-loop-rest
decreases-loop-rest l = length l.rest
