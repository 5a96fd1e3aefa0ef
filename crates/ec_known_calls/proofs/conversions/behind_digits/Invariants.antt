use Rattle.std.proofs.Common.{◌≡◌, length}
use Rattle.ec_typing_defs.specs.Formats as spec
use Rattle.ec_known_calls.proofs.conversions.behind_digits.Given as goal

abbrev pub invariant-loop-rest : goal.invariant-loop-rest
invariant-loop-rest l = spec.behind_by spec.is_digit l.initial.rest ≡ spec.behind_by spec.is_digit l.rest

abbrev pub decreases-loop-rest : goal.decreases-loop-rest
decreases-loop-rest l = length l.rest
