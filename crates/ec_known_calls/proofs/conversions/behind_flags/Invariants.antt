use Rattle.std.proofs.Common.{◌≡◌, length}
use Rattle.ec_typing_defs.specs.Formats as spec
use Rattle.ec_known_calls.proofs.conversions.behind_flags.Given as goal

abbrev pub invariant-loop-rest : goal.invariant-loop-rest
invariant-loop-rest l = spec.behind_by spec.is_flag l.initial.rest ≡ spec.behind_by spec.is_flag l.rest

abbrev pub decreases-loop-rest : goal.decreases-loop-rest
decreases-loop-rest l = length l.rest
