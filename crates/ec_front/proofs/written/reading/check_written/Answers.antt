use Rattle.std.proofs.Common.{subst}
use Rattle.ec_phases_defs.specs.written.Written.{checked_plain, checked_written}
use Rattle.ec_front.specs.written.Answers.{Is}
use Rattle.ec_front.proofs.written.reading.check_written.Goals as goal

pub returns : goal.returns
unfolding checked_written
returns c = subst (λ u. Is (checked_plain u) c.check_plain.result) c.plain.ensures c.check_plain.ensures
