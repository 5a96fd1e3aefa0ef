use Rattle.std.proofs.Common.{refl}
use Rattle.std.specs.Fmt.{digits}
use Rattle.ec_transcript.specs.Text.{numeral}
use Rattle.ec_transcript.proofs.laws.transcript_example.Goals as goal

pub returns : goal.returns
unfolding digits numeral
returns c = record { one = refl; two = refl }
