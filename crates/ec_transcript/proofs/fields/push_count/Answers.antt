use Rattle.std.proofs.Common.{arith}
use Rattle.ec_transcript.proofs.Numerals.{numeral_decimal}
use Rattle.ec_transcript.proofs.fields.push_count.Goals as goal

pub returns : goal.returns
returns c = rw (numeral_decimal c.args.count (omega arith)) c.push_number.ensures
