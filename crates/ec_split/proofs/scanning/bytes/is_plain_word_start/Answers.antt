use Rattle.std.proofs.Common.{arith, refl}
use Rattle.ec_split.proofs.ByteTables.{plain_looked_up}
use Rattle.ec_split.proofs.scanning.bytes.is_plain_word_start.Goals as goal

pub returns : goal.returns
returns c = plain_looked_up _ c.args.byte (omega (arith, c.ranges.byte.fits)) refl
