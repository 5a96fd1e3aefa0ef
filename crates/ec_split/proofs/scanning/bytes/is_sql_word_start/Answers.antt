use Rattle.std.proofs.Common.{arith, refl}
use Rattle.ec_split.proofs.ByteTables.{start_looked_up}
use Rattle.ec_split.proofs.scanning.bytes.is_sql_word_start.Goals as goal

pub returns : goal.returns
returns c = start_looked_up _ c.args.byte (omega (arith, c.ranges.byte.fits)) refl
