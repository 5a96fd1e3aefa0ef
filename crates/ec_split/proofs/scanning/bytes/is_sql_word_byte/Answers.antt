use Rattle.std.proofs.Common.{arith, refl}
use Rattle.ec_split.proofs.ByteTables.{sql_word_looked_up}
use Rattle.ec_split.proofs.scanning.bytes.is_sql_word_byte.Goals as goal

pub returns : goal.returns
returns c = sql_word_looked_up _ c.args.byte (omega (arith, c.ranges.byte.fits)) refl
