use Rattle.std.proofs.Common.{arith, refl}
use Rattle.ec_split.proofs.ByteTables.{single_looked_up}
use Rattle.ec_split.proofs.scanning.bytes.is_single.Goals as goal

pub returns : goal.returns
returns c = single_looked_up _ c.args.byte (omega (arith, c.ranges.byte.fits)) refl
