-- The product fits.
use Rattle.ec_values.proofs.Numbers.{times_is, fits_negative}
use Rattle.ec_values.proofs.arithmetic.times_negative.Goals as goal

pub returns : goal.returns
returns c = times_is c.args.a c.args.b c.ranges.a c.ranges.b (fits_negative c.args.a c.args.b c.requires.left c.requires.right c.requires.negative)
