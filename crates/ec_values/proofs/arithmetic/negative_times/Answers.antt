-- The product fits.
use Rattle.ec_values.proofs.Numbers.{times_is, negative_fits}
use Rattle.ec_values.proofs.arithmetic.negative_times.Goals as goal

pub returns : goal.returns
returns c = times_is c.args.a c.args.b c.ranges.a c.ranges.b (negative_fits c.args.a c.args.b c.requires.left c.requires.right c.requires.negative)
