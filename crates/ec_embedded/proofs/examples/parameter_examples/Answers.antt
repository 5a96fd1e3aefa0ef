use Rattle.std.proofs.Common.{refl}
use Rattle.std.specs.Fmt.{digits}
use Rattle.ec_embedded.proofs.examples.parameter_examples.Goals as goal

pub returns : goal.returns
unfolding digits
returns c = record { none = refl; one = refl; more = refl }
