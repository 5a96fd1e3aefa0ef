use Rattle.ec_language.specs.First.{Reads}
use Rattle.ec_language.proofs.first_examples.too_long_comes_first.Goals as goal

pub returns : goal.returns
returns c = Reads.too_long
