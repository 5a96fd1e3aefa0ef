use Rattle.std.proofs.Common.{refl}
use Rattle.ec_language.proofs.PieceParts.{source_gives}
use Rattle.ec_language.proofs.token_examples.source_examples.Goals as goal

pub returns : goal.returns
returns c = record {
  program = source_gives _ refl refl;
  declaration = source_gives _ refl refl;
  section = source_gives _ refl refl;
  statements = source_gives _ refl refl;
  line_before_start = source_gives _ refl refl;
  first_fault = source_gives _ refl refl;
}
