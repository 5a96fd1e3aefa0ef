use Rattle.std.proofs.Common.{refl}
use Rattle.ec_language.proofs.PieceParts.{statement_gives}
use Rattle.ec_language.proofs.token_examples.embedded_examples.Goals as goal

pub returns : goal.returns
returns c = record {
  statement = statement_gives refl refl refl;
  directive = statement_gives refl refl refl;
  parameter = statement_gives refl refl refl;
  parameter_line = statement_gives refl refl refl;
  dollar_in_word = statement_gives refl refl refl;
}
