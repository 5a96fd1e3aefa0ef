use Rattle.std.proofs.Common.{refl}
use Rattle.ec_language.proofs.PieceParts.{c_gives}
use Rattle.ec_language.proofs.token_examples.string_examples.Goals as goal

pub returns : goal.returns
returns c = record {
  over_comment = c_gives refl;
  over_line = c_gives refl;
  three = c_gives refl;
  bad_second = c_gives refl;
}
