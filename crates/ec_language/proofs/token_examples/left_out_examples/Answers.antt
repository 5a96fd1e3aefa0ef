use Rattle.std.proofs.Common.{refl}
use Rattle.ec_language.proofs.PieceParts.{c_gives}
use Rattle.ec_language.proofs.token_examples.left_out_examples.Goals as goal

pub returns : goal.returns
returns c = record {
  conditional = c_gives refl;
  variable_number = c_gives refl;
  word_left_out = c_gives refl;
  longer_word = c_gives refl;
  at = c_gives refl;
  splice = c_gives refl;
  dollar = c_gives refl;
  foreign = c_gives refl;
}
