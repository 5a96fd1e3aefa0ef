use Rattle.std.proofs.Common.{refl}
use Rattle.ec_language.proofs.PieceParts.{c_gives}
use Rattle.ec_language.proofs.token_examples.mark_examples.Goals as goal

pub returns : goal.returns
returns c = record {
  three = c_gives refl;
  two_then_one = c_gives refl;
  parted = c_gives refl;
  comment = c_gives refl;
  not_octal = c_gives refl;
}
