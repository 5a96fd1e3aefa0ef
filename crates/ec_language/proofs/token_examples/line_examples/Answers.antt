use Rattle.std.proofs.Common.{refl}
use Rattle.ec_language.proofs.PieceParts.{c_gives}
use Rattle.ec_language.proofs.token_examples.line_examples.Goals as goal

pub returns : goal.returns
returns c = record {
  include = c_gives refl;
  include_quoted = c_gives refl;
  parted = c_gives refl;
  define = c_gives refl;
  not_first = c_gives refl;
  include_not_first = c_gives refl;
  line_of_source = c_gives refl;
}
