use Rattle.std.proofs.Common.{refl}
use Rattle.ec_language.proofs.PieceParts.{c_gives, statement_gives}
use Rattle.ec_language.proofs.token_examples.written_examples.Goals as goal

pub returns : goal.returns
returns c = record {
  line = c_gives refl;
  last_line = c_gives refl;
  leading_zero = c_gives refl;
  embedded = statement_gives refl refl refl;
  head = c_gives refl;
  half_head = c_gives refl;
  late_head = c_gives refl;
  head_of_source = c_gives refl;
}
