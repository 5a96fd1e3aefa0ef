use Rattle.std.specs.Prelude.{refl}
use Rattle.ec_language.proofs.TextReads.{text_is}
use Rattle.ec_language.proofs.reading_laws.reading_examples.Goals as goal

pub returns : goal.returns
returns c = record {
  program = text_is refl;
  without_its_last_line = text_is refl;
  no_semicolon = text_is refl;
  bad_number = text_is refl;
  open_quote = text_is refl;
  pieces_before_tokens = text_is refl;
  tokens_before_syntax = text_is refl;
}
