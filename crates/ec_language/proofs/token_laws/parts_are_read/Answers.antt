use Rattle.std.proofs.Common.{length, arith}
use Rattle.ec_language.proofs.CParts.{parts_sound, parts_complete}
use Rattle.ec_language.proofs.token_laws.parts_are_read.Goals as goal

pub returns : goal.returns
returns c = record {
  there = (λ written line fresh text. parts_sound (length text) written line fresh text (omega arith));
  only = (λ written line fresh text parts last are. parts_complete (length text) written line fresh text parts last are (omega arith));
}
