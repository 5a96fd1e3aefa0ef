use Rattle.ec_language.proofs.LongestMatch.{lexeme_sound, lexeme_complete, lexeme_none, same_match}
use Rattle.ec_language.proofs.token_laws.matches_are_read.Goals as goal

pub returns : goal.returns
returns c = record {
  found = lexeme_sound;
  there = lexeme_complete;
  none = (λ text u rest e. lexeme_none text e u rest);
  one = same_match;
}
