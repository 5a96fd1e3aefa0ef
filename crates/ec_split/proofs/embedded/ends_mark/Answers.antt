use Rattle.std.proofs.Common.{◌∙◌, [], ◌∷◌, ap}
use Rattle.std.specs.Prelude.{codes}
use Rattle.ec_language.specs.ReadPieces.{begins_semicolon}
use Rattle.ec_split.proofs.embedded.ends_mark.Goals as goal

pub returns-in-None : goal.returns-in-None
returns-in-None c = c.in-None.ensures.is (codes "SECTION" ∷ [])

pub returns-in-None-behind_word : goal.returns-in-None-behind_word
returns-in-None-behind_word c = c.in-None-behind_word.ensures.is [] ∙ c.in-Some.ensures.is (codes "SECTION" ∷ [])

pub returns : goal.returns
returns c = c.byte_at.ensures ∙ ap begins_semicolon c.gap_stop.ensures.is ∙ c.in-Some-behind_word.ensures.is [] ∙ c.in-Some.ensures.is (codes "SECTION" ∷ [])
