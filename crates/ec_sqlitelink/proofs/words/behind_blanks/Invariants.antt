use Rattle.std.proofs.Common.{◌≡◌, length}
use Rattle.ec_sqlitelink.specs.declared.marks.Place.TheVariants.{Free}
use Rattle.ec_sqlitelink.specs.Words.{behind_gap}
use Rattle.ec_sqlitelink.proofs.words.behind_blanks.Given as goal

abbrev pub invariant-loop-rest : goal.invariant-loop-rest
invariant-loop-rest l = behind_gap l.place l.rest ≡ behind_gap Free l.text

abbrev pub decreases-loop-rest : goal.decreases-loop-rest
decreases-loop-rest l = length l.rest
