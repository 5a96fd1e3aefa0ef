use Rattle.std.proofs.Common.{◌≡◌, length, Some}
use Rattle.ec_sqlitelink.specs.declared.control.Due.TheVariants.{ModeOrEnd}
use Rattle.ec_sqlitelink.specs.Control.{are_modes}
use Rattle.ec_sqlitelink.specs.Reading.{left}
use Rattle.ec_sqlitelink.proofs.control.are_modes.Given as goal

abbrev pub invariant-loop-words : goal.invariant-loop-words
invariant-loop-words l = are_modes (Some l.due) (left l.words) ≡ are_modes (Some ModeOrEnd) (left l.fn.words)

abbrev pub decreases-loop-words : goal.decreases-loop-words
decreases-loop-words l = length (left l.words)
