use Rattle.std.proofs.Common.{◌≡◌, ◌≤◌, length, take}
use Rattle.ec_language.specs.Lexemes.{is_fresh_after}
use Rattle.ec_clex.proofs.lines.fresh_after.Given as goal

abbrev pub invariant-loop-left : goal.invariant-loop-left
invariant-loop-left l = record { same : is_fresh_after l.fresh (take l.left l.bytes) ≡ is_fresh_after l.fresh l.bytes; inside : l.left ≤ length l.bytes }

abbrev pub decreases-loop-left : goal.decreases-loop-left
decreases-loop-left l = l.left
