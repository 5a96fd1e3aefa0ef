use Rattle.std.proofs.Common.{◌≡◌, ◌++◌, length}
use Rattle.ec_sqlitelink.specs.Marks.{marked_from, with_marks}
use Rattle.ec_sqlitelink.proofs.marks.with_marks.Given as goal

abbrev pub invariant-loop-rest : goal.invariant-loop-rest
invariant-loop-rest l = l.written ++ marked_from l.place l.rest ≡ with_marks l.text

abbrev pub decreases-loop-rest : goal.decreases-loop-rest
decreases-loop-rest l = length l.rest
