use Rattle.std.proofs.Common.{◌≡◌, ◌++◌, ◌-◌}
use Rattle.ec_writing_defs.specs.Chunks.{text_of}
use Rattle.ec_writing_defs.specs.Expressions.{star_chunks}
use Rattle.ec_cwrite.proofs.expressions.push_stars.Given as goal

abbrev pub invariant-loop-done : goal.invariant-loop-done
invariant-loop-done l = l.out ++ text_of (star_chunks (l.stars - l.done)) ≡ l.initial.out ++ text_of (star_chunks l.stars)
