use Rattle.std.proofs.Common.{drop}
use Rattle.ec_interp.proofs.opening_lemmas.Making.{Left}
use Rattle.ec_meaning_defs.specs.resolved.Programs.{literal_bytes}
use Rattle.ec_interp.proofs.opening.opening.open_literals.Given as goal

abbrev pub invariant-loop-literal : goal.invariant-loop-literal
invariant-loop-literal l = Left literal_bytes l.literals (drop l.literal-index l.literals) l.initial.store l.store
