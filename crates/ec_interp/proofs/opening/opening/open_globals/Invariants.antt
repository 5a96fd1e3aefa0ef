use Rattle.std.proofs.Common.{drop}
use Rattle.ec_interp.proofs.opening_lemmas.Making.{Left}
use Rattle.ec_meaning_defs.specs.resolved.Programs.{global_bytes}
use Rattle.ec_interp.proofs.opening.opening.open_globals.Given as goal

abbrev pub invariant-loop-global : goal.invariant-loop-global
invariant-loop-global l = Left global_bytes l.globals (drop l.global-index l.globals) l.initial.store l.store
