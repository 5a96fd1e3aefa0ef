use Rattle.std.proofs.Common.{drop}
use Rattle.ec_calling.proofs.Evaluating.{Onward, still}
use Rattle.ec_calling.proofs.giving.give.Given as goal

abbrev pub invariant-loop-argument : goal.invariant-loop-argument
invariant-loop-argument l = Onward l.scope (still l.values l.arguments) l.initial.store l.store l.given l.kept (still l.left (drop l.argument-index l.arguments))
