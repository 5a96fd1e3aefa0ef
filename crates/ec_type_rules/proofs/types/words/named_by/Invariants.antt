use Rattle.std.proofs.Common.{◌≡◌, drop}
use Rattle.ec_type_rules.specs.Words.{type_by_counts}
use Rattle.ec_type_rules.proofs.types.words.named_by.Given as goal

abbrev pub invariant-loop-set : goal.invariant-loop-set
invariant-loop-set l = record {
  rest : type_by_counts (drop l.set-index l.sets) l.counts ≡ type_by_counts l.sets l.counts;
}
