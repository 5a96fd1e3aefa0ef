use Rattle.std.proofs.Common.{◌≡◌, ◌+◌, ◌≤◌, drop}
use Rattle.ec_typing_defs.specs.Types.{occurrences}
use Rattle.ec_type_rules.proofs.types.words.occurrences.Given as goal

abbrev pub invariant-loop-other : goal.invariant-loop-other
invariant-loop-other l = record {
  counted : l.count + occurrences l.word (drop l.other-index l.words) ≡ occurrences l.word l.words;
  small : l.count ≤ l.other-index;
}
