use Rattle.std.proofs.Common.{◌≡◌, ◌-◌, ◌<◌, length, drop}
use Rattle.ec_meaning_defs.specs.functions.Strings.{compared, reads_from}
use Rattle.ec_stdlib.proofs.compare.compare.Given as goal

abbrev pub invariant-loop-at : goal.invariant-loop-at
invariant-loop-at l = record {
  same : compared l.texts (l.limit - l.at) (drop l.at (reads_from l.store l.first.0)) (drop l.at (reads_from l.store l.second.0))
      ≡ compared l.texts l.limit (reads_from l.store l.first.0) (reads_from l.store l.second.0);
  first_left : l.at < length (reads_from l.store l.first.0);
  second_left : l.at < length (reads_from l.store l.second.0);
}
