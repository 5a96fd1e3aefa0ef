use Rattle.std.proofs.Common.{◌≡◌, ◌+◌, ◌-◌, ◌≤◌, length, drop}
use Rattle.ec_language.specs.Constants.{leading_digits}
use Rattle.ec_clex.proofs.numbers.digits_end.Given as goal

abbrev pub invariant-loop-at : goal.invariant-loop-at
invariant-loop-at l = record {
  same : l.at + length (leading_digits l.base (l.most - (l.at - l.from)) (drop l.at l.text)) ≡ l.from + length (leading_digits l.base l.most (drop l.from l.text));
  order : l.from ≤ l.at;
  few : l.at ≤ l.from + l.most;
  inside : l.at ≤ length l.text;
}

abbrev pub decreases-loop-at : goal.decreases-loop-at
decreases-loop-at l = length l.text - l.at
