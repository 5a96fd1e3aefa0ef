use Rattle.std.proofs.Common.{◌≡◌, ◌-◌, ◌≤◌, length, drop}
use Rattle.ec_language.specs.ReadTokens.{include_behind}
use Rattle.ec_clex.proofs.lines.include_end.Given as goal

abbrev pub invariant-loop-at : goal.invariant-loop-at
invariant-loop-at l = record {
  same : include_behind (drop l.at l.text) ≡ include_behind (drop l.from l.text);
  order : l.from ≤ l.at;
  inside : l.at ≤ length l.text;
}

abbrev pub decreases-loop-at : goal.decreases-loop-at
decreases-loop-at l = length l.text - l.at
