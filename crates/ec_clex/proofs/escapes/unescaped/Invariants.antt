use Rattle.std.proofs.Common.{◌≡◌, ◌-◌, ◌≤◌, length, drop}
use Rattle.ec_language.specs.Constants.{unescaped}
use Rattle.ec_clex.proofs.Unescaped.{behind_bytes}
use Rattle.ec_clex.proofs.escapes.unescaped.Given as goal

abbrev pub invariant-loop-at : goal.invariant-loop-at
invariant-loop-at l = record {
  same : behind_bytes l.bytes (unescaped (drop l.at l.text)) ≡ unescaped l.text;
  inside : l.at ≤ length l.text;
}

abbrev pub decreases-loop-at : goal.decreases-loop-at
decreases-loop-at l = length l.text - l.at
