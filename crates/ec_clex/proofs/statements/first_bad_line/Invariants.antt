use Rattle.std.proofs.Common.{◌≡◌, ◌+◌, ◌-◌, ◌≤◌, ◌<◌, ◌^◌, length, drop}
use Rattle.ec_language.specs.SqlTokens.{first_bad_line}
use Rattle.ec_language.specs.ReadTokens.{sql_units}
use Rattle.ec_clex.proofs.statements.first_bad_line.Given as goal

abbrev pub invariant-loop-at : goal.invariant-loop-at
invariant-loop-at l = record {
  same : first_bad_line l.now (sql_units (drop l.at l.text)) ≡ first_bad_line l.line (sql_units (drop l.from l.text));
  inside : l.at ≤ length l.text;
  fits : l.now + (length l.text - l.at) < 2 ^ 32;
}

abbrev pub decreases-loop-at : goal.decreases-loop-at
decreases-loop-at l = length l.text - l.at
