use Rattle.std.proofs.Common.{◌≡◌, ◌-◌, ◌≤◌, length, drop}
use Rattle.ec_language.specs.SqlTokens.{is_executable}
use Rattle.ec_language.specs.ReadTokens.{sql_units}
use Rattle.ec_clex.proofs.statements.is_executable.Given as goal

abbrev pub invariant-loop-at : goal.invariant-loop-at
invariant-loop-at l = record {
  same : is_executable (sql_units (drop l.at l.text)) ≡ is_executable (sql_units (drop l.from l.text));
  inside : l.at ≤ length l.text;
}

abbrev pub decreases-loop-at : goal.decreases-loop-at
decreases-loop-at l = length l.text - l.at
