use Rattle.std.proofs.Common.{◌≡◌, ◌+◌, ◌-◌, ◌^◌, ◌≤◌, ◌<◌, false, length, drop}
use Rattle.ec_language.specs.SqlTokens.{sql_tokens_from, first_bad_line}
use Rattle.ec_language.specs.ReadTokens.{sql_units}
use Rattle.ec_clex.specs.Sql.{all_tokens, bad_line}
use Rattle.ec_clex.proofs.sql.tokens_from.Given as goal

abbrev pub invariant-loop-at : goal.invariant-loop-at
invariant-loop-at l = record {
  same : all_tokens l.lexer (drop l.at l.text) ≡ sql_tokens_from false l.line (sql_units (drop l.from l.text));
  good : bad_line l.lexer (drop l.at l.text) ≡ first_bad_line l.line (sql_units (drop l.from l.text));
  order : l.from ≤ l.at;
  inside : l.at ≤ length l.text;
  fits : l.lexer.line + (length l.text - l.at) < 2 ^ 32;
}

abbrev pub decreases-loop-at : goal.decreases-loop-at
decreases-loop-at l = length l.text - l.at
