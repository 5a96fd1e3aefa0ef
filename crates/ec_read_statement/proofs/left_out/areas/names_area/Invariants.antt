use Rattle.std.proofs.Common.{◌≡◌, ◌+◌, ◌≤◌, length, false}
use Rattle.ec_clex.specs.Sql.{sql_views}
use Rattle.ec_embedded.specs.LeftOut.{names_area}
use Rattle.ec_read_statement.proofs.left_out.areas.names_area.Given as goal

abbrev pub invariant-loop-left : goal.invariant-loop-left
invariant-loop-left l = record {
  is : names_area l.by_using l.depth l.behind_insert (sql_views l.left) ≡ names_area l.by_using 0 false (sql_views l.tokens);
  depth : l.depth + length l.left ≤ length l.tokens;
}

abbrev pub decreases-loop-left : goal.decreases-loop-left
decreases-loop-left l = length l.left
