use Rattle.std.proofs.Common.{◌≡◌, length}
use Rattle.ec_clex.specs.Sql.{sql_views}
use Rattle.ec_read_statement.specs.left_out.Areas.{has_descriptor}
use Rattle.ec_read_statement.proofs.left_out.areas.has_descriptor.Given as goal

abbrev pub invariant-loop-left : goal.invariant-loop-left
invariant-loop-left l = record { is : has_descriptor (sql_views l.left) ≡ has_descriptor (sql_views l.tokens) }

abbrev pub decreases-loop-left : goal.decreases-loop-left
decreases-loop-left l = length l.left
