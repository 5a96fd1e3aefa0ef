use Rattle.std.proofs.Common.{length}
use Rattle.ec_sqlitelink.proofs.cursor.reversed.Given as goal

abbrev pub decreases-loop-row : goal.decreases-loop-row
decreases-loop-row l = length l.rows
