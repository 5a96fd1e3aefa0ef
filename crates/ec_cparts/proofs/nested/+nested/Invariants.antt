use Rattle.std.specs.Prelude.{◌+◌, ◌*◌}
use Rattle.ec_cparts.proofs.nested.+nested.Given as goal

-- what nests is above the expressions one level deeper, and they are above what nests in them
abbrev pub decreases-expression : goal.decreases-expression
decreases-expression l = 2 * l.levels + 1

abbrev pub decreases-nested_type : goal.decreases-nested_type
decreases-nested_type l = 2 * l.levels

abbrev pub decreases-nested_members : goal.decreases-nested_members
decreases-nested_members l = 2 * l.levels

abbrev pub decreases-nested_initializers : goal.decreases-nested_initializers
decreases-nested_initializers l = 2 * l.levels

abbrev pub decreases-nested_subexpression : goal.decreases-nested_subexpression
decreases-nested_subexpression l = 2 * l.levels
