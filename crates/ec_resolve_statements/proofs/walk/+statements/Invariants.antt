use Rattle.std.proofs.Common.{◌≡◌, ◌+◌, ◌*◌, drop}
use Rattle.ec_ctypes.specs.views.Stmts.{stmts_view}
use Rattle.ec_resolve_forms.specs.Seen.{from, mapped}
use Rattle.ec_resolving_defs.specs.Statements.{statements}
use Rattle.ec_resolve_statements.specs.Around.{around_view}
use Rattle.ec_resolve_parts.specs.Made.{listed_view}
use Rattle.ec_resolve_statements.proofs.Loops.{before}
use Rattle.ec_resolve_statements.proofs.walk.+statements.Given as goal

abbrev pub decreases-statement_within : goal.decreases-statement_within
decreases-statement_within l = 10 * l.levels

abbrev pub decreases-statements_within : goal.decreases-statements_within
decreases-statements_within l = 10 * l.levels + 1

abbrev pub decreases-scoped_within : goal.decreases-scoped_within
decreases-scoped_within l = 10 * l.levels + 1

abbrev pub decreases-label_within : goal.decreases-label_within
decreases-label_within l = 10 * l.levels + 1

abbrev pub decreases-otherwise_within : goal.decreases-otherwise_within
decreases-otherwise_within l = 10 * l.levels + 2

abbrev pub decreases-block_within : goal.decreases-block_within
decreases-block_within l = 10 * l.levels + 3

abbrev pub decreases-while_within : goal.decreases-while_within
decreases-while_within l = 10 * l.levels + 3

abbrev pub decreases-do_within : goal.decreases-do_within
decreases-do_within l = 10 * l.levels + 3

abbrev pub decreases-for_within : goal.decreases-for_within
decreases-for_within l = 10 * l.levels + 3

abbrev pub decreases-if_within : goal.decreases-if_within
decreases-if_within l = 10 * l.levels + 4

abbrev pub decreases-statement_kind : goal.decreases-statement_kind
decreases-statement_kind l = 10 * l.levels + 5

abbrev pub decreases-all_scoped : goal.decreases-all_scoped
decreases-all_scoped l = 10 * l.levels + 2

abbrev pub decreases-if_parts : goal.decreases-if_parts
decreases-if_parts l = 10 * l.levels + 3

abbrev pub decreases-while_parts : goal.decreases-while_parts
decreases-while_parts l = 10 * l.levels + 2

abbrev pub decreases-do_parts : goal.decreases-do_parts
decreases-do_parts l = 10 * l.levels + 2

abbrev pub decreases-for_loop : goal.decreases-for_loop
decreases-for_loop l = 10 * l.levels + 2

abbrev pub invariant-statements_within-loop-s : goal.invariant-statements_within-loop-s
invariant-statements_within-loop-s l =
    from (statements (around_view l.a) (stmts_view l.ss)) l.fn.resolver ≡ mapped (before (listed_view l.statements)) (from (statements (around_view l.a) (stmts_view (drop l.s-index l.ss))) l.resolver)
