use Rattle.std.proofs.Common.{drop}
use Rattle.ec_ctypes.specs.views.Stmts.{stmts_view}
use Rattle.ec_scopes.specs.Seen.{world_of, notes_of}
use Rattle.ec_scopes.proofs.Steps.{Goes}
use Rattle.ec_typing_defs.specs.Statements.{statements}
use Rattle.ec_embedded_rules.specs.Around.{around_view}
use Rattle.ec_check.proofs.statements.+statements.Given as goal

abbrev pub invariant-statements-loop-s : goal.invariant-statements-loop-s
invariant-statements-loop-s l =
    Goes (statements (around_view l.a) (stmts_view l.ss) (world_of l.fn.checker)) (notes_of l.fn.checker)
    (statements (around_view l.a) (stmts_view (drop l.s-index l.ss)) (world_of l.checker)) (notes_of l.checker) (λ u. u)
