use Rattle.std.proofs.Common.{◌≡◌, drop, map}
use Rattle.ec_ctypes.specs.views.Stmts.{stmt_view, stmts_view}
use Rattle.ec_expansion_defs.specs.Statements as spec
use Rattle.ec_expansion_defs.specs.Statements.{before_stmts}
use Rattle.ec_expand.specs.Blocks.{written_at}
use Rattle.ec_expand.proofs.statements.+statements.Given as goal

abbrev pub invariant-written_items-loop-item : goal.invariant-written_items-loop-item
invariant-written_items-loop-item l =
    before_stmts (map stmt_view l.list) (spec.written_items (written_at l.blocks.typed.now l.blocks.bounds.now) (stmts_view (drop l.item-index l.item-items)))
    ≡ spec.written_items (written_at l.blocks.typed.now l.blocks.bounds.now) (stmts_view l.items)
