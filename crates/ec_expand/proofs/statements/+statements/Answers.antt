use Rattle.std.proofs.Common.{◌≡◌, [], ◌+◌, drop, rules, arith}
use Rattle.std.proofs.Math.ListN.{drop_of_length-le}
use Rattle.ec_ctypes.proofs.Shapes.{drop_item}
use Rattle.ec_ctypes.specs.declared.tree.stmt.Stmt.{out-Stmt, the_lemmas}
use Rattle.ec_ctypes.specs.trees.Stmts.{stmt}
use Rattle.ec_ctypes.specs.views.Stmts.{stmt_view, kind_view, stmts_view}
use Rattle.ec_expansion_defs.specs.Statements as spec
use Rattle.ec_expand.specs.Blocks.{written_at}
use Rattle.ec_expand.proofs.Written.{items_step, items_end}
use Rattle.ec_expand.proofs.statements.+statements.Goals as goal

pub written_items-returns : goal.written_items-returns
written_items-returns t c =
    let r : drop c.loop-item.item-index c.as_slice-item-items.result.now ≡ [] = drop_of_length-le c.as_slice-item-items.result.now (omega (arith, c.loop-item-test.false)) in
    items_end (written_at c.args.blocks.now.typed.now c.args.blocks.now.bounds.now) c.loop-item.list (drop c.loop-item.item-index c.as_slice-item-items.result.now)
    (spec.written_items (written_at c.args.blocks.now.typed.now c.args.blocks.now.bounds.now) (stmts_view c.args.items.now)) r c.loop-item.invariant

pub written_items-loop-item-preserved : goal.written_items-loop-item-preserved
written_items-loop-item-preserved t c =
    let e : stmt_view c.item-item.result ≡ stmt (out-Stmt c.item-item.result).line (kind_view (out-Stmt c.item-item.result).kind) = search (rules, the_lemmas) in
    items_step (written_at c.args.blocks.now.typed.now c.args.blocks.now.bounds.now) c.loop-item.list c.push_item.new.list c.item-item.result
    (stmt (out-Stmt c.item-item.result).line (kind_view (out-Stmt c.item-item.result).kind))
    (drop (c.loop-item.item-index + 1) c.as_slice-item-items.result.now) (drop c.loop-item.item-index c.as_slice-item-items.result.now)
    (spec.written_items (written_at c.args.blocks.now.typed.now c.args.blocks.now.bounds.now) (stmts_view c.args.items.now))
    c.in_ok-push_item.ensures e
    (drop_item c.as_slice-item-items.result.now c.loop-item.item-index c.item-item.result c.loop-item-test.true c.item-item.is) c.loop-item.invariant
