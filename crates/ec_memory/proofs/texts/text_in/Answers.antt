-- The text by its run.
use Rattle.std.proofs.Common.{sym, ap, length, arith}
use Rattle.ec_memory_defs.specs.Cells.{part_of}
use Rattle.ec_memory.proofs.Reading.{run_bound, part_length, text_all, text_by_run}
use Rattle.ec_memory.proofs.texts.text_in.Goals as goal

pub returns-then-run-left : goal.returns-then-run-left
returns-then-run-left c =
    sym (text_all (part_of c.args.cells.now c.args.at c.args.left) (omega (arith, ap length c.run-run.ensures, c.if-run-left.true, part_length c.args.cells.now c.args.at c.args.left c.requires)))

pub overflow_add-at : goal.overflow_add-at
overflow_add-at c =
    let bound = run_bound (part_of c.args.cells.now c.args.at c.args.left) in
    omega (arith, ap length c.run-run.ensures, bound, part_length c.args.cells.now c.args.at c.args.left c.requires, c.requires, c.len.ensures)

pub bytes-requires : goal.bytes-requires
bytes-requires c =
    let bound = run_bound (part_of c.args.cells.now c.args.at c.args.left) in
    omega (arith, ap length c.run-run.ensures, bound, part_length c.args.cells.now c.args.at c.args.left c.requires, c.requires, c.if-run-left.false)

pub returns-in-Some : goal.returns-in-Some
returns-in-Some c =
    let bound = run_bound (part_of c.args.cells.now c.args.at c.args.left) in
    text_by_run c.args.cells.now c.args.at c.args.left _ _ c.requires c.run-run.ensures (omega (arith, ap length c.run-run.ensures, bound, part_length c.args.cells.now c.args.at c.args.left c.requires, c.if-run-left.false)) c.in-Some.ensures.cells

pub returns-in-None : goal.returns-in-None
returns-in-None c =
    let bound = run_bound (part_of c.args.cells.now c.args.at c.args.left) in
    text_by_run c.args.cells.now c.args.at c.args.left _ _ c.requires c.run-run.ensures (omega (arith, ap length c.run-run.ensures, bound, part_length c.args.cells.now c.args.at c.args.left c.requires, c.if-run-left.false)) c.in-None.ensures.cells
