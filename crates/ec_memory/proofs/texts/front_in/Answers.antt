-- The front of a text by its run.
use Rattle.std.proofs.Common.{◌∙◌, ap, length, arith}
use Rattle.ec_memory_defs.specs.Cells.{part_of}
use Rattle.ec_memory.proofs.Reading.{run_bound, part_length, front_far, front_filled, front_by_run}
use Rattle.ec_memory.proofs.texts.front_in.Goals as goal

pub returns-then-limit-left : goal.returns-then-limit-left
returns-then-limit-left c = c.text_in.ensures ∙ front_far c.args.limit (part_of c.args.cells.now c.args.at c.args.left) (omega (arith, c.if-limit-left.true, part_length c.args.cells.now c.args.at c.args.left c.requires))

pub returns-then-run-limit : goal.returns-then-run-limit
returns-then-run-limit c = front_filled c.args.cells.now c.args.at c.args.left c.args.limit _ (omega (arith, c.if-limit-left.false)) c.run-run.ensures c.if-run-limit.true

pub overflow_add-at : goal.overflow_add-at
overflow_add-at c =
    let bound = run_bound (part_of c.args.cells.now c.args.at c.args.limit) in
    omega (arith, ap length c.run-run.ensures, bound, part_length c.args.cells.now c.args.at c.args.limit (omega (arith, c.requires, c.if-limit-left.false)), c.requires, c.if-limit-left.false, c.len.ensures)

pub bytes-requires : goal.bytes-requires
bytes-requires c =
    let bound = run_bound (part_of c.args.cells.now c.args.at c.args.limit) in
    omega (arith, ap length c.run-run.ensures, bound, part_length c.args.cells.now c.args.at c.args.limit (omega (arith, c.requires, c.if-limit-left.false)), c.requires, c.if-limit-left.false, c.if-run-limit.false)

pub returns-in-Some : goal.returns-in-Some
returns-in-Some c =
    let bound = run_bound (part_of c.args.cells.now c.args.at c.args.limit) in
    front_by_run c.args.cells.now c.args.at c.args.left c.args.limit _ _ c.requires (omega (arith, c.if-limit-left.false)) c.run-run.ensures (omega (arith, ap length c.run-run.ensures, bound, part_length c.args.cells.now c.args.at c.args.limit (omega (arith, c.requires, c.if-limit-left.false)), c.if-run-limit.false)) c.in-Some.ensures.cells

pub returns-in-None : goal.returns-in-None
returns-in-None c =
    let bound = run_bound (part_of c.args.cells.now c.args.at c.args.limit) in
    front_by_run c.args.cells.now c.args.at c.args.left c.args.limit _ _ c.requires (omega (arith, c.if-limit-left.false)) c.run-run.ensures (omega (arith, ap length c.run-run.ensures, bound, part_length c.args.cells.now c.args.at c.args.limit (omega (arith, c.requires, c.if-limit-left.false)), c.if-run-limit.false)) c.in-None.ensures.cells
