-- The run of the part.
use Rattle.std.proofs.Common.{◌≡◌, ◌∙◌, ◌≤◌, ◌+◌, ap, sym, length, take, drop, arith}
use Rattle.std.proofs.lemmas.List.{take-take}
use Rattle.ec_memory_defs.specs.Cells.{part_of}
use Rattle.ec_bytes.specs.Bits.{marks_of}
use Rattle.ec_bytes.specs.Region.{cells_of, run_of}
use Rattle.ec_bytes.proofs.Kept.{lies, marked, run_read}
use Rattle.ec_bytes.proofs.region.Region.run.Goals as goal

pub run_length-count-requires : goal.run_length-count-requires
run_length-count-requires c =
    marked c.args.self.now c.self.inside.len c.self.inside.room c.self.inside.block c.self.view_is c.self.invariant c.args.at c.args.n c.requires c.bytes-memory.result.now (ap length c.bytes-memory.ensures)

pub part-requires : goal.part-requires
part-requires c =
    rw c.bytes-memory.ensures (omega (arith, c.run_length-count.ensures.bound, lies c.args.self.now c.self.inside.len c.self.inside.room c.self.inside.block c.self.view_is c.self.invariant c.args.at c.args.n c.requires))

pub returns : goal.returns
returns c =
    let count = c.run_length-count.result in let at = c.args.at in let n = c.args.n in let room = c.self.inside.room in
    c.part.ensures.items ∙ sym (take-take count n (drop at c.bytes-memory.result.now) c.run_length-count.ensures.bound)
    ∙ run_read c.args.self.now c.self.inside.len room c.self.inside.block c.self.view_is c.self.invariant at n _ c.requires
    (c.run_length-count.ensures.run ∙ ap (λ l. run_of (cells_of (part_of l at n) (part_of (marks_of room l) at n))) c.bytes-memory.ensures)
