-- One cell.
use Rattle.std.proofs.Common.{refl}
use Rattle.ec_memory.proofs.Singles.{one_byte, no_byte}
use Rattle.ec_memory.proofs.reads.byte_at.Goals as goal

pub returns-in-Some : goal.returns-in-Some
returns-in-Some c = one_byte c.args.cells.now c.args.at c.in-Some.bytes.now _ c.requires c.in-Some.ensures.cells refl

pub returns-in-None : goal.returns-in-None
returns-in-None c = no_byte c.args.cells.now c.args.at c.requires c.in-None.ensures.cells
