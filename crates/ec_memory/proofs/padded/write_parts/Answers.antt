-- The zero bytes begin where the piece ends.
use Rattle.std.proofs.Common.{◌+◌, length, refl, arith}
use Rattle.ec_memory.proofs.Joined.{two_parts}
use Rattle.ec_memory.proofs.padded.write_parts.Goals as goal

pub returns-clause-cells : goal.returns-clause-cells
returns-clause-cells c =
    two_parts c.args.cells.now _ _ c.args.at (c.args.at + length c.args.piece.now) c.args.piece.now c.args.zeros (omega arith) c.write.ensures.cells c.fill.ensures.cells refl
