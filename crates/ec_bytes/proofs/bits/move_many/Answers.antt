-- Where all marks are set, so are they when they are moved.
use Rattle.std.proofs.Common.{◌∙◌, ap, sym, arith}
use Rattle.ec_memory_defs.specs.Cells.{written}
use Rattle.ec_bytes.specs.Bits.{marks_of}
use Rattle.ec_bytes.proofs.MarkLaws.{all_are, length_marks}
use Rattle.ec_bytes.proofs.bits.move_many.Goals as goal

pub returns-then-all_set-clause-marks : goal.returns-then-all_set-clause-marks
returns-then-all_set-clause-marks c =
    let M = marks_of c.args.room c.args.memory.now in
    c.mark.ensures.marks ∙ ap (written M c.args.to) (all_are M c.args.from c.args.n (omega (arith, length_marks c.args.room c.args.memory.now, c.requires.source.0, c.requires.source.1)) (sym c.if-all_set.ensures))
