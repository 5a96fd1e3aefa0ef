-- The marks are those of the new word.
use Rattle.std.proofs.Common.{arith, ◌∙◌, ap, ◌%◌}
use Rattle.ec_memory_defs.specs.Cells.{written}
use Rattle.ec_bytes.specs.Bits.{all_bits, marks_of, with_bits}
use Rattle.ec_bytes.proofs.BitLaws.{all_fit, all_low, marks_written}
use Rattle.ec_bytes.proofs.bits.mark_few.Goals as goal

pub returns-clause-marks : goal.returns-clause-marks
returns-clause-marks c =
    ap (marks_of c.args.room) c.put_word.ensures
    ∙ marks_written c.args.room c.args.memory.now c.args.at c.args.n c.requires.few.0 c.requires.few.1 (omega (arith, c.requires.inside.0, c.requires.inside.1)) c.word_at.ensures.low (all_bits c.args.n c.args.set) c.with_all-word.result (all_fit c.args.n c.args.set)
    (c.with_all-word.ensures.value ∙ ap (λ w. with_bits w c.args.n (c.args.at % 8) (all_bits c.args.n c.args.set)) c.word_at.ensures.word)
    ∙ ap (written (marks_of c.args.room c.args.memory.now) c.args.at) (all_low c.args.n c.args.set)
