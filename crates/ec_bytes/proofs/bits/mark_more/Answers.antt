-- More of them are written.
use Rattle.std.proofs.Common.{◌≡◌, ◌∙◌, ◌+◌, ◌-◌, ap, sym, refl, replicate, arith}
use Rattle.ec_memory_defs.specs.Cells.{written}
use Rattle.ec_bytes.specs.Bits.{mark_of, marks_of}
use Rattle.ec_bytes.proofs.MarkLaws.{length_marks, more_written, none_written}
use Rattle.ec_bytes.proofs.bits.mark_more.Goals as goal

pub loop-done-preserved : goal.loop-done-preserved
loop-done-preserved c =
    let i = c.loop-done.invariant in let M = marks_of c.args.room c.args.memory.now in let m = mark_of c.args.set in record {
      some = omega (arith, c.loop-done-test.true);
      marks = c.mark_wide.ensures.marks ∙ ap (λ l. written l (c.args.at + c.loop-done.done) (replicate 56 m)) i.marks
          ∙ more_written M c.args.at c.loop-done.done 56 m (c.args.at + c.loop-done.done) refl (omega (arith, c.loop-done-test.true, length_marks c.args.room c.args.memory.now, c.requires.inside.0, c.requires.inside.1));
      bytes = c.mark_wide.ensures.bytes ∙ i.bytes;
      length = c.mark_wide.ensures.length ∙ i.length;
    }

pub returns-clause-marks : goal.returns-clause-marks
returns-clause-marks c =
    let i = c.loop-done.invariant in let M = marks_of c.args.room c.args.memory.now in let m = mark_of c.args.set in
    let rest = c.args.n - c.loop-done.done in
    let all : c.loop-done.done + rest ≡ c.args.n = omega (arith, i.some) in
    c.mark_wide-2.ensures.marks ∙ ap (λ l. written l (c.args.at + c.loop-done.done) (replicate rest m)) i.marks
    ∙ more_written M c.args.at c.loop-done.done rest m (c.args.at + c.loop-done.done) refl (omega (arith, all, length_marks c.args.room c.args.memory.now, c.requires.inside.0, c.requires.inside.1))
    ∙ ap (λ k. written M c.args.at (replicate k m)) all
