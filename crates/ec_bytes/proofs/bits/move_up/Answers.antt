-- More marks are moved.
use Rattle.std.proofs.Common.{◌≡◌, ◌∙◌, ◌+◌, ◌-◌, ◌≤◌, ap, take, drop, arith}
use Rattle.ec_memory_defs.specs.Cells.{written}
use Rattle.ec_bytes.specs.Bits.{marks_of}
use Rattle.ec_bytes.proofs.MarkLaws.{length_marks, moved_up}
use Rattle.ec_bytes.proofs.bits.move_up.Goals as goal

pub loop-left-preserved : goal.loop-left-preserved
loop-left-preserved c =
    let i = c.loop-left.invariant in let k = c.at_most_eight-k.result in
    let few : k ≤ c.loop-left.left = c.at_most_eight-k.ensures.0 in
    let left = c.loop-left.left - k in
    let whole : c.loop-left.left ≡ left + k = omega (arith, few) in
    let M = marks_of c.args.room c.args.memory.now in record {
      within = omega (arith, i.within);
      marks = c.move_up_to.ensures.marks
          ∙ moved_up M (marks_of c.args.room c.loop-left.memory) c.args.from c.args.to left k c.args.n c.requires.behind
          (omega (arith, length_marks c.args.room c.args.memory.now, c.requires.target.0, c.requires.target.1)) (omega (arith, whole, i.within))
          (i.marks ∙ ap (λ j. written M (c.args.to + j) (take (c.args.n - j) (drop (c.args.from + j) M))) whole);
      bytes = c.move_up_to.ensures.bytes ∙ i.bytes;
      length = c.move_up_to.ensures.length ∙ i.length;
    }
