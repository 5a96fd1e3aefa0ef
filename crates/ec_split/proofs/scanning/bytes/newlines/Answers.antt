use Rattle.std.proofs.Common.{arith}
use Rattle.ec_split.proofs.Lanes.{lines_behind, lines_within}
use Rattle.ec_split.proofs.scanning.bytes.newlines.Goals as goal

pub overflow_add-count : goal.overflow_add-count
overflow_add-count c = omega (arith, c.newlines_in_16-count.ensures, lines_within c.args.bytes.now c.loop-at.at 16 (omega arith))

pub loop-at-preserved : goal.loop-at-preserved
loop-at-preserved c =
    let e = lines_behind c.args.bytes.now c.loop-at.at 16 in
    let f = lines_within c.args.bytes.now c.loop-at.at 16 (omega arith) in
    record {
      so_far = omega (arith, c.newlines_in_16-count.ensures, e, c.loop-at.invariant.so_far);
      few = omega (arith, c.newlines_in_16-count.ensures, f);
      inside = omega arith;
    }
