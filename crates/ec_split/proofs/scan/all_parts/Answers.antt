use Rattle.std.proofs.Common.{◌-◌, [], ◌∷◌, ◌++◌, ap, drop, arith, ◌∙◌}
use Rattle.std.proofs.lemmas.Result.{err_from_is_err_and}
use Rattle.ec_split.proofs.Scans.{PartAt, part_ahead, part_then, part_refused, parts_end, take_most}
use Rattle.ec_language.specs.ReadPieces.{read_pieces, piece_of}
use Rattle.ec_split.proofs.scan.all_parts.Goals as goal

pub returns-in_err-part : goal.returns-in_err-part
returns-in_err-part c =
    let p = err_from_is_err_and c.from_residual.result c.from_residual.ensures.1 in
    let f = c.in_err-part.field-0.0 in
    rw (p.1, p.2) (part_refused c.args.text.now c.loop-at.at c.loop-at.line f.kind f.line.0 c.loop-at.pieces (read_pieces c.args.text.now) c.loop-at-test.true c.in_err-part.ensures.is c.loop-at.invariant.same)

pub loop-at-smaller : goal.loop-at-smaller
loop-at-smaller c =
    let h = c.in_ok-part.ensures in
    let there : PartAt c.args.text.now c.loop-at.at c.loop-at.line c.in_ok-part.part.end c.in_ok-part.part.kind =
    record { inside = c.loop-at-test.true; order = h.within.0; within = h.within.1; is = h.is } in
    let d = part_ahead c.args.text.now c.loop-at.at c.loop-at.line c.in_ok-part.part.end c.in_ok-part.part.kind there in
    omega (arith, d, h.within)

pub loop-at-preserved : goal.loop-at-preserved
loop-at-preserved c =
    let h = c.in_ok-part.ensures in
    let there : PartAt c.args.text.now c.loop-at.at c.loop-at.line c.in_ok-part.part.end c.in_ok-part.part.kind =
    record { inside = c.loop-at-test.true; order = h.within.0; within = h.within.1; is = h.is } in
    let bytes = c.in_ok-from_slice.ensures in
    let pushed = c.in_ok-push.ensures.ok ∙ ap (λ b. c.loop-at.pieces ++ piece_of c.in_ok-part.part.kind b c.loop-at.line ∷ []) bytes in
    let most = take_most (c.in_ok-part.part.end - c.loop-at.at) (drop c.loop-at.at c.args.text.now) in
    record {
      same = part_then c.args.text.now c.loop-at.at c.loop-at.line c.in_ok-part.part.end c.in_ok-part.part.kind c.loop-at.pieces c.push.new.self c.newlines.result
          (read_pieces c.args.text.now) there pushed c.newlines.ensures.is c.loop-at.invariant.same;
      inside = h.within.1;
      early = omega (arith, c.newlines.ensures.most, most, h.within, c.loop-at.invariant.early);
    }

pub returns : goal.returns
returns c = parts_end c.args.text.now c.loop-at.at c.loop-at.line c.loop-at.pieces (read_pieces c.args.text.now) c.loop-at-test.false c.loop-at.invariant.same
