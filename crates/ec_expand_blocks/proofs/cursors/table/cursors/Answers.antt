use Rattle.std.proofs.Common.{rules, ◌≡◌, get_or}
use Rattle.ec_expand_blocks.proofs.cursors_lemmas.Declares.{numbers_turn, known_turn}
use Rattle.ec_expand_blocks.proofs.cursors.table.cursors.Goals as goal

pub loop-number-preserved : goal.loop-number-preserved
loop-number-preserved c =
    let is : c.index-embs-number.result ≡ get_or c.as_slice-embs.result.now c.loop-number.number c.index-embs-number.result = search rules in
    record {
      whole = numbers_turn c.as_slice-embs.result.now c.loop-number.number c.index-embs-number.result c.loop-number-test.true is
          c.loop-number.numbers c.push.new.self c.in_ok-number_opened.field-0 c.loop-number.known (search rules) c.in_ok-number_opened.ensures c.loop-number.invariant.known c.loop-number.invariant.whole;
      known = known_turn c.as_slice-embs.result.now c.loop-number.number c.index-embs-number.result c.loop-number-test.true is
          c.loop-number.known c.add_cursor.new.known c.in_ok-add_cursor.ensures c.loop-number.invariant.known;
    }
