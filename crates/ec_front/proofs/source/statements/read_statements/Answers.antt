use Rattle.std.proofs.Common.{sym, ◌∙◌}
use Rattle.ec_front.proofs.source_lemmas.Reading.{kept_other, kept_statement, stopped_at, ended_at}
use Rattle.ec_front.proofs.source.statements.read_statements.Goals as goal
use Rattle.ec_front.proofs.source.statements.read_statements.Goals.{then-is_statement+in-Ok, else-is_statement}

pub returns-in-Err : goal.returns-in-Err
returns-in-Err c =
    stopped_at c.args.pieces.now c.args.places.now c.loop-piece.piece-index c.piece-item.result c.loop-piece-test.true c.piece-item.is c.loop-piece.next c.loop-piece.statements c.loop-piece.invariant
    c.add_statement.new.statements c.in-Err.stop (sym c.is_statement.ensures ∙ c.if-is_statement.true) c.in-Err.ensures

pub loop-piece-preserved : goal.loop-piece-preserved
loop-piece-preserved c = elim c.if-is_statement.branch [
  | then-is_statement+in-Ok w ↦ rw w.next-is (rw w.statements-is (
      kept_statement c.args.pieces.now c.args.places.now c.loop-piece.piece-index c.piece-item.result c.loop-piece-test.true c.piece-item.is c.loop-piece.next c.loop-piece.statements c.loop-piece.invariant
      w.add_statement.new.statements (sym c.is_statement.ensures ∙ w.if-is_statement.true) w.in-Ok.ensures))
  | else-is_statement w ↦ rw w.next-is (rw w.statements-is (
      kept_other c.args.pieces.now c.args.places.now c.loop-piece.piece-index c.piece-item.result c.loop-piece-test.true c.piece-item.is c.loop-piece.next c.loop-piece.statements c.loop-piece.invariant
      (sym c.is_statement.ensures ∙ w.if-is_statement.false)))
]

pub returns : goal.returns
returns c = ended_at c.args.pieces.now c.args.places.now c.loop-piece.piece-index c.loop-piece.next c.loop-piece.statements c.loop-piece-test.false c.loop-piece.invariant
