use Rattle.std.proofs.Common.{drop}
use Rattle.ec_front.proofs.source_lemmas.Reading.{IsReading}
use Rattle.ec_front.proofs.source.statements.read_statements.Given as goal

abbrev pub invariant-loop-piece : goal.invariant-loop-piece
invariant-loop-piece l = IsReading l.pieces l.places (drop l.piece-index l.pieces) l.next l.statements
