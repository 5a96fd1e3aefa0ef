use Rattle.std.proofs.Common.{◌≡◌, ◌+◌, ◌^◌, ◌≤◌, length, drop}
use Rattle.ec_clex.specs.Lexing.{mid_of, start, pieces_told, total, AllUnits}
use Rattle.ec_clex.proofs.lexer.read_tokens.Given as goal

abbrev pub invariant-loop-piece : goal.invariant-loop-piece
invariant-loop-piece l = record {
  same : pieces_told l.written l.lexer.statements (mid_of l.lexer) (drop l.piece-index l.pieces) ≡ pieces_told l.written 0 (start l.written) l.pieces;
  source : l.lexer.here.written ≡ l.written;
  early : l.lexer.here.line + total (drop l.piece-index l.pieces) ≤ 10 ^ 9 + 2 ^ 24;
  small : total (drop l.piece-index l.pieces) ≤ 2 ^ 24;
  few : l.lexer.statements + length (drop l.piece-index l.pieces) ≤ 2 ^ 24;
  units : AllUnits l.written (drop l.piece-index l.pieces);
}
