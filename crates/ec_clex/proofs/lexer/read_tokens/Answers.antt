use Rattle.std.proofs.Common.{subst, ap, ◌∙◌, Bool, arith}
use Rattle.std.proofs.lemmas.List.{length-map}
use Rattle.ec_ctypes.specs.views.Tokens.{token_view, tokens_view}
use Rattle.ec_language.specs.ReadTokens.{read_tokens}
use Rattle.ec_clex.specs.Items.{Told}
use Rattle.ec_clex.specs.Lexing.{mid_of, taken_of, piece_told}
use Rattle.ec_clex.proofs.Rests.{told_err}
use Rattle.ec_clex.proofs.PieceTokens.{piece_stops, pieces_end, tokens_few}
use Rattle.ec_clex.proofs.lexer.read_tokens.Goals as goal

pub returns-in-Err : goal.returns-in-Err
returns-in-Err c =
    let l = c.loop-piece in
    told_err (λ (u : Unit {0}). mid_of l.lexer) tokens_view c.in-Err.stop (piece_told l.lexer.here.written l.lexer.statements (mid_of l.lexer) c.piece-item.result) (read_tokens c.args.written c.args.pieces.now)
    (λ stop e. piece_stops c.args.written c.args.pieces.now l.piece-index l.lexer.statements (mid_of l.lexer) c.piece-item.result stop c.loop-piece-test.true c.piece-item.is l.invariant.same
    (e ∙ ap (λ (w : Bool). piece_told w l.lexer.statements (mid_of l.lexer) c.piece-item.result) l.invariant.source)) c.in-Err.ensures.is

pub finish-requires : goal.finish-requires
finish-requires c =
    let l = c.loop-piece in
    let end = pieces_end c.args.written c.args.pieces.now l.piece-index l.lexer.statements (mid_of l.lexer) c.loop-piece-test.false l.invariant.same in
    let few = tokens_few c.args.written c.args.pieces.now l.lexer.here.line (taken_of l.lexer) end in
    omega (arith, few, length-map l.lexer.tokens token_view)

pub returns : goal.returns
returns c =
    let l = c.loop-piece in
    let end = pieces_end c.args.written c.args.pieces.now l.piece-index l.lexer.statements (mid_of l.lexer) c.loop-piece-test.false l.invariant.same in
    subst (Told tokens_view c.finish.result) end c.finish.ensures
