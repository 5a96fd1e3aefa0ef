use Rattle.std.proofs.Common.{[], arith}
use Rattle.ec_clex.proofs.PieceTokens.{pieces_total, pieces_units, answer_tokens, answer_ends, answer_only, answer_stop, answer_stops}
use Rattle.ec_clex.proofs.lexer.tokens.Goals as goal

pub read_tokens-requires-clause-small : goal.read_tokens-requires-clause-small
read_tokens-requires-clause-small c =
    let few = pieces_total 1 c.requires.0 c.args.pieces.now [] c.requires.2 in
    rw c.as_slice.ensures (omega (arith, few, c.requires.1))

pub read_tokens-requires-clause-few : goal.read_tokens-requires-clause-few
read_tokens-requires-clause-few c =
    let few = pieces_total 1 c.requires.0 c.args.pieces.now [] c.requires.2 in
    rw c.as_slice.ensures (omega (arith, few, c.requires.1))

pub read_tokens-requires-clause-units : goal.read_tokens-requires-clause-units
read_tokens-requires-clause-units c = rw c.as_slice.ensures (pieces_units c.args.written c.requires.0 c.args.pieces.now c.requires.2)

pub returns-clause-tokens : goal.returns-clause-tokens
returns-clause-tokens c =
    let told = rw c.as_slice.ensures at c.read_tokens.ensures in answer_tokens c.args.written c.requires.0 c.args.pieces.now c.read_tokens.result c.requires.2 told

pub returns-clause-only : goal.returns-clause-only
returns-clause-only c = let told = rw c.as_slice.ensures at c.read_tokens.ensures in answer_only c.args.written c.args.pieces.now c.read_tokens.result told

pub returns-clause-stop : goal.returns-clause-stop
returns-clause-stop c = let told = rw c.as_slice.ensures at c.read_tokens.ensures in answer_stop c.args.written c.requires.0 c.args.pieces.now c.read_tokens.result c.requires.2 told

pub returns-clause-stops : goal.returns-clause-stops
returns-clause-stops c = let told = rw c.as_slice.ensures at c.read_tokens.ensures in answer_stops c.args.written c.args.pieces.now c.read_tokens.result told

pub returns-clause-ends : goal.returns-clause-ends
returns-clause-ends c =
    let told = rw c.as_slice.ensures at c.read_tokens.ensures in answer_ends c.args.written c.requires.0 c.args.pieces.now c.read_tokens.result c.requires.2 told
