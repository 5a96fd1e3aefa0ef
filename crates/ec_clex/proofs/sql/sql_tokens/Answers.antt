use Rattle.ec_clex.proofs.SqlSteps.{statement_told}
use Rattle.ec_clex.proofs.sql.sql_tokens.Goals as goal

pub returns : goal.returns
returns c answer is =
    statement_told c.as_slice-text.result.now c.args.piece.now.bytes c.behind-from.result c.args.piece.now.line.0 c.newlines.result c.tokens_from.result answer
    c.as_slice-text.ensures c.behind-from.ensures.is c.newlines.ensures.is c.tokens_from.ensures is
