use Rattle.std.proofs.Common.{Err}
use Rattle.ec_clex.specs.Sql.{sql_views}
use Rattle.ec_read_statement.proofs.Telling.{at_its_end, statement_told, answer_told, tokens_told, untold_statement, untold_answer, stop_is_told}
use Rattle.ec_read_statement.proofs.answers.read_statement.Goals as goal

pub returns-in-Ok-clause-statement : goal.returns-in-Ok-clause-statement
returns-in-Ok-clause-statement c wanted =
    statement_told c.args.piece.now c.args.place (sql_views c.in-Ok.tokens) c.statement.result wanted c.in-Ok.ensures
    (at_its_end c.args.piece.now c.args.place c.as_slice-in-Ok.result.now c.in-Ok.tokens c.as_slice.result.now c.newlines-lines.result c.statement.result c.as_slice-in-Ok.ensures c.as_slice.ensures c.newlines-lines.ensures.is c.statement.ensures)

pub returns-in-Ok-clause-answer : goal.returns-in-Ok-clause-answer
returns-in-Ok-clause-answer c tokens =
    answer_told c.args.piece.now c.args.place (sql_views c.in-Ok.tokens) tokens c.statement.result c.in-Ok.ensures
    (at_its_end c.args.piece.now c.args.place c.as_slice-in-Ok.result.now c.in-Ok.tokens c.as_slice.result.now c.newlines-lines.result c.statement.result c.as_slice-in-Ok.ensures c.as_slice.ensures c.newlines-lines.ensures.is c.statement.ensures)

pub returns-in-Ok-clause-no_tokens : goal.returns-in-Ok-clause-no_tokens
returns-in-Ok-clause-no_tokens c stop is = tokens_told (sql_views c.in-Ok.tokens) stop c.statement.result (c.in-Ok.ensures (Err stop) is)

pub returns-in-Err-clause-statement : goal.returns-in-Err-clause-statement
returns-in-Err-clause-statement c wanted = untold_statement c.args.piece.now c.args.place c.in-Err.stop wanted c.in-Err.ensures

pub returns-in-Err-clause-answer : goal.returns-in-Err-clause-answer
returns-in-Err-clause-answer c tokens = untold_answer c.args.piece.now c.args.place c.in-Err.stop tokens c.in-Err.ensures

pub returns-in-Err-clause-no_tokens : goal.returns-in-Err-clause-no_tokens
returns-in-Err-clause-no_tokens c stop is = stop_is_told c.in-Err.stop stop (c.in-Err.ensures (Err stop) is)
