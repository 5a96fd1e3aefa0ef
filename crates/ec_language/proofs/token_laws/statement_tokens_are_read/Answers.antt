use Rattle.ec_language.proofs.StatementTokens.{one_sql_answer, has_tokens, statements_have_tokens}
use Rattle.ec_language.proofs.token_laws.statement_tokens_are_read.Goals as goal

pub returns : goal.returns
returns c = record { one = one_sql_answer; there = has_tokens; of_pieces = statements_have_tokens }
