use Rattle.std.proofs.Common.{◌∙◌, sym, ap, false}
use Rattle.std.specs.Prelude.{◌||◌}
use Rattle.ec_clex.specs.Sql.{sql_views}
use Rattle.ec_embedded.specs.LeftOut.{names_area}
use Rattle.ec_read_statement.specs.left_out.Words.{may_use}
use Rattle.ec_read_statement.proofs.left_out_lemmas.Telling.{left_out_is}
use Rattle.ec_read_statement.proofs.left_out.words.is_left_out.Goals as goal

pub returns-then-is_left_out_by_words : goal.returns-then-is_left_out_by_words
returns-then-is_left_out_by_words c =
    c.if-is_left_out_by_words.true
    ∙ ap (λ b. b || names_area (may_use (sql_views c.args.tokens.now)) 0 false (sql_views c.args.tokens.now)) (sym c.if-is_left_out_by_words.true ∙ c.is_left_out_by_words.ensures)
    ∙ left_out_is (sql_views c.args.tokens.now)
