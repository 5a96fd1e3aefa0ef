use Rattle.std.proofs.Common.{◌≡◌, ◌-◌, length, take, drop, ap, ◌∙◌, arith}
use Rattle.std.proofs.lemmas.Grind.{common_steps}
use Rattle.ec_clex.specs.Sql.{sql_views}
use Rattle.ec_read_statement.specs.Answers.{first_line}
use Rattle.ec_read_statement.proofs.Telling.{last_views}
use Rattle.ec_read_statement.proofs.answers.last_line.Goals as goal

pub returns : goal.returns
returns c =
    let tokens = c.args.tokens.now in
    let from = c.saturating_sub-from.result in
    let to_end : take (length tokens - from) (drop from tokens) ≡ drop from tokens = grind (arith, common_steps) in
    c.first_line.ensures
    ∙ ap (λ l. first_line c.args.end.0 (sql_views l)) to_end
    ∙ ap (first_line c.args.end.0) (ap (λ n. sql_views (drop n tokens)) c.saturating_sub-from.ensures ∙ last_views c.args.left tokens)
