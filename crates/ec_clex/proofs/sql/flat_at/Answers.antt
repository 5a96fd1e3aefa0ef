use Rattle.std.proofs.Common.{◌∙◌, sym}
use Rattle.ec_clex.proofs.FlatTokens.{word_flat, plain_flat, single_flat}
use Rattle.ec_clex.proofs.sql.flat_at.Goals as goal

pub returns-then-is_plain_word_start-clause-is : goal.returns-then-is_plain_word_start-clause-is
returns-then-is_plain_word_start-clause-is c =
    plain_flat c.args.text.now c.args.at c.behind_all.result c.requires.inside (sym c.is_plain_word_start.ensures ∙ c.if-is_plain_word_start.true) c.behind_all.ensures.rest

pub returns-then-not-begins_colons-clause-is : goal.returns-then-not-begins_colons-clause-is
returns-then-not-begins_colons-clause-is c =
    single_flat c.args.text.now c.args.at c.requires.inside c.requires.solid (sym c.is_single.ensures ∙ c.if-is_single.true) (sym c.begins_colons.ensures ∙ c.if-not-begins_colons.true)

pub returns-then-not-begins_escaped-clause-is : goal.returns-then-not-begins_escaped-clause-is
returns-then-not-begins_escaped-clause-is c =
    word_flat c.args.text.now c.args.at c.behind_all-then-not-begins_escaped.result c.requires.inside (sym c.is_sql_word_start.ensures ∙ c.if-is_sql_word_start.true)
    (sym c.begins_escaped.ensures.is ∙ c.if-not-begins_escaped.true) c.behind_all-then-not-begins_escaped.ensures.rest
