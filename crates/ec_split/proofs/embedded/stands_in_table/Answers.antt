use Rattle.std.proofs.Common.{◌≡◌, ◌∙◌, sym, rules}
use Rattle.ec_language.specs.Letters.{same_text}
use Rattle.ec_split.specs.WordTables.{word_in}
use Rattle.ec_split.proofs.Walks.{type_table, type_word}
use Rattle.ec_split.proofs.embedded.stands_in_table.Goals as goal

pub returns : goal.returns
returns c =
    let word = c.args.word.now in
    let found : c.eq.result ≡ same_text (word_in type_table word) word = search rules in
    found ∙ type_word word (sym c.is_empty.ensures ∙ c.if-is_empty.false)
