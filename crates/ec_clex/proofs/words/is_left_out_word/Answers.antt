use Rattle.std.proofs.Common.{◌≡◌, ◌∙◌, sym, rules}
use Rattle.ec_language.specs.Letters.{same_text}
use Rattle.ec_split.specs.WordTables.{word_in}
use Rattle.ec_clex.proofs.LeftOut.{left_out_table, left_out_word}
use Rattle.ec_clex.proofs.words.is_left_out_word.Goals as goal

pub returns : goal.returns
returns c =
    let word = c.args.word.now in
    let found : c.eq.result ≡ same_text (word_in left_out_table word) word = search rules in
    found ∙ left_out_word word (sym c.is_empty.ensures ∙ c.if-is_empty.false)
