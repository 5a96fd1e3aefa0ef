use Rattle.std.proofs.Common.{ap, sym, ◌∙◌}
use Rattle.ec_sqlitelink.specs.Words.{words_of}
use Rattle.ec_sqlitelink.proofs.WordLemmas.{nothing, words_left, first_none, others_none}
use Rattle.ec_sqlitelink.proofs.words.Words.next.Goals as goal

pub returns-in-empty-clause-word : goal.returns-in-empty-clause-word
returns-in-empty-clause-word c = first_none c.args.self.now.rest.now (sym c.behind_blanks-text.ensures ∙ nothing c.behind_blanks-text.result.now c.in-empty.len_below)

pub returns-in-empty-clause-others : goal.returns-in-empty-clause-others
returns-in-empty-clause-others c =
    ap words_of (nothing c.behind_blanks-text.result.now c.in-empty.len_below)
    ∙ others_none c.args.self.now.rest.now (sym c.behind_blanks-text.ensures ∙ nothing c.behind_blanks-text.result.now c.in-empty.len_below)

pub returns-in-len1-up-clause-others : goal.returns-in-len1-up-clause-others
returns-in-len1-up-clause-others c = words_left c.args.self.now.rest.now c.behind_blanks-text.result.now c.passed.result c.behind_blanks-text.ensures c.in-len1-up.len_at_least c.passed.ensures.counted
