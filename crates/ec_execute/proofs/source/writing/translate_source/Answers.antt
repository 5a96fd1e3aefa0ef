use Rattle.std.proofs.Common.{arith}
use Rattle.ec_execute.proofs.source_lemmas.Keeping.{kept_in}
use Rattle.ec_execute.proofs.source_lemmas.Telling.{bytes_are}
use Rattle.ec_execute.proofs.source.writing.translate_source.Goals as goal

pub returns-clause-answer : goal.returns-clause-answer
returns-clause-answer c = c.translate.ensures.answer

pub returns-clause-only : goal.returns-clause-only
returns-clause-only c = c.translate.ensures.only

pub returns-clause-means : goal.returns-clause-means
returns-clause-means c =
    kept_in c.translations_keep_meanings.ensures c.args.text.now (bytes_are c.args.text.now (λ i. omega (arith, c.type_inv.text i))) c.translate.result c.translate.ensures.answer
