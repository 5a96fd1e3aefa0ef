use Rattle.std.proofs.Common.{sym, subst, Ok}
use Rattle.ec_phases_defs.specs.translation.Translations.{IsTranslation}
use Rattle.ec_execute.proofs.source_lemmas.Telling.{not_translated}
use Rattle.ec_execute.proofs.source.reading.read_source.Goals as goal

pub read_back-requires : goal.read_back-requires
read_back-requires c = subst (λ w. IsTranslation c.args.text.now (Ok w)) (sym c.as_slice.ensures) c.in-Ok.ensures.answer

pub returns-in-Err : goal.returns-in-Err
returns-in-Err c = not_translated c.args.text.now c.in-Err.stop c.in-Err.ensures.answer
