use Rattle.ec_execute.proofs.source_lemmas.Keeping.{kept}
use Rattle.ec_execute.proofs.source.laws.translations_keep_meanings.Goals as goal

pub returns : goal.returns
returns c = λ text w bytes h.
    kept c.translations_are_single.ensures.one c.written_texts_are_run.ensures c.written_texts_mean_the_same.ensures.read c.written_texts_mean_the_same.ensures.means text w bytes h
