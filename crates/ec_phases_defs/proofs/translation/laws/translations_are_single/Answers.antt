use Rattle.std.proofs.Common.{refl}
use Rattle.ec_phases_defs.specs.translation.Translations.{translated}
use Rattle.ec_phases_defs.specs.translation.Translations.IsTranslation.{translation}
use Rattle.ec_phases_defs.proofs.translation_lemmas.Single.{single}
use Rattle.ec_phases_defs.proofs.translation.laws.translations_are_single.Goals as goal

pub returns : goal.returns
returns c = record {
  one = (λ text a b. single text (c.sources_are_read.ensures.one text) a b);
  there = (λ text. let r = c.sources_are_read.ensures.read text in (translated r.0, translation r.0 r.1 refl));
}
