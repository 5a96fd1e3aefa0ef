-- A text that is read in one way is translated in one way.
use Rattle.std.proofs.Common.{◌≡◌, Result, ap, sym, ◌∙◌}
use Rattle.ec_base.specs.declared.stop.Stop.{Stop}
use Rattle.ec_language.specs.Letters.{Text}
use Rattle.ec_phases_defs.specs.Sources.{BoundProgram, ReadsSource}
use Rattle.ec_phases_defs.specs.translation.Translations.{translated, IsTranslation}
use Rattle.ec_phases_defs.specs.translation.Translations.IsTranslation.{translation}

pub single : (text : Text) → ((s s' : Result BoundProgram Stop) → ReadsSource text s → ReadsSource text s' → s ≡ s')
    → (a b : Result Text Stop) → IsTranslation text a → IsTranslation text b → a ≡ b
single text one a b (translation s r e) (translation s' r' e') = e ∙ ap translated (one s s' r r') ∙ sym e'
