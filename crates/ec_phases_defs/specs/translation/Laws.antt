-- What holds of translations.
use Rattle.std.specs.Prelude.{◌≡◌, Result}
use Rattle.ec_base.specs.declared.stop.Stop.{Stop}
use Rattle.ec_language.specs.Letters.{Text}
use Rattle.ec_phases_defs.specs.translation.Translations.{IsTranslation}

abbrev pub HasOneTranslation : Type 0
HasOneTranslation =
    (text : Text) (a b : Result Text Stop) → IsTranslation text a → IsTranslation text b → a ≡ b

abbrev pub HasTranslation : Type 0
HasTranslation = (text : Text) → (answer : Result Text Stop) × IsTranslation text answer
