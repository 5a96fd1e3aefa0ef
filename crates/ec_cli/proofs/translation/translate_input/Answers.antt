use Rattle.ec_cli.proofs.Translations.{translates}
use Rattle.ec_cli.proofs.translation.translate_input.Goals as goal

pub returns-in-Ok : goal.returns-in-Ok
returns-in-Ok g c = translates _ _ _ _ _ _ _ _ c.translate_text.result c.in-Ok.text c.in-Ok.ensures.ok c.translate_text.ensures
