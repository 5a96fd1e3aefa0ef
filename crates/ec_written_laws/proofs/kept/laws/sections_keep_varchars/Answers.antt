use Rattle.ec_written_laws.proofs.kept_lemmas.Sections.{unit_kept}
use Rattle.ec_written_laws.proofs.kept.laws.sections_keep_varchars.Goals as goal

pub returns : goal.returns
returns c = unit_kept
