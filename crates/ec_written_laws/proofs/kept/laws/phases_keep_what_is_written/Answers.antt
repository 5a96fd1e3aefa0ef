use Rattle.ec_written_laws.proofs.kept_lemmas.Both.{phases_kept}
use Rattle.ec_written_laws.proofs.kept.laws.phases_keep_what_is_written.Goals as goal

pub returns : goal.returns
returns c = phases_kept
