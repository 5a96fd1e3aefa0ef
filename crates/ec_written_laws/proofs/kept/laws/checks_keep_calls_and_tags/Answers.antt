use Rattle.ec_written_laws.proofs.kept_lemmas.Programs.{checked_kept}
use Rattle.ec_written_laws.proofs.kept.laws.checks_keep_calls_and_tags.Goals as goal

pub returns : goal.returns
returns c = checked_kept
