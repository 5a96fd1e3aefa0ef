use Rattle.ec_sound_run_laws.proofs.Tests.{program_so}
use Rattle.ec_sound_run_laws.proofs.laws.what_is_computed_is_sound.Goals as goal

pub returns : goal.returns
returns c = λ signatures p e. program_so signatures p e
