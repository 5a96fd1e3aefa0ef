use Rattle.ec_call_defs.specs.Steps.{library_step}
use Rattle.ec_sound_run_laws.proofs.Going.{never_stuck}
use Rattle.ec_sound_defs.specs.Written.{library_atoms}
use Rattle.ec_sound_run_laws.proofs.Step.{library_serves}
use Rattle.ec_sound_run_laws.proofs.laws.sound_written_programs_are_never_stuck.Goals as goal

-- src/laws.rt:16:1
pub returns : goal.returns
returns c = λ signatures calls p sound turns ready replies. never_stuck signatures (library_atoms signatures calls) (library_step calls) (library_serves signatures calls) p sound turns ready replies
