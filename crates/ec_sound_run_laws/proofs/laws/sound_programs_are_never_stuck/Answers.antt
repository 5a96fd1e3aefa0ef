use Rattle.std.proofs.Common.{List}
use Rattle.ec_meaning_defs.specs.evaluation.Whole.{without_atoms}
use Rattle.ec_sound_defs.specs.Sound.{Signature, no_atoms}
use Rattle.ec_sound_defs.specs.Outcomes.{Serves}
use Rattle.ec_sound_run_laws.proofs.Going.{never_stuck}
use Rattle.ec_sound_run_laws.proofs.laws.sound_programs_are_never_stuck.Goals as goal

-- no atom stands in such a program
nothing_serves : (signatures : List Signature) → Serves signatures no_atoms without_atoms
nothing_serves signatures = record {
  embeds = λ w sound a c st n h s. absurd h;
  libraries = λ w sound c n m h vs g s. absurd h;
}

-- src/laws.rt:12:1
pub returns : goal.returns
returns c = λ signatures p sound turns ready replies. never_stuck signatures no_atoms without_atoms (nothing_serves signatures) p sound turns ready replies
