-- The trees of sources in which the phase of declare sections finds no fault.
use Rattle.std.specs.Prelude.{◌≡◌, ℕ, true, List, Ok}
use Rattle.ec_ctypes.specs.trees.Units.{UnitData}
use Rattle.ec_language.specs.Letters.{Text}
use Rattle.ec_phases_defs.specs.Sources.{ReadsTree}
use Rattle.ec_sim_program_laws.specs.program.Shape.{TopsStand}
use Rattle.ec_host_defs.specs.sections.Answers.{hosts_answer}
use Rattle.ec_written_laws.specs.source.SourceShape.{is_source_shape}
use Rattle.ec_sim_program_laws.proofs.standing_lemmas.Lengths.{unit_lengths}
use Rattle.ec_sim_program_laws.proofs.standing_lemmas.Standing.{unit_stands}
use Rattle.ec_sim_program_laws.proofs.standing_lemmas.Tokens.{source_there}

pub source_stands : (text : Text) (u : UnitData) (hosts : List ℕ) → ReadsTree text (Ok u) → hosts_answer u ≡ Ok hosts → is_source_shape u ≡ true → TopsStand u.embs u.tops
source_stands text u hosts r e h = unit_stands u h (unit_lengths u hosts e) (source_there text u r)
