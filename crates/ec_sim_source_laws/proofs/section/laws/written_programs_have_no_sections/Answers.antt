use Rattle.ec_sim_source_laws.proofs.section_lemmas.Plain.{no_sections}
use Rattle.ec_sim_source_laws.proofs.section.laws.written_programs_have_no_sections.Goals as goal

pub returns : goal.returns
returns c = no_sections
