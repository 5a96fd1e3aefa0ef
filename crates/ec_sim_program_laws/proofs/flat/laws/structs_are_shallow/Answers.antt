use Rattle.ec_sim_program_laws.proofs.flat_lemmas.FirstPrograms.{source_is_shallow}
use Rattle.ec_sim_program_laws.proofs.flat.laws.structs_are_shallow.Goals as goal

pub returns : goal.returns
returns c text u reads clean = source_is_shallow text u reads (c.statements_are_read.ensures text u reads)
