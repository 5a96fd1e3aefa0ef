use Rattle.ec_sim_program_laws.proofs.program_lemmas.CopiedPrograms.{program_copied}
use Rattle.ec_sim_program_laws.proofs.program_lemmas.OfParts.{plain_of, varchars_of, declarations_of}
use Rattle.ec_sim_program_laws.specs.program.Programs.{written_of, blocks_in}
use Rattle.ec_sim_program_laws.proofs.program.programs.written_programs_are_copies.Goals as goal

pub returns : goal.returns
returns c = λ t embedded stand none h walk are.
    program_copied (blocks_in t (written_of embedded t.unit)) embedded t.unit stand none walk are h.expressions h.types h.lengths (plain_of h) (varchars_of h) (declarations_of h)
