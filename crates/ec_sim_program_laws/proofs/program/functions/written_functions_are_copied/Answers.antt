use Rattle.ec_sim_program_laws.proofs.program_lemmas.CopiedFunctions.{function_copied}
use Rattle.ec_sim_program_laws.proofs.program_lemmas.CopiedPrograms.{tops_copied}
use Rattle.ec_sim_program_laws.proofs.program_lemmas.OfParts.{plain_of, varchars_of, declarations_of}
use Rattle.ec_sim_program_laws.specs.program.Programs.{whole_by}
use Rattle.ec_sim_program_laws.proofs.program.functions.written_functions_are_copied.Goals as goal

pub returns : goal.returns
returns c = record {
  functions = λ t forms calls numbers w es embedded h walk are f based sized stands behind ts.
      function_copied (whole_by t forms calls numbers w) walk es embedded are h.expressions h.types h.lengths (plain_of h) (varchars_of h) f based sized stands behind ts;
  tops = λ t forms calls numbers w es embedded h walk are ts stand behind.
      tops_copied (whole_by t forms calls numbers w) walk es embedded are h.expressions h.types h.lengths (plain_of h) (varchars_of h) (declarations_of h) ts stand behind;
}
