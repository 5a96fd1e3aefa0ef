use Rattle.ec_sim_program_laws.proofs.program_lemmas.OfParts.{plain_of, varchars_of, declarations_of}
use Rattle.ec_sim_program_laws.proofs.program.declarations.written_declarations_are_alike.Goals as goal

pub returns : goal.returns
returns c = record {
  plain = plain_of;
  varchars = varchars_of;
  declarations = declarations_of;
}
