use Rattle.ec_sim_program_laws.proofs.program_lemmas.CopiedStatements.{statement_copied, items_copied}
use Rattle.ec_sim_program_laws.proofs.program_lemmas.OfParts.{plain_of, varchars_of}
use Rattle.ec_sim_program_laws.specs.program.Programs.{whole_by}
use Rattle.ec_sim_program_laws.proofs.program.statements.written_statements_are_copied.Goals as goal

pub returns : goal.returns
returns c = record {
  alone = λ t forms calls numbers w es embedded h walk are body loop labels result s stands line behind.
      statement_copied (whole_by t forms calls numbers w) walk es embedded are h.expressions (plain_of h) (varchars_of h) body loop labels result s stands line behind;
  items = λ t forms calls numbers w es embedded h walk are body loop labels result ss stand line behind.
      items_copied (whole_by t forms calls numbers w) walk es embedded are h.expressions (plain_of h) (varchars_of h) body loop labels result ss stand line behind;
}
