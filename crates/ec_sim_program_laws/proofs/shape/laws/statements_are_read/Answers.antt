use Rattle.ec_sim_program_laws.proofs.shape_lemmas.StatementsRead.{statements_read}
use Rattle.ec_sim_program_laws.proofs.shape.laws.statements_are_read.Goals as goal

pub returns : goal.returns
returns c = λ text u r. statements_read text u r
