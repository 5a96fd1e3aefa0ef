use Rattle.ec_sim_statement_laws.proofs.expression_lemmas.AlikeInitializers.{parts_stored_silent}
use Rattle.ec_sim_statement_laws.proofs.expression.initializers.stored_parts_call_no_library.Goals as goal

pub returns : goal.returns
returns c = λ at ps h parts. parts_stored_silent at h ps parts
