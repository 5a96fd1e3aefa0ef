use Rattle.ec_sound_statement_laws.proofs.Scopes.{function_known}
use Rattle.ec_sound_statement_laws.proofs.laws.functions_are_known.Goals as goal

pub returns : goal.returns
returns c = function_known
