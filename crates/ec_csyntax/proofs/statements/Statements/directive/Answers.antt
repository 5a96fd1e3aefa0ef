use Rattle.ec_csyntax.proofs.Embedded.{read_directive}
use Rattle.ec_csyntax.proofs.statements.Statements.directive.Goals as goal

pub embedded_number-requires : goal.embedded_number-requires
embedded_number-requires g c = read_directive _ _ _ c.in_ok-token.ensures
