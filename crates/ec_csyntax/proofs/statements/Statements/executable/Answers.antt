use Rattle.ec_csyntax.proofs.Embedded.{read_executable}
use Rattle.ec_csyntax.proofs.statements.Statements.executable.Goals as goal

pub embedded_number-requires : goal.embedded_number-requires
embedded_number-requires g c = read_executable _ _ _ c.in_ok-token.ensures
