use Rattle.ec_csyntax.proofs.Answered.{answered_tree, answered_stop}
use Rattle.ec_csyntax.proofs.programs.read_unit.Goals as goal

pub returns-in-Ok : goal.returns-in-Ok
returns-in-Ok c = answered_tree _ _ _ _ c.new-cursor.ensures c.in-Ok.ensures

pub returns-in-Err : goal.returns-in-Err
returns-in-Err c = answered_stop _ _ _ _ c.new-cursor.ensures c.in-Err.ensures c.stop_of.ensures
