use Rattle.ec_front.proofs.unit_lemmas.Phases.{tokens_read, tokens_stop}
use Rattle.ec_front.proofs.unit.reading.unit_of_pieces.Goals as goal

pub returns-in-Ok : goal.returns-in-Ok
returns-in-Ok c = tokens_read _ _ _ _ c.in-Ok.ensures.tokens c.parse.ensures.tree c.parse.ensures.stop

pub returns-in-Err : goal.returns-in-Err
returns-in-Err c = tokens_stop _ _ _ c.in-Err.ensures.stop
