use Rattle.ec_front.proofs.unit_lemmas.Phases.{pieces_read, split_stops}
use Rattle.ec_front.proofs.unit.reading.unit_of_text.Goals as goal

pub returns-in-Ok : goal.returns-in-Ok
returns-in-Ok c = pieces_read _ _ _ c.requires c.in-Ok.ensures.pieces _ c.unit_of_pieces.ensures

pub returns-in-Err : goal.returns-in-Err
returns-in-Err c = split_stops _ _ _ c.requires c.in-Err.ensures.fault c.in-Err.ensures.no_limit
