use Rattle.ec_phases_defs.proofs.Order.{stand_in_order}
use Rattle.ec_phases_defs.proofs.Places.{are_numbered}
use Rattle.ec_phases_defs.proofs.laws.statements_have_places.Goals as goal

pub returns : goal.returns
returns c = record { places = (λ pieces ts are. (are_numbered pieces ts are).0); order = stand_in_order }
