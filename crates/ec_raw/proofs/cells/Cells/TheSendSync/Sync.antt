use denote.RattleType.{RattleType}
use denote.Param.Send.{IsSync}
use Rattle.ec_raw.proofs.Crosses.{Cells-sync}
use Rattle.ec_raw.specs.contracts.cells.Cells.{the_row}

pub sync : (R : RattleType) → IsSync R → IsSync (the_row R)
sync = Cells-sync
