use denote.RattleType.{RattleType}
use denote.Param.Send.{IsSend}
use Rattle.ec_raw.proofs.Crosses.{Cells-send}
use Rattle.ec_raw.specs.contracts.cells.Cells.{the_row}

pub send : (R : RattleType) → IsSend R → IsSend (the_row R)
send = Cells-send
