use Rattle.std.proofs.Common.{arith}
use Rattle.ec_machine.proofs.Weighing.{nearer}
use Rattle.ec_machine.proofs.machine.Machine.fill.Goals as goal

pub returns-clause-nears : goal.returns-clause-nears
returns-clause-nears c = nearer _ _ _ _ (omega arith)
