use Rattle.std.proofs.Common.{arith}
use Rattle.ec_machine.proofs.Weighing.{err_exit, pushes}
use Rattle.ec_machine.proofs.machine.Machine.call_for.Goals as goal

pub returns-clause-nears : goal.returns-clause-nears
returns-clause-nears c = pushes _ _ _ _ _ _ c.in_ok-push.ensures.ok (omega arith)

pub returns-in_err-push-clause-nears : goal.returns-in_err-push-clause-nears
returns-in_err-push-clause-nears c = err_exit _ _ _ _ _ c.from_residual.ensures.1
