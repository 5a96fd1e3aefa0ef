use Rattle.std.proofs.Common.{ap}
use Rattle.ec_machine.proofs.machine.Machine.go_astray.Goals as goal

pub returns-clause-ended : goal.returns-clause-ended
returns-clause-ended c = ap (λ x. record c.args.self.now { store = x }) c.end_to.ensures
