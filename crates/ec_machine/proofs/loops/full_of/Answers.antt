use Rattle.std.proofs.Common.{◌∙◌, ap}
use Rattle.ec_code.specs.Views.{expression_view}
use Rattle.ec_machine.proofs.Views.{view-Full}
use Rattle.ec_machine.proofs.loops.full_of.Goals as goal

pub returns-in-Full : goal.returns-in-Full
returns-in-Full c = ap expression_view c.in-Full.is ∙ view-Full c.in-Full.full
