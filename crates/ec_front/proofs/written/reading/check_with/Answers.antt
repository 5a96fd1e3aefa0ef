use Rattle.ec_ctypes.specs.views.Checked.{handlers_view}
use Rattle.ec_ctypes.specs.views.Units.{unit_view}
use Rattle.ec_front.proofs.written_lemmas.Checks.{checks_told}
use Rattle.ec_front.proofs.written.reading.check_with.Goals as goal

pub returns-in-Ok : goal.returns-in-Ok
returns-in-Ok c = checks_told (unit_view c.args.unit) c.args.table.hosts (handlers_view c.in-Ok.marks) _ c.requires c.in-Ok.ensures.marks c.check.ensures
