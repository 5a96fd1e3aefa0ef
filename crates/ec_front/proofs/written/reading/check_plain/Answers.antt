use Rattle.std.proofs.Common.{Ok}
use Rattle.ec_ctypes.specs.views.Units.{unit_view}
use Rattle.ec_host_defs.specs.sections.Answers.{hosts_answer}
use Rattle.ec_phases_defs.specs.written.Written.{checked_plain}
use Rattle.ec_front.proofs.written_lemmas.Checks.{sections_found, sections_told}
use Rattle.ec_front.proofs.written.reading.check_plain.Goals as goal

pub returns-in-Ok : goal.returns-in-Ok
unfolding checked_plain
returns-in-Ok c = sections_found (unit_view c.args.unit) (Ok c.in-Ok.table.hosts) (hosts_answer (unit_view c.args.unit)) _ c.in-Ok.ensures c.check_with.ensures

pub returns-in-Err : goal.returns-in-Err
unfolding checked_plain
returns-in-Err c = sections_told (unit_view c.args.unit) (hosts_answer (unit_view c.args.unit)) c.in-Err.stop c.in-Err.ensures
