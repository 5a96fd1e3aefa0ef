use Rattle.ec_ctypes.specs.views.Checked.{bound_view, typed_view}
use Rattle.std.proofs.Common.{map, ap}
use Rattle.ec_phases_defs.specs.Sources.{program_with}
use Rattle.ec_front.proofs.source_lemmas.Wholes.{no_bounds}
use Rattle.ec_front.proofs.source.whole.with_bounds.Goals as goal

pub returns-in-Ok : goal.returns-in-Ok
returns-in-Ok c = ap (program_with (typed_view c.args.program)) c.in-Ok.ensures

pub returns-in-Err : goal.returns-in-Err
returns-in-Err c = no_bounds (typed_view c.args.program) (map bound_view) c.in-Err.stop c.in-Err.ensures
