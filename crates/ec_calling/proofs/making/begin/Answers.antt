use Rattle.std.proofs.Common.{subst, sym}
use Rattle.ec_call_defs.specs.Steps.{settled}
use Rattle.ec_runtime.specs.Statements.{call_action, cut_view}
use Rattle.ec_calling.specs.Making.{Begun, going_of, position_at}
use Rattle.ec_calling.proofs.Carrying.{served_begun, unserved}
use Rattle.ec_calling.proofs.making.begin.Goals as goal

pub returns-then-not-has_area-clause-begun : goal.returns-then-not-has_area-clause-begun
returns-then-not-has_area-clause-begun g c = λ turns log. unserved c.args.library.now c.requires.idle log (cut_view c.args.call) c.args.line.0 c.args.store.now turns

pub returns-clause-begun : goal.returns-clause-begun
returns-clause-begun g c = λ turns log.
    subst (λ r. Begun (λ w first s. settled c.args.line.0 (call_action c.args.call s)) c.args.line.0 (position_at c.args.store.now turns log c.args.library.now) (position_at c.start.new.store turns log c.start.new.self) (going_of c.start.new.self) r) (sym c.answered.ensures)
    (served_begun (cut_view c.args.call) c.args.line c.args.store.now c.start.new.store c.args.library.now c.start.new.self turns log c.start.result c.start.ensures.starts)
