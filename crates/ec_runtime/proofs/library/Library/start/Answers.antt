use Rattle.std.proofs.Common.{refl, subst, sym}
use Rattle.ec_runtime.specs.Calling.{Stays}
use Rattle.ec_runtime.specs.Statements.{cut_view}
use Rattle.ec_runtime.proofs.Calls.{settled_fits, settled_starts}
use Rattle.ec_runtime.proofs.library.Library.start.Goals as goal

pub returns-clause-starts : goal.returns-clause-starts
returns-clause-starts g c =
    settled_starts (cut_view c.args.it) c.args.it.line c.args.store.now c.begin_call-part.new.store c.args.self.now c.settle.new.self c.begin_call-part.new.library c.begin_call-part.new.areas c.begin_call-part.result c.settle.result refl
    c.settle.ensures.under_way c.settle.ensures.result c.settle.ensures.connections c.settle.ensures.areas c.begin_call-part.ensures.leads

pub returns-clause-fits : goal.returns-clause-fits
returns-clause-fits g c =
    settled_fits c.args.it.line c.settle.new.self c.begin_call-part.new.library c.begin_call-part.new.areas c.begin_call-part.result c.settle.ensures.under_way c.settle.ensures.connections c.settle.ensures.areas c.begin_call-part.ensures.fits

pub returns-clause-stays : goal.returns-clause-stays
returns-clause-stays g c = subst (λ x. Stays c.args.self.now.connections x) (sym c.settle.ensures.connections) c.begin_call-part.ensures.stays
