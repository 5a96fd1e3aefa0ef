use Rattle.std.proofs.Common.{subst, sym, ◌∙◌}
use Rattle.ec_runtime.specs.Calling.{connections_of, Holds}
use Rattle.ec_runtime.specs.Proceeding.{UnderWayFits}
use Rattle.ec_runtime.proofs.Calls.{settled_fits, settled_nears, settled_resumes}
use Rattle.ec_runtime.proofs.library.Library.resume.Goals as goal

pub step-part-requires-clause-fits : goal.step-part-requires-clause-fits
step-part-requires-clause-fits g c = subst (λ u. UnderWayFits (connections_of c.args.self.now.connections) c.args.self.now.areas u) (sym c.take.ensures.value ∙ c.in-Some.is) c.requires.fits

pub returns-clause-resumes : goal.returns-clause-resumes
returns-clause-resumes g c = λ line u e.
    settled_resumes (λ z. (goal.Link-dyn g (z.vtable, z.value)).talk z.value) (λ z. (goal.Link-dyn g (z.vtable, z.value)).faults z.value)
    c.in-Some.field-0.line c.in-Some.field-0.waiting line u c.args.store.now c.step-part.new.store c.args.rack.now c.step-part.new.rack c.args.self.now c.settle.new.self c.step-part.new.library c.step-part.new.areas c.step-part.result c.settle.result (sym c.take.ensures.value ∙ c.in-Some.is) e
    c.settle.ensures.under_way c.settle.ensures.result c.settle.ensures.connections c.settle.ensures.areas c.step-part.ensures.changes

pub returns-clause-nears : goal.returns-clause-nears
returns-clause-nears g c =
    settled_nears (λ z. (goal.Link-dyn g (z.vtable, z.value)).talk z.value) (λ z. (goal.Link-dyn g (z.vtable, z.value)).faults z.value)
    c.in-Some.field-0.line c.in-Some.field-0.waiting c.args.store.now c.step-part.new.store c.args.rack.now c.step-part.new.rack c.args.self.now c.settle.new.self c.step-part.new.library c.step-part.new.areas c.step-part.result c.settle.result (sym c.take.ensures.value ∙ c.in-Some.is)
    c.settle.ensures.under_way c.settle.ensures.result c.settle.ensures.connections c.settle.ensures.areas c.step-part.ensures.changes

pub returns-clause-still_fits : goal.returns-clause-still_fits
returns-clause-still_fits g c =
    settled_fits c.in-Some.field-0.line c.settle.new.self c.step-part.new.library c.step-part.new.areas c.step-part.result c.settle.ensures.under_way c.settle.ensures.connections c.settle.ensures.areas c.step-part.ensures.fits

pub returns-clause-still_holds : goal.returns-clause-still_holds
returns-clause-still_holds g c = subst (λ x. Holds x c.step-part.new.rack) (sym c.settle.ensures.connections) c.step-part.ensures.still_holds
