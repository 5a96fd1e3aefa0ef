use Rattle.std.proofs.Common.{subst}
use Rattle.ec_runtime.specs.Calling.{connections_of}
use Rattle.ec_runtime.specs.Waiting.{WaitsFit}
use Rattle.ec_runtime.proofs.Going.{changes_ended, one_stepped, step_arm}
use Rattle.ec_runtime.proofs.Calls.{changes_with, views_within, fits_giving}
use Rattle.ec_runtime.proofs.resuming.step.Goals as goal

pub resume_over-requires-clause-within : goal.resume_over-requires-clause-within
resume_over-requires-clause-within g c = views_within c.args.library.now.sessions.items c.in-Over.at (subst (λ w. WaitsFit (connections_of c.args.library.now) c.args.areas.now c.args.waiting.request w) c.in-Over.is c.requires.fits).0

pub resume_over-requires-clause-asks : goal.resume_over-requires-clause-asks
resume_over-requires-clause-asks g c = (subst (λ w. WaitsFit (connections_of c.args.library.now) c.args.areas.now c.args.waiting.request w) c.in-Over.is c.requires.fits).1

pub resume_over-requires-clause-fits : goal.resume_over-requires-clause-fits
resume_over-requires-clause-fits g c = (subst (λ w. WaitsFit (connections_of c.args.library.now) c.args.areas.now c.args.waiting.request w) c.in-Over.is c.requires.fits).2

pub open_new-requires-clause-asks : goal.open_new-requires-clause-asks
open_new-requires-clause-asks g c = (subst (λ w. WaitsFit (connections_of c.args.library.now) c.args.areas.now c.args.waiting.request w) c.in-Connecting.is c.requires.fits).0

pub open_new-requires-clause-unused : goal.open_new-requires-clause-unused
open_new-requires-clause-unused g c = (subst (λ w. WaitsFit (connections_of c.args.library.now) c.args.areas.now c.args.waiting.request w) c.in-Connecting.is c.requires.fits).1

pub close_at-requires-clause-within : goal.close_at-requires-clause-within
close_at-requires-clause-within g c = views_within c.args.library.now.sessions.items c.in-ClosingOne.at (subst (λ w. WaitsFit (connections_of c.args.library.now) c.args.areas.now c.args.waiting.request w) c.in-ClosingOne.is c.requires.fits).0

pub close_last-requires-clause-within : goal.close_last-requires-clause-within
close_last-requires-clause-within g c = views_within c.args.library.now.sessions.items 0 (subst (λ w. WaitsFit (connections_of c.args.library.now) c.args.areas.now c.args.waiting.request w) c.in-ClosingAll.is c.requires.fits).0

pub returns-in-Over-clause-changes : goal.returns-in-Over-clause-changes
returns-in-Over-clause-changes g c =
    step_arm (λ z. (goal.Link-dyn g (z.vtable, z.value)).talk z.value) (λ z. (goal.Link-dyn g (z.vtable, z.value)).faults z.value)
    c.args.line.0 (connections_of c.args.library.now) c.args.waiting.request c.args.waiting.waits _ c.args.store.now c.resume_over.new.store c.args.areas.now c.resume_over.new.areas c.args.rack.now c.resume_over.new.rack c.args.library.now c.resume_over.new.library _ c.in-Over.is c.resume_over.ensures.changes

pub returns-in-Connecting-clause-changes : goal.returns-in-Connecting-clause-changes
returns-in-Connecting-clause-changes g c =
    step_arm (λ z. (goal.Link-dyn g (z.vtable, z.value)).talk z.value) (λ z. (goal.Link-dyn g (z.vtable, z.value)).faults z.value)
    c.args.line.0 (connections_of c.args.library.now) c.args.waiting.request c.args.waiting.waits _ c.args.store.now c.open_new.new.store c.args.areas.now c.args.areas.now c.args.rack.now c.open_new.new.rack c.args.library.now c.open_new.new.library _ c.in-Connecting.is
    (changes_ended (λ z. (goal.Link-dyn g (z.vtable, z.value)).talk z.value) (λ z. (goal.Link-dyn g (z.vtable, z.value)).faults z.value)
    _ c.args.store.now c.open_new.new.store c.args.areas.now c.args.rack.now c.open_new.new.rack c.args.library.now c.open_new.new.library c.open_new.result c.ended.result c.ended.ensures c.open_new.ensures.changes)

pub returns-in-Connecting-clause-fits : goal.returns-in-Connecting-clause-fits
returns-in-Connecting-clause-fits g c = fits_giving (connections_of c.open_new.new.library) c.args.areas.now c.open_new.result c.ended.result c.ended.ensures

pub returns-in-ClosingOne-clause-changes : goal.returns-in-ClosingOne-clause-changes
returns-in-ClosingOne-clause-changes g c =
    step_arm (λ z. (goal.Link-dyn g (z.vtable, z.value)).talk z.value) (λ z. (goal.Link-dyn g (z.vtable, z.value)).faults z.value)
    c.args.line.0 (connections_of c.args.library.now) c.args.waiting.request c.args.waiting.waits _ c.args.store.now c.args.store.now c.args.areas.now c.args.areas.now c.args.rack.now c.close_at.new.rack c.args.library.now c.close_at.new.library _ c.in-ClosingOne.is
    (one_stepped (λ z. (goal.Link-dyn g (z.vtable, z.value)).talk z.value) (λ z. (goal.Link-dyn g (z.vtable, z.value)).faults z.value)
    c.args.line.0 c.args.store.now c.args.areas.now c.args.rack.now c.close_at.new.rack c.args.library.now c.close_at.new.library c.in-ClosingOne.at c.close_at.result c.ended-in-ClosingOne.result
    (views_within c.args.library.now.sessions.items c.in-ClosingOne.at (subst (λ w. WaitsFit (connections_of c.args.library.now) c.args.areas.now c.args.waiting.request w) c.in-ClosingOne.is c.requires.fits).0)
    c.ended-in-ClosingOne.ensures (c.close_at.ensures.changes c.args.store.now))

pub returns-in-ClosingOne-clause-fits : goal.returns-in-ClosingOne-clause-fits
returns-in-ClosingOne-clause-fits g c = fits_giving (connections_of c.close_at.new.library) c.args.areas.now c.close_at.result c.ended-in-ClosingOne.result c.ended-in-ClosingOne.ensures

pub returns-in-ClosingAll-clause-changes : goal.returns-in-ClosingAll-clause-changes
returns-in-ClosingAll-clause-changes g c =
    step_arm (λ z. (goal.Link-dyn g (z.vtable, z.value)).talk z.value) (λ z. (goal.Link-dyn g (z.vtable, z.value)).faults z.value)
    c.args.line.0 (connections_of c.args.library.now) c.args.waiting.request c.args.waiting.waits _ c.args.store.now c.args.store.now c.args.areas.now c.args.areas.now c.args.rack.now c.close_last.new.rack c.args.library.now c.close_last.new.library _ c.in-ClosingAll.is
    (changes_with (λ z. (goal.Link-dyn g (z.vtable, z.value)).talk z.value) (λ z. (goal.Link-dyn g (z.vtable, z.value)).faults z.value)
    _ c.args.store.now c.args.store.now c.args.areas.now c.args.rack.now c.close_last.new.rack c.args.library.now c.close_last.new.library _ (c.close_last.ensures.changes c.args.line.0 c.args.store.now))

pub returns-in-ClosingAll-clause-fits : goal.returns-in-ClosingAll-clause-fits
returns-in-ClosingAll-clause-fits g c = c.close_last.ensures.fits c.args.areas.now
