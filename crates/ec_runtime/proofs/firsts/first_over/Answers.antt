use Rattle.std.proofs.Common.{Ok, refl}
use Rattle.ec_runtime.proofs.Begun.{control_so, fits_first, prepare_so, starts_arm}
use Rattle.ec_runtime.proofs.firsts.first_over.Goals as goal

pub returns-in-Run-clause-starts : goal.returns-in-Run-clause-starts
returns-in-Run-clause-starts g c =
    starts_arm c.args.line.0 c.args.ready c.args.store.now c.first_order.new.store c.args.areas.now c.args.session.now _ c.first_order.result c.some.result c.in-Run.is c.some.ensures c.first_order.ensures.changed

pub returns-in-Control-clause-starts : goal.returns-in-Control-clause-starts
returns-in-Control-clause-starts g c =
    starts_arm c.args.line.0 c.args.ready c.args.store.now c.args.store.now c.args.areas.now c.args.session.now _ (Ok c.first_control.result) _ c.in-Control.is refl
    (control_so c.args.line.0 c.args.store.now c.args.areas.now c.args.session.now c.in-Control.text c.first_control.result c.first_control.ensures)

pub returns-in-Prepare-clause-starts : goal.returns-in-Prepare-clause-starts
returns-in-Prepare-clause-starts g c =
    starts_arm c.args.line.0 c.args.ready c.args.store.now c.args.store.now c.args.areas.now c.args.session.now _ c.first_prepare.result c.some-in-Prepare.result c.in-Prepare.is c.some-in-Prepare.ensures
    (prepare_so c.args.line.0 c.args.store.now c.args.areas.now c.args.session.now c.in-Prepare.name c.in-Prepare.text c.first_prepare.result c.first_prepare.ensures.ok c.first_prepare.ensures.err)

pub returns-in-Deallocate-clause-starts : goal.returns-in-Deallocate-clause-starts
returns-in-Deallocate-clause-starts g c =
    starts_arm c.args.line.0 c.args.ready c.args.store.now c.first_deallocate.new.store c.args.areas.now c.args.session.now _ c.first_deallocate.result c.some-in-Deallocate.result c.in-Deallocate.is c.some-in-Deallocate.ensures
    (λ s. c.first_deallocate.ensures.quiet (record s { memory = c.args.store.now; descriptors = c.args.areas.now }))

pub returns-in-Autocommit-clause-fits : goal.returns-in-Autocommit-clause-fits
returns-in-Autocommit-clause-fits g c = c.first_autocommit.ensures.fits c.args.areas.now

pub returns-in-Deallocate-clause-fits : goal.returns-in-Deallocate-clause-fits
returns-in-Deallocate-clause-fits g c = fits_first c.args.areas.now c.first_deallocate.result c.some-in-Deallocate.result c.some-in-Deallocate.ensures (c.first_deallocate.ensures.fits c.args.areas.now)
