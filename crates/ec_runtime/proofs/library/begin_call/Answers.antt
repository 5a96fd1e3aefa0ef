use Rattle.ec_runtime.specs.Calling.{connections_of, seen_by}
use Rattle.ec_runtime.proofs.Begun.{fits_some, kind_described, kind_ended, kind_leads, kind_some}
use Rattle.ec_runtime.proofs.Calls.{fits_giving, set_stays}
use Rattle.ec_runtime.proofs.library.begin_call.Goals as goal

pub returns-in-Over-clause-leads : goal.returns-in-Over-clause-leads
returns-in-Over-clause-leads g c =
    kind_leads c.args.line.0 c.args.kind _ (seen_by c.args.store.now c.args.library.now) (seen_by c.start_act.new.store c.start_act.new.library) c.args.areas.now c.args.areas.now _ c.in-Over.is c.start_act.ensures.leads

pub returns-in-Connect-clause-leads : goal.returns-in-Connect-clause-leads
returns-in-Connect-clause-leads g c =
    kind_some c.args.line.0 c.args.kind _ (seen_by c.args.store.now c.args.library.now) (seen_by c.start_connect.new.store c.args.library.now) c.args.areas.now (connections_of c.args.library.now) c.start_connect.result c.asked.result c.in-Connect.is c.asked.ensures (c.start_connect.ensures.leads c.args.areas.now)

pub returns-in-Connect-clause-fits : goal.returns-in-Connect-clause-fits
returns-in-Connect-clause-fits g c = fits_some (connections_of c.args.library.now) c.args.areas.now c.start_connect.result c.asked.result c.asked.ensures (c.start_connect.ensures.fits c.args.areas.now)

pub returns-in-Disconnect-clause-leads : goal.returns-in-Disconnect-clause-leads
returns-in-Disconnect-clause-leads g c =
    kind_leads c.args.line.0 c.args.kind _ (seen_by c.args.store.now c.args.library.now) (seen_by c.start_disconnect.new.store c.args.library.now) c.args.areas.now c.args.areas.now _ c.in-Disconnect.is (c.start_disconnect.ensures.leads c.args.areas.now)

pub returns-in-Disconnect-clause-fits : goal.returns-in-Disconnect-clause-fits
returns-in-Disconnect-clause-fits g c = c.start_disconnect.ensures.fits c.args.areas.now

pub returns-in-SetConnection-clause-leads : goal.returns-in-SetConnection-clause-leads
returns-in-SetConnection-clause-leads g c =
    kind_ended c.args.line.0 c.args.kind _ (seen_by c.args.store.now c.args.library.now) (seen_by c.set_connection.new.store c.set_connection.new.library) c.args.areas.now (connections_of c.set_connection.new.library) c.set_connection.result c.ended.result c.in-SetConnection.is c.ended.ensures c.set_connection.ensures.does

pub returns-in-SetConnection-clause-fits : goal.returns-in-SetConnection-clause-fits
returns-in-SetConnection-clause-fits g c = fits_giving (connections_of c.set_connection.new.library) c.args.areas.now c.set_connection.result c.ended.result c.ended.ensures

pub returns-in-SetConnection-clause-stays : goal.returns-in-SetConnection-clause-stays
returns-in-SetConnection-clause-stays g c = set_stays c.args.library.now c.set_connection.new.library c.set_connection.ensures.sessions

pub returns-in-Describe-clause-leads : goal.returns-in-Describe-clause-leads
returns-in-Describe-clause-leads g c =
    kind_described c.args.line.0 c.args.kind c.in-Describe.name c.in-Describe.what (seen_by c.args.store.now c.args.library.now) c.describe.new.store c.args.areas.now c.describe.new.areas (connections_of c.args.library.now) c.describe.result c.ended-in-Describe.result c.in-Describe.is c.ended-in-Describe.ensures c.describe.ensures.changed

pub returns-in-Describe-clause-fits : goal.returns-in-Describe-clause-fits
returns-in-Describe-clause-fits g c = fits_giving (connections_of c.args.library.now) c.describe.new.areas c.describe.result c.ended-in-Describe.result c.ended-in-Describe.ensures
