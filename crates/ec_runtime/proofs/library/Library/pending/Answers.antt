use Rattle.std.proofs.Common.{subst}
use Rattle.ec_runtime.specs.Calling.{connections_of}
use Rattle.ec_runtime.specs.Proceeding.{UnderWayFits}
use Rattle.ec_runtime.proofs.Calls.{pending_so}
use Rattle.ec_runtime.proofs.library.Library.pending.Goals as goal

pub slot_for-requires : goal.slot_for-requires
slot_for-requires g c = (c.args.self.now.areas, c.in-Some.it.waiting.request, subst (λ u. UnderWayFits (connections_of c.args.self.now.connections) c.args.self.now.areas u) c.in-Some.is c.requires)

pub returns-in-Some : goal.returns-in-Some
returns-in-Some g c = pending_so (connections_of c.args.self.now.connections) c.args.self.now.areas c.in-Some.it c.args.self.now.under_way c.slot_for.result c.in-Some.is c.requires (c.slot_for.ensures c.in-Some.it.waiting.request)
