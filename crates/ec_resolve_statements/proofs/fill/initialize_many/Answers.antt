use Rattle.std.proofs.Common.{ap}
use Rattle.ec_ctypes.specs.views.Exprs.{inits_view}
use Rattle.ec_scopes.specs.Entries.{place_view, type_view}
use Rattle.ec_resolve_values.specs.initial_parts.Parts.{parts_view}
use Rattle.ec_resolve_statements.proofs.Filling.{braced_reached}
use Rattle.ec_resolve_statements.proofs.fill.initialize_many.Goals as goal

pub returns : goal.returns
returns c =
    braced_reached (place_view c.args.at) c.args.is_global (type_view c.args.ty) (inits_view c.args.list.now) (parts_view c.new-parts.result) c.args.resolver.now
    (ap parts_view c.new-parts.ensures) c.in_ok-frames.ensures c.in_ok-left.ensures c.in_ok-rest.ensures c.in_ok-ty.ensures
