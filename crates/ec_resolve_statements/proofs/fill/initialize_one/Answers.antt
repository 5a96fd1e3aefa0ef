use Rattle.std.proofs.Common.{ap}
use Rattle.ec_ctypes.specs.views.Exprs.{expr_view}
use Rattle.ec_scopes.specs.Entries.{place_view, type_view}
use Rattle.ec_resolve_values.specs.initial_parts.Parts.{parts_view}
use Rattle.ec_resolve_statements.proofs.Filling.{single_reached}
use Rattle.ec_resolve_statements.proofs.fill.initialize_one.Goals as goal

pub returns : goal.returns
returns c =
    single_reached (place_view c.args.at) c.args.is_global (type_view c.args.ty) (expr_view c.args.e.now) (parts_view c.new-parts.result) c.args.resolver.now
    (ap parts_view c.new-parts.ensures) c.in_ok-f.ensures c.in_ok-single.ensures c.in_ok-store_at.ensures
