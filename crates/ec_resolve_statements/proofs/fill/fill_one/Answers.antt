use Rattle.ec_ctypes.specs.views.Exprs.{expr_view}
use Rattle.ec_scopes.specs.Entries.{place_view}
use Rattle.ec_resolve_initials.specs.Left.{left_view}
use Rattle.ec_resolve_values.specs.initial_parts.Parts.{parts_view}
use Rattle.ec_resolve_statements.proofs.Filling.{one_reached}
use Rattle.ec_resolve_statements.proofs.fill.fill_one.Goals as goal

pub returns : goal.returns
returns c =
    one_reached (place_view c.args.at) c.args.is_global (left_view c.args.left) (expr_view c.args.e.now) (parts_view c.args.parts.now) c.args.resolver.now
    c.in_ok-f.ensures c.in_ok-aim.ensures.goal c.in_ok-aim.ensures.frames c.in_ok-store_at.ensures
