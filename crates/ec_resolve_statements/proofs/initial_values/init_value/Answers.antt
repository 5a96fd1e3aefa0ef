use Rattle.ec_ctypes.specs.views.Exprs.{expr_view}
use Rattle.ec_scopes.specs.Entries.{place_view}
use Rattle.ec_resolve_statements.proofs.Filling.{value_reaches}
use Rattle.ec_resolve_statements.proofs.initial_values.init_value.Goals as goal

pub returns : goal.returns
returns c =
    value_reaches (place_view c.args.at) c.args.is_global (expr_view c.args.e.now) c.args.resolver.now c.fixed_exp.result
    c.in_ok-found.ensures c.in_ok-value.ensures c.fixed_exp.ensures
