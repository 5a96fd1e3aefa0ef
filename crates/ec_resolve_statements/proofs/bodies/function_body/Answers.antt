use Rattle.std.proofs.Common.{refl}
use Rattle.ec_ctypes.specs.views.Stmts.{stmts_view}
use Rattle.ec_resolve_forms.specs.declared.resolver.Resolver.{Resolver}
use Rattle.ec_scopes.specs.Entries.{type_view}
use Rattle.ec_resolve_statements.proofs.Scoping.{body_reached}
use Rattle.ec_resolve_statements.proofs.bodies.function_body.Goals as goal

pub returns : goal.returns
returns c =
    let old = c.args.resolver.now in
    let mid : Resolver = record { checker = c.no_labels.new.self; storage = old.storage } in
    body_reached (type_view c.args.result_type.now) (stmts_view c.args.ss.now) c.in_ok-labels.labels old mid c.in_ok-labels.ensures c.no_labels.ensures refl c.in_ok-made.ensures
