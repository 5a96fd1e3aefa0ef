use Rattle.std.proofs.Common.{Option, subst}
use Rattle.ec_ctypes.specs.trees.Types.{TyData}
use Rattle.ec_ctypes.specs.views.Exprs.{base_view}
use Rattle.ec_resolve_forms.specs.Seen.{from, Reaches}
use Rattle.ec_resolving_defs.specs.Storage.{Resolving}
use Rattle.ec_scopes.specs.Entries.{place_view, type_view}
use Rattle.ec_resolve_statements.proofs.Seeing.{specifier_base}
use Rattle.ec_resolve_statements.proofs.declarations.specifier.Goals as goal

pub returns-in-len1-up : goal.returns-in-len1-up
returns-in-len1-up c =
    subst (λ (f : Resolving (Option TyData)). Reaches type_view (from f c.args.resolver.now) c.base.result c.base.new.resolver) (specifier_base (place_view c.args.at) (base_view c.args.b.now) c.args.items.now c.in-len1-up.len_at_least) c.base.ensures
