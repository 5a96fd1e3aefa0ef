use Rattle.std.proofs.Common.{◌≡◌, ◌++◌, drop}
use Rattle.ec_ctypes.specs.views.Exprs.{declarators_view}
use Rattle.ec_resolve_forms.specs.Seen.{from, mapped}
use Rattle.ec_resolving_defs.specs.Statements.{object_items}
use Rattle.ec_scopes.specs.Entries.{place_view, type_view}
use Rattle.ec_resolve_parts.specs.Made.{listed_view}
use Rattle.ec_resolve_statements.proofs.declarations.object_items.Given as goal

abbrev pub invariant-loop-item : goal.invariant-loop-item
invariant-loop-item l =
    from (object_items (place_view l.at) l.is_global l.is_varchar (type_view l.ty) (declarators_view l.items)) l.fn.resolver
    ≡ mapped (λ rest. listed_view l.statements ++ rest) (from (object_items (place_view l.at) l.is_global l.is_varchar (type_view l.ty) (declarators_view (drop l.item-index l.items))) l.resolver)
