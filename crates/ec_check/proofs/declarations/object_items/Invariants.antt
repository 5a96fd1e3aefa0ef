use Rattle.std.proofs.Common.{drop}
use Rattle.ec_ctypes.specs.views.Exprs.{declarators_view}
use Rattle.ec_scopes.specs.Entries.{place_view, type_view}
use Rattle.ec_scopes.specs.Seen.{world_of, notes_of}
use Rattle.ec_scopes.proofs.Steps.{Goes}
use Rattle.ec_typing_defs.specs.Statements.{object_items}
use Rattle.ec_check.proofs.declarations.object_items.Given as goal

abbrev pub invariant-loop-item : goal.invariant-loop-item
invariant-loop-item l =
    Goes (object_items (place_view l.at) l.is_global l.is_varchar (type_view l.ty) (declarators_view l.items) (world_of l.fn.checker)) (notes_of l.fn.checker)
    (object_items (place_view l.at) l.is_global l.is_varchar (type_view l.ty) (declarators_view (drop l.item-index l.items)) (world_of l.checker)) (notes_of l.checker) (λ u. u)
