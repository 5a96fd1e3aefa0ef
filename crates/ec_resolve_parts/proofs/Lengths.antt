-- How many declarators there are.
use Rattle.std.proofs.Common.{◌≡◌, suc, List, [], ◌∷◌, length, refl, ap}
use Rattle.ec_ctypes.specs.declared.tree.decl.Declarator.{Declarator}
use Rattle.ec_ctypes.specs.views.Exprs.{declarators_view}
use Rattle.ec_resolving_defs.specs.Statements.{declarators_in}

pub declarators_counted : (ds : List Declarator) → length ds ≡ declarators_in (declarators_view ds)
declarators_counted [] = refl
declarators_counted (d ∷ ds) = ap suc (declarators_counted ds)
