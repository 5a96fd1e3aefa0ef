-- Declarations as the definition has them.
use Rattle.std.proofs.Common.{◌≡◌, ◌≤◌, List, [], ◌∷◌, length, refl, arith}
use Rattle.ec_ctypes.specs.declared.tree.decl.Declarator.{Declarator}
use Rattle.ec_ctypes.specs.trees.Exprs.{BaseData, words, varchar, tagged, struct_base}
use Rattle.ec_ctypes.specs.views.Exprs.{declarators_view}
use Rattle.ec_resolving_defs.specs.Expressions.{base}
use Rattle.ec_resolving_defs.specs.Statements.{specifier}
use Rattle.ec_typing_defs.specs.Worlds.{Place}

-- where there are declarators, a declaration begins with a type
pub specifier_base : (at : Place) (b : BaseData) (ds : List Declarator) → 1 ≤ length ds → base at b ≡ specifier at b (declarators_view ds)
specifier_base at (words ws) ds h = refl
specifier_base at varchar ds h = refl
specifier_base at (tagged t) [] h = absurd (omega arith)
specifier_base at (tagged t) (d ∷ ds) h = refl
specifier_base at (struct_base t ms) ds h = refl
