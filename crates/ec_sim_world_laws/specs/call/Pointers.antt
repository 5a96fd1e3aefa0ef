-- What the checks see of a pointer that is resolved.
use Rattle.std.specs.Prelude.{Bool, true, List, [], ◌∷◌, Option, Some}
use Rattle.ec_ctypes.specs.declared.tree.expr.UnOp.TheVariants.{Addr}
use Rattle.ec_ctypes.specs.trees.Exprs.{ExprData, integer, character, string, identifier, unary, index, member, arrow}
use Rattle.ec_ctypes.specs.trees.Types as types
use Rattle.ec_ctypes.specs.trees.Types.{TyData}
use Rattle.ec_arguments.specs.Arguments.{Arg, pointer}
use Rattle.ec_typing_defs.specs.Library.{points_to_text}
use Rattle.ec_typing_defs.specs.Worlds.{Place, World}
use Rattle.ec_sim_world_laws.specs.call.Calls.{checked_value}

-- A name with its suffixes, the address of one, or a constant. Wherever one has a fault it has no type
abbrev pub IsSimple : ExprData → Type 0
IsSimple (integer n t) = Unit {0}
IsSimple (character c) = Unit {0}
IsSimple (string s) = Unit {0}
IsSimple (identifier x) = Unit {0}
IsSimple (unary Addr e) = IsSimple e
IsSimple (index a b) = IsSimple a × IsSimple b
IsSimple (member e m) = IsSimple e
IsSimple (arrow e m) = IsSimple e
IsSimple _ = ⊥

-- each pointer among these arguments
abbrev pub AreSimple : List (Arg ExprData) → Type 0
AreSimple [] = Unit {0}
AreSimple (pointer e ∷ more) = IsSimple e × AreSimple more
AreSimple (_ ∷ more) = AreSimple more

-- whether a pointer of this type may lead to a text
abbrev pub leads_to_text : Option TyData → Bool
leads_to_text (Some (types.pointer t)) = points_to_text t
leads_to_text _ = true

-- whether a pointer may lead to a text, by its type where it stands
abbrev pub text_there : Place → World → ExprData → Bool
text_there at w e = leads_to_text (checked_value at e w).answer.type
