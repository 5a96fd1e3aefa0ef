-- What is known, scope by scope, tells what a name stands for.
use Rattle.std.proofs.Common.{◌≡◌, List, [], ◌∷◌, Option, Some, None, refl, subst}
use Rattle.ec_ctypes.specs.trees.Units.{UnitData}
use Rattle.ec_language.specs.Letters.{Text}
use Rattle.ec_typing_defs.specs.Tables.{find}
use Rattle.ec_typing_defs.specs.Worlds.{EntryData, object, function, ScopeData, World, or_else, look_up, look_up_in}
use Rattle.ec_sim_world_laws.specs.known.Known.{IsEntry, AreEntries, InScopes}
use Rattle.ec_sim_host_laws.specs.reference.Found.{KnownNamesAreDeclared}
use Rattle.ec_sim_host_laws.proofs.reference_lemmas.Parts.{none_not, some_is}

module _ (u : UnitData) (w : World) where
  -- what the innermost scope that has the name tells
  first_scope : (x : Text) (entry : EntryData) (here other : Option EntryData) → ((e : EntryData) → here ≡ Some e → IsEntry u w e)
      → (other ≡ Some entry → IsEntry u w entry) → or_else here other ≡ Some entry → IsEntry u w entry
  first_scope x entry None other h more is = more is
  first_scope x entry (Some e) other h more is = subst (IsEntry u w) (some_is is) (h e refl)

  in_scopes : (ss : List ScopeData) → InScopes u w ss → (x : Text) (entry : EntryData) → look_up_in ss x ≡ Some entry → IsEntry u w entry
  in_scopes [] h x entry is = none_not is
  in_scopes (s ∷ ss) h x entry is = first_scope x entry (find x s.names) (look_up_in ss x) (λ e found. h.0 x e found) (in_scopes ss h.1 x entry) is

  pub entry_known : AreEntries u w w.here.names → InScopes u w w.outer → (x : Text) (entry : EntryData) → look_up x w ≡ Some entry → IsEntry u w entry
  entry_known here outer x entry is =
      first_scope x entry (find x w.here.names) (look_up_in w.outer x) (λ e found. here x e found) (in_scopes w.outer outer x entry) is

pub names_known : KnownNamesAreDeclared
names_known u s w known = record {
  objects = λ x k global t is. entry_known u w known.here known.outer x (object k global t) is;
  are_functions = λ x k done r ps is. entry_known u w known.here known.outer x (function k done r ps) is;
}
