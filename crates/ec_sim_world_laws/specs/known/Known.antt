-- What holds of what is known, and of where things are, wherever the walk through a source comes to.
use Rattle.std.specs.Prelude.{◌≡◌, true, false, List, [], ◌∷◌, Some, length, slice_get}
use Rattle.ec_ctypes.specs.trees.Embedded.{EmbData}
use Rattle.ec_ctypes.specs.trees.Units.{UnitData}
use Rattle.ec_language.specs.Letters.{Text}
use Rattle.ec_host_defs.specs.Programs.{Denoted, is_among}
use Rattle.ec_host_defs.specs.sections.Declared.{functions_of}
use Rattle.ec_typing_defs.specs.statement_parts.References.{references}
use Rattle.ec_typing_defs.specs.Embedded as checked
use Rattle.ec_typing_defs.specs.Embedded.{denoted_in, variables_of}
use Rattle.ec_typing_defs.specs.Programs.{start}
use Rattle.ec_typing_defs.specs.Tables.{Named, find}
use Rattle.ec_typing_defs.specs.Worlds.{Place, EntryData, object, function, ScopeData, World}
use Rattle.ec_resolving_defs.specs.Embedded.{references_rule}
use Rattle.ec_resolving_defs.specs.Storage.{Storage, StatementForm, Resolving}
use Rattle.ec_meaning_defs.specs.observed.Run.{IsFront}
use Rattle.ec_sim_world_laws.specs.growth.Growth.{Grows}
use Rattle.ec_sim_world_laws.specs.closing.Closing.{AreInTheirOrder}
use Rattle.ec_sim_world_laws.specs.place.References.{IsDeclared}

-- ---- names

-- by the program, and by what is known
module _ (u : UnitData) (w : World) where
  -- an object is declared as such, and a function has the number of one of the program
  abbrev pub IsEntry : EntryData → Type 0
  IsEntry (object k global t) = IsDeclared w k t
  IsEntry (function k done r ps) = is_among k (functions_of u) ≡ true

  abbrev pub AreEntries : Named EntryData → Type 0
  AreEntries names = (x : Text) (entry : EntryData) → find x names ≡ Some entry → IsEntry entry

  -- in each scope
  abbrev pub InScopes : List ScopeData → Type 0
  InScopes [] = Unit {0}
  InScopes (s ∷ ss) = AreEntries s.names × InScopes ss

-- What holds wherever no declaration is being read, with faults so far or without: what is known has grown from the start, structs are closed in their order, names stand for what is declared, and each declaration has its site
pub record IsKnown (u : UnitData) (s : Storage) (w : World) : Type 0 where
  pub grown : Grows (start false u) w
  pub in_order : AreInTheirOrder w
  pub here : AreEntries u w w.here.names
  pub outer : InScopes u w w.outer
  pub sites : length s.sites ≡ length w.types

-- ---- the statements so far

-- The references of this form are those that its statement had where it stood, with no fault in them, and this row is what their names denoted there
pub record IsFound (u : UnitData) (s : Storage) (w : World) (f : StatementForm) (row : Denoted)
    : Type 0 where
  pub emb : EmbData
  pub is_emb : slice_get u.embs f.number ≡ Some emb
  pub at : Place
  pub storage : Storage
  pub before : World
  pub known : IsKnown u storage before
  pub grows : Grows before w
  pub sites : IsFront storage.sites s.sites
  pub clean : (checked.references_rule at (references emb) before).found ≡ []
  pub are : (references_rule at (references emb) storage before).answer ≡ f.references
  pub denoted : row ≡ denoted_in before (variables_of u.embs f.number emb)

-- one form and one row for each
abbrev pub AreFound : UnitData → Storage → World → List StatementForm → List Denoted → Type 0
AreFound u s w [] [] = Unit {0}
AreFound u s w [] (row ∷ rows) = ⊥
AreFound u s w (f ∷ fs) [] = ⊥
AreFound u s w (f ∷ fs) (row ∷ rows) = IsFound u s w f row × AreFound u s w fs rows

-- ---- by a part of the walk

-- It keeps what holds, and what is known and the sites grow by it
pub record Keeps (u : UnitData) {A : Type 0} (m : Resolving A) : Type 0 where
  pub known : (s : Storage) (w : World) → IsKnown u s w
      → IsKnown u (m s w).storage (m s w).world
  pub grows : (s : Storage) (w : World) → Grows w (m s w).world
  pub sites : (s : Storage) (w : World) → IsFront s.sites (m s w).storage.sites
