-- What is found of the references of a statement, in the source and where they are written.
use Rattle.std.specs.Prelude.{◌≡◌, List, [], ◌∷◌, ◌++◌}
use Rattle.ec_ctypes.specs.trees.Units.{UnitData}
use Rattle.ec_host_defs.specs.Programs.{Denoted}
use Rattle.ec_host_defs.specs.sections.Declared.{functions_of}
use Rattle.ec_typing_defs.specs.statement_parts.References.{References, all_names}
use Rattle.ec_typing_defs.specs.Embedded as checked
use Rattle.ec_typing_defs.specs.Embedded.{denoted_in}
use Rattle.ec_typing_defs.specs.Worlds.{Place, World}
use Rattle.ec_resolving_defs.specs.Embedded.{references_rule}
use Rattle.ec_resolving_defs.specs.Storage.{Storage, ReferenceForm, reached}
use Rattle.ec_sim_statement_laws.specs.expression.Alike.{SameStorage}
use Rattle.ec_sim_statement_laws.specs.expression.Worlds.{AreAlike}
use Rattle.ec_sim_world_laws.specs.place.References.{IsReference, IndexesHaveTypes, NamesAreDeclared}
use Rattle.ec_sim_world_laws.specs.place.Statements.{ReferencesAre}
use Rattle.ec_sim_world_laws.specs.known.Known.{IsKnown}

-- each is a name with its suffixes
abbrev pub AreReferences : References → Type 0
AreReferences [] = Unit {0}
AreReferences (r ∷ rs) = IsReference r.value × AreReferences rs

-- the names that are indexes in them stand for what has a type
abbrev pub AllIndexesHaveTypes : World → References → Type 0
AllIndexesHaveTypes w [] = Unit {0}
AllIndexesHaveTypes w (r ∷ rs) = IndexesHaveTypes w r.value × AllIndexesHaveTypes w rs

-- They are resolved to these forms, and nothing is made and no more known by it; where they are written, these references come next
pub record ReferencesFound (at there : Place) (s t : Storage) (w v : World) (rs : References)
    : Type 0 where
  pub forms : List ReferenceForm
  pub resolved : references_rule at rs s w ≡ reached forms s w
  pub unchanged : (checked.references_rule at rs w).world ≡ w
  pub are : (ds : Denoted) (more : List ReferenceForm) → ReferencesAre there t v rs (record {
    denoted = denoted_in w (all_names rs) ++ ds;
    references = forms ++ more;
  })

-- of references in which nothing is wrong
abbrev pub ReferencesAreFound : Type 0
ReferencesAreFound = (at there : Place) (s t : Storage) (w v : World) → SameStorage s t
    → AreAlike w v → (rs : References) → AreReferences rs → AllIndexesHaveTypes w rs
    → (checked.references_rule at rs w).found ≡ [] → ReferencesFound at there s t w v rs

-- so are those of a source in the source itself
abbrev pub ReferencesAreThere : Type 0
ReferencesAreThere = (at : Place) (s : Storage) (w : World) (rs : References) → AreReferences rs
    → AllIndexesHaveTypes w rs → (checked.references_rule at rs w).found ≡ []
    → ReferencesFound at at s s w w rs

-- what is known tells what names stand for
abbrev pub KnownNamesAreDeclared : Type 0
KnownNamesAreDeclared = (u : UnitData) (s : Storage) (w : World) → IsKnown u s w
    → NamesAreDeclared w (functions_of u)
