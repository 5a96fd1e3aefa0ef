-- The hosts of a cursor, where a statement opens it: they are what they were where it was declared.
use Rattle.std.specs.Prelude.{◌≡◌, ℕ, Bool, true, not, ◌&&◌, List, [], ◌∷◌, Option, Some, None}
use Rattle.ec_ctypes.specs.trees.Units.{UnitData}
use Rattle.ec_host_defs.specs.Programs.{Denoted, is_among}
use Rattle.ec_host_defs.specs.sections.Declared.{functions_of}
use Rattle.ec_typing_defs.specs.statement_parts.References.{References, all_names}
use Rattle.ec_typing_defs.specs.Embedded as checked
use Rattle.ec_typing_defs.specs.Embedded.{denoted_in}
use Rattle.ec_typing_defs.specs.Worlds.{Place, World}
use Rattle.ec_resolving_defs.specs.Embedded.{references_rule}
use Rattle.ec_resolving_defs.specs.Storage.{Storage}
use Rattle.ec_meaning_defs.specs.observed.Run.{IsFront}
use Rattle.ec_sim_world_laws.specs.growth.Growth.{Grows}
use Rattle.ec_sim_world_laws.specs.place.Structs.{ClosedAreListed}
use Rattle.ec_sim_world_laws.specs.known.Known.{IsKnown}
use Rattle.ec_sim_host_laws.specs.reference.Found.{AreReferences}

-- a declaration of none of these functions
abbrev pub is_no_function : List ℕ → Option ℕ → Bool
is_no_function functions None = true
is_no_function functions (Some k) = not (is_among k functions)

abbrev pub are_no_functions : List ℕ → Denoted → Bool
are_no_functions functions [] = true
are_no_functions functions (d ∷ ds) = is_no_function functions d && are_no_functions functions ds

-- what is found of references there is found of them here
pub record FoundAgain (at before : Place) (s t : Storage) (w v : World) (rs : References)
    : Type 0 where
  pub without_fault : (checked.references_rule at rs v).found ≡ []
  pub same : (references_rule at rs t v).answer ≡ (references_rule before rs s w).answer

-- where their names denote the same, which are no functions, and more is known than was
abbrev pub ReferencesAreFoundAgain : Type 0
ReferencesAreFoundAgain = (u : UnitData) (before at : Place) (s t : Storage) (w v : World)
    → IsKnown u s w → IsKnown u t v → ClosedAreListed w → ClosedAreListed v → Grows w v
    → IsFront s.sites t.sites → (rs : References) → AreReferences rs
    → (checked.references_rule before rs w).found ≡ []
    → denoted_in v (all_names rs) ≡ denoted_in w (all_names rs)
    → are_no_functions (functions_of u) (denoted_in w (all_names rs)) ≡ true
    → FoundAgain at before s t w v rs
