-- Where nothing is wrong with a source, all of it has types.
use Rattle.std.specs.Prelude.{◌≡◌, ◌≤◌, ◌^◌, ℕ, true, false, List, [], ◌∷◌, length, slice_get, Option, Some, None, Ok}
use Rattle.ec_written_laws.specs.bound.Numbers.{tops_numbers, numbers_from}
use Rattle.ec_ctypes.specs.trees.Checked.{MarkData}
use Rattle.ec_ctypes.specs.trees.Embedded.{EmbData}
use Rattle.ec_ctypes.specs.trees.Types.{TyData}
use Rattle.ec_ctypes.specs.trees.Units.{UnitData}
use Rattle.ec_language.specs.Letters.{Text}
use Rattle.ec_host_defs.specs.sections.Answers.{hosts_answer}
use Rattle.ec_written_laws.specs.source.SourceShape.{is_source_shape}
use Rattle.ec_typing_defs.specs.statement_parts.References.{references}
use Rattle.ec_typing_defs.specs.Answers.{checked, violations, typed_of}
use Rattle.ec_typing_defs.specs.Tables.{Named, find}
use Rattle.ec_typing_defs.specs.Worlds.{EntryData, object, function, ScopeData, StructInfo, World}
use Rattle.ec_sim_world_laws.specs.test.Plain.{HasPlainActions}
use Rattle.ec_sim_world_laws.specs.closing.Closing.{IsTyped, HaveTypes}
use Rattle.ec_sim_host_laws.specs.reference.Found.{AreReferences}
use Rattle.ec_sim_host_laws.specs.reference.Rows.{IndexesAreTyped}
use Rattle.ec_sim_program_laws.specs.types.Flat.{TopsAreFlat}

-- ---- what names stand for

abbrev pub AreAllTyped : List (Option TyData) → Type 0
AreAllTyped [] = Unit {0}
AreAllTyped (t ∷ ts) = IsTyped t × AreAllTyped ts

-- the parameters of a function, once they are known
abbrev pub ParametersAreTyped : Option (List (Option TyData)) → Type 0
ParametersAreTyped None = Unit {0}
ParametersAreTyped (Some ts) = AreAllTyped ts

abbrev pub IsTypedEntry : EntryData → Type 0
IsTypedEntry (object k global t) = IsTyped t
IsTypedEntry (function k done r ps) = IsTyped r × ParametersAreTyped ps

abbrev pub AreTypedNames : Named EntryData → Type 0
AreTypedNames names = (x : Text) (entry : EntryData) → find x names ≡ Some entry
    → IsTypedEntry entry

abbrev pub AreTypedScopes : List ScopeData → Type 0
AreTypedScopes [] = Unit {0}
AreTypedScopes (s ∷ ss) = AreTypedNames s.names × AreTypedScopes ss

-- ---- how deep types lie in one another

-- so many types lie in one another at most where a struct begins
abbrev pub max_nesting : ℕ
max_nesting = 2 ^ 30

abbrev pub StructsAreShallow : World → Type 0
StructsAreShallow z = (k : ℕ) (info : StructInfo) → slice_get z.structs k ≡ Some info
    → length info.first ≤ max_nesting

-- ---- how statements are read

-- its references are names with their suffixes, and what is called at it takes such and constants
pub record IsSimple (es : List EmbData) (e : EmbData) : Type 0 where
  pub are_references : AreReferences (references e)
  pub actions : HasPlainActions es e

abbrev pub AllAreSimple : List EmbData → Type 0
AllAreSimple es = (n : ℕ) (e : EmbData) → slice_get es n ≡ Some e → IsSimple es e

-- ---- the law

-- behind a source without faults
pub record HasAllTypes (u : UnitData) (hosts : List ℕ) (handlers : List MarkData) : Type 0 where
  pub structs : HaveTypes (checked false u).world
  pub indexes : IndexesAreTyped (typed_of u hosts handlers (checked false u).world)

abbrev pub SourcesHaveTypes : Type 0
SourcesHaveTypes = (u : UnitData) (hosts : List ℕ) (handlers : List MarkData)
    → hosts_answer u ≡ Ok hosts → violations false u ≡ [] → is_source_shape u ≡ true
    → tops_numbers u.tops [] ≡ numbers_from 0 (length u.embs) → AllAreSimple u.embs
    → TopsAreFlat u.tops → StructsAreShallow (checked false u).world
    → HasAllTypes u hosts handlers
