-- The trees of sources are flat, and no struct in them begins with too many types: the laws.
use Rattle.std.specs.Prelude.{◌≡◌, false, List, [], Ok}
use Rattle.ec_ctypes.specs.trees.Tokens.{TokenData}
use Rattle.ec_ctypes.specs.trees.Units.{UnitData}
use Rattle.ec_language.specs.Letters.{Text}
use Rattle.ec_language.specs.Syntax.{TreeOrStop}
use Rattle.ec_phases_defs.specs.Sources.{ReadsTree}
use Rattle.ec_typing_defs.specs.Answers.{checked, violations}
use Rattle.ec_sim_program_laws.specs.types.Flat.{TopsAreFlat}
use Rattle.ec_sim_program_laws.specs.types.Types.{StructsAreShallow}

-- within the limits of the grammar
abbrev pub TreesAreFlat : Type 0
TreesAreFlat = (ts : List TokenData) (u : UnitData) → TreeOrStop ts (Ok u) → TopsAreFlat u.tops

-- of a text within the limits of texts and tokens
abbrev pub SourcesAreFlat : Type 0
SourcesAreFlat = (text : Text) (u : UnitData) → ReadsTree text (Ok u) → TopsAreFlat u.tops

abbrev pub SourcesAreShallow : Type 0
SourcesAreShallow = (text : Text) (u : UnitData) → ReadsTree text (Ok u)
    → violations false u ≡ [] → StructsAreShallow (checked false u).world
