-- What holds of the tables behind programs: the laws.
use Rattle.std.specs.Prelude.{◌≡◌, Bool, true, false, []}
use Rattle.ec_ctypes.specs.trees.Units.{UnitData}
use Rattle.ec_written_laws.specs.source.SourceShape.{is_source_shape}
use Rattle.ec_typing_defs.specs.Answers.{checked, violations}
use Rattle.ec_sim_world_laws.specs.closing.Closing.{HaveTypes}
use Rattle.ec_sim_host_laws.specs.table.Tables.{VarcharsAre, TypesFit, AreSound}

-- whatever the faults of the program
abbrev pub VarcharsHaveTheirMembers : Type 0
VarcharsHaveTheirMembers = (written : Bool) (u : UnitData)
    → VarcharsAre (checked written u).world

-- where there is none, each member has a type, and the tree is that of a source, where braces hold one initializer or more
abbrev pub TypesAreWithinLimits : Type 0
TypesAreWithinLimits = (u : UnitData) → is_source_shape u ≡ true → violations false u ≡ []
    → HaveTypes (checked false u).world → TypesFit (checked false u).world

abbrev pub TablesAreSound : Type 0
TablesAreSound = (u : UnitData) → is_source_shape u ≡ true → violations false u ≡ []
    → HaveTypes (checked false u).world → AreSound (checked false u).world
