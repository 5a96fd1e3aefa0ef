-- The numbers of objects are no functions' numbers, so a cursor's hosts are no functions.
use Rattle.std.specs.Prelude.{◌≡◌, false, List, [], Ok, length}
use Rattle.ec_ctypes.specs.trees.Checked.{TypedData, BoundData}
use Rattle.ec_written_laws.specs.bound.Numbers.{tops_numbers, numbers_from}
use Rattle.ec_phases_defs.specs.Sources.{bound_from}
use Rattle.ec_typing_defs.specs.Answers.{checked, violations, typed_of}
use Rattle.ec_sim_program_laws.specs.shape.Shapes.{AllAreRead}
use Rattle.ec_sim_source_laws.specs.block.Accepted.{CursorsHaveNoFunctions}

-- of an accepted source, whose statements stand in its tree in their order
abbrev pub CursorsAreOfObjects : Type 0
CursorsAreOfObjects = (t : TypedData) (bounds : List BoundData)
    → t ≡ typed_of t.unit t.hosts t.handlers (checked false t.unit).world
    → violations false t.unit ≡ [] → bound_from t 0 t.unit.embs ≡ Ok bounds
    → tops_numbers t.unit.tops [] ≡ numbers_from 0 (length t.unit.embs) → AllAreRead t.unit.embs
    → CursorsHaveNoFunctions t
