-- What code answers: the answer, with the tree as its view shows it, unless memory fails.
use Rattle.std.specs.Prelude.{◌≡◌, ◌≢◌, Result, Ok, Err}
use Rattle.ec_base.specs.declared.stop.Stop.{Stop}
use Rattle.ec_base.specs.declared.stop.Stop.TheVariants.{OutOfMemory}
use Rattle.ec_ctypes.specs.declared.tree.unit.Unit.{Unit as Program}
use Rattle.ec_ctypes.specs.trees.Units.{UnitData}
use Rattle.ec_ctypes.specs.views.Units.{unit_view}

abbrev pub GivesUnlessNoMemory : Result Program Stop → Result UnitData Stop → Type 0
GivesUnlessNoMemory (Ok u) a = a ≡ Ok (unit_view u)
GivesUnlessNoMemory (Err s) a = s ≢ OutOfMemory → a ≡ Err s
