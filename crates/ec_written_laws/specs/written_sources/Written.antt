-- What is written of an accepted source.
use Rattle.ec_ctypes.specs.trees.Units.{UnitData}
use Rattle.ec_expansion_defs.specs.Programs.{written_program}
use Rattle.ec_phases_defs.specs.Sources.{BoundProgram}

abbrev pub written_of : BoundProgram → UnitData
written_of p = written_program p.program p.bounds
