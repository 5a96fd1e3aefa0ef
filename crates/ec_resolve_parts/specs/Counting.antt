-- How many globals a part of a program declares.
use Rattle.std.specs.Prelude.{ℕ}
use Rattle.ec_ctypes.specs.trees.Units.{TopData, decl_top}
use Rattle.ec_resolving_defs.specs.Programs.{globals_of_decl}

abbrev pub globals_of : TopData → ℕ
globals_of (decl_top d) = globals_of_decl d
globals_of _ = 0
