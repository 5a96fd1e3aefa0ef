-- What is kept beside the structs of a program.
use Rattle.std.specs.Prelude.{◌≡◌, ℕ, List, map, Option}
use Rattle.ec_ctypes.specs.declared.types.ty.StructDef.{StructDef}
use Rattle.ec_ctypes.specs.views.Types.{structs_view}
use Rattle.ec_typing_defs.specs.Tables.{Named}
use Rattle.ec_params.specs.declared.tallies.Tally.{Tally}
use Rattle.ec_params.specs.Listed.{places_of}
use Rattle.ec_params.specs.Tallies.{tallies_of}

abbrev pub IsKept : List StructDef → List (Named ℕ) → List (Option Tally) → Type 0
IsKept structs tables tallies = (tables ≡ map places_of (structs_view structs))
    × (tallies ≡ tallies_of (structs_view structs))
