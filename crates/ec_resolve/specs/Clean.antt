-- Programs in which the checks find nothing, their resolved forms, and their calls of the library.
-- All stay shut, since the walk of the checks is all of them.
use Rattle.std.specs.Prelude.{◌≡◌, Bool, List, []}
use Rattle.ec_ctypes.specs.trees.Units.{UnitData}
use Rattle.ec_meaning_defs.specs.resolved.Programs.{Program}
use Rattle.ec_resolving_defs.specs.Programs.{library_calls_of, program_by, resolve, walked}
use Rattle.ec_resolving_defs.specs.Storage.{LibraryCall}
use Rattle.ec_typing_defs.specs.Answers.{violations}

-- nothing is found, as written C or not
unfoldable pub FindsNothing : Bool → UnitData → Type 0
FindsNothing written u = violations written u ≡ []

-- what is left of a program
unfoldable pub resolved_form : Bool → UnitData → Program
resolved_form written u = resolve written u

-- the calls of the library in it, by their numbers
unfoldable pub called_form : Bool → UnitData → List LibraryCall
called_form written u = library_calls_of written u

-- what is left of it whatever is found
unfoldable pub walked_form : Bool → UnitData → Program
walked_form written u = program_by (walked written u).storage
