-- What is known before a program is looked at.
use Rattle.std.specs.Prelude.{Bool, List, [], ◌∷◌, Some, codes, take}
use Rattle.ec_ctypes.specs.trees.Types.{arithmetic, array, structure}
use Rattle.ec_ctypes.specs.declared.types.arith.Arith.TheVariants.{Char, Int, Long}
use Rattle.ec_ctypes.specs.SqlcaStructs.{sqlca_structs}
use Rattle.ec_typing_defs.specs.Tables.{Named}
use Rattle.ec_typing_defs.specs.Worlds.{World, StructInfo, no_names}
use Rattle.ec_typing_defs.specs.Expressions.{Members}
use Rattle.ec_typing_defs.specs.Programs.{known_structs}

-- the members of sqlerrm
abbrev pub message_members : Members
message_members = (codes "sqlerrml", Some (arithmetic Int))
    ∷ (codes "sqlerrmc", Some (array (arithmetic Char) 150)) ∷ []

-- those of sqlca
abbrev pub area_members : Members
area_members =
    (codes "sqlcaid", Some (array (arithmetic Char) 8))
    ∷ (codes "sqlabc", Some (arithmetic Long))
    ∷ (codes "sqlcode", Some (arithmetic Long))
    ∷ (codes "sqlerrm", Some (structure 0))
    ∷ (codes "sqlerrp", Some (array (arithmetic Char) 8))
    ∷ (codes "sqlerrd", Some (array (arithmetic Long) 6))
    ∷ (codes "sqlwarn", Some (array (arithmetic Char) 8))
    ∷ (codes "sqlstate", Some (array (arithmetic Char) 5))
    ∷ []

abbrev pub first_members : Members
first_members = take 4 area_members

-- the structs of sqlca
abbrev pub sqlca_infos : List StructInfo
sqlca_infos = known_structs [] sqlca_structs

-- the world before a program that defines these functions
abbrev pub fresh : Bool → Named (Unit {0}) → World
fresh written defined = record {
  written = written;
  here = no_names;
  outer = [];
  structs = sqlca_infos;
  closed = 0 ∷ 1 ∷ [];
  types = [];
  denoted = [];
  defined = defined;
  labels = [];
  places = 0;
}
