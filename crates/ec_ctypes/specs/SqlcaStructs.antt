-- The structs of the communication area `sqlca`.
use Rattle.std.specs.Prelude.{List, [], ◌∷◌, false, None, codes}
use Rattle.ec_ctypes.specs.declared.types.arith.Arith.TheVariants.{Char, Int, Long}
use Rattle.ec_ctypes.specs.trees.Types.{arithmetic, array, structure, MemberData, StructData}

-- a struct without a tag
abbrev pub untagged : List MemberData → StructData
untagged members = record { tag = None; varchar = false; members = members }

-- 0, that of the member sqlerrm, and 1, the whole
abbrev pub sqlca_structs : List StructData
sqlca_structs =
    untagged ((codes "sqlerrml", arithmetic Int)
    ∷ (codes "sqlerrmc", array (arithmetic Char) 150) ∷ [])
    ∷ untagged
    ((codes "sqlcaid", array (arithmetic Char) 8)
    ∷ (codes "sqlabc", arithmetic Long)
    ∷ (codes "sqlcode", arithmetic Long)
    ∷ (codes "sqlerrm", structure 0)
    ∷ (codes "sqlerrp", array (arithmetic Char) 8)
    ∷ (codes "sqlerrd", array (arithmetic Long) 6)
    ∷ (codes "sqlwarn", array (arithmetic Char) 8)
    ∷ (codes "sqlstate", array (arithmetic Char) 5)
    ∷ [])
    ∷ []
