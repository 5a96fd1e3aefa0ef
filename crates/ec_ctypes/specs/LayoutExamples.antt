-- Structs whose layout is worked out, by their numbers in the list.
use Rattle.std.specs.Prelude.{ℕ, List, [], ◌∷◌, true, false, Option, Some, None, codes}
use Rattle.ec_ctypes.specs.declared.types.arith.Arith.{Arith}
use Rattle.ec_ctypes.specs.declared.types.arith.Arith.TheVariants.{Bool, Char, Short, Int, Long}
use Rattle.ec_ctypes.specs.declared.types.sizes.Shape.{Shape}
use Rattle.ec_ctypes.specs.trees.Types.{TyData, arithmetic, pointer, array, structure, MemberData, StructData}

-- an array of so many numbers
abbrev pub row : Arith → ℕ → TyData
row t count = array (arithmetic t) count

-- a shape of this size and alignment
abbrev pub sized : ℕ → ℕ → Option Shape
sized size align = Some (record { size = size; align = align })

-- a struct with these members
abbrev pub struct : List MemberData → StructData
struct members = record { tag = None; varchar = false; members = members }

-- 0: struct { char c; int n; }
abbrev pub char_int : StructData
char_int = struct ((codes "c", arithmetic Char) ∷ (codes "n", arithmetic Int) ∷ [])

-- 1: struct { char c; struct char_int inner; char d; }
abbrev pub nested : StructData
nested = struct
    ((codes "c", arithmetic Char) ∷ (codes "inner", structure 0)
    ∷ (codes "d", arithmetic Char) ∷ [])

-- 2: the struct of a VARCHAR of 5, { int len; char arr[5]; }
abbrev pub varchar_5 : StructData
varchar_5 = record {
  tag = None;
  varchar = true;
  members = (codes "len", arithmetic Int) ∷ (codes "arr", array (arithmetic Char) 5) ∷ [];
}

-- 3: struct { bool a; short b; bool c; }
abbrev pub bool_short : StructData
bool_short = struct
    ((codes "a", arithmetic Bool) ∷ (codes "b", arithmetic Short)
    ∷ (codes "c", arithmetic Bool) ∷ [])

-- 4: struct { char c; long n; }
abbrev pub char_long : StructData
char_long = struct ((codes "c", arithmetic Char) ∷ (codes "n", arithmetic Long) ∷ [])

-- 5: a struct whose members are not listed
abbrev pub unlisted : StructData
unlisted = struct []

-- 6: struct { struct unlisted *next; struct char_long rows[3]; short s; }
abbrev pub rows : StructData
rows = struct ((codes "next", pointer (structure 5))
    ∷ (codes "rows", array (structure 4) 3) ∷ (codes "s", arithmetic Short) ∷ [])

-- 7: a struct that holds itself
abbrev pub itself : StructData
itself = struct ((codes "c", arithmetic Char) ∷ (codes "me", structure 7) ∷ [])

-- 8: a struct that holds one of a higher number
abbrev pub ahead : StructData
ahead = struct ((codes "later", structure 9) ∷ [])

-- 9: struct { char c; }
abbrev pub one_char : StructData
one_char = struct ((codes "c", arithmetic Char) ∷ [])

abbrev pub examples : List StructData
examples = char_int ∷ nested ∷ varchar_5 ∷ bool_short
    ∷ char_long ∷ unlisted ∷ rows ∷ itself ∷ ahead ∷ one_char ∷ []
