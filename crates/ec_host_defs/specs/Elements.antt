-- What one element of a host is, by its type alone (PostgreSQL manual, "Using Host Variables").
use Rattle.std.specs.Prelude.{ℕ, zero, suc, Bool, true, false, List, [], ◌∷◌, slice_get, Option, Some, None, option_and_then, is_some}
use Rattle.ec_ctypes.specs.declared.types.arith.Arith.{Arith}
use Rattle.ec_ctypes.specs.declared.types.arith.Arith.TheVariants as arith
use Rattle.ec_ctypes.specs.declared.checked.library.Sym.{Sym}
use Rattle.ec_ctypes.specs.declared.checked.library.Sym.TheVariants as sym
use Rattle.ec_ctypes.specs.trees.Types.{TyData, void, arithmetic, pointer, array, structure, MemberData, StructData}

-- the symbol of a type, and the length of a text: 0 for a pointer to one, and for all that is no text
abbrev pub Symbol : Type 0
Symbol = Sym × ℕ

abbrev pub arith_symbol : Arith → Symbol
arith_symbol arith.Bool = (sym.Bool, 0)
arith_symbol arith.Char = (sym.Char, 1)
arith_symbol arith.UChar = (sym.UnsignedChar, 1)
arith_symbol arith.Short = (sym.Short, 0)
arith_symbol arith.UShort = (sym.UnsignedShort, 0)
arith_symbol arith.Int = (sym.Int, 0)
arith_symbol arith.UInt = (sym.UnsignedInt, 0)
arith_symbol arith.Long = (sym.Long, 0)
arith_symbol arith.ULong = (sym.UnsignedLong, 0)
arith_symbol arith.LLong = (sym.LongLong, 0)
arith_symbol arith.ULLong = (sym.UnsignedLongLong, 0)

-- characters of this type, so many
abbrev pub char_symbol : TyData → ℕ → Option Symbol
char_symbol (arithmetic arith.Char) n = Some (sym.Char, n)
char_symbol (arithmetic arith.UChar) n = Some (sym.UnsignedChar, n)
char_symbol _ n = None

-- an array of these
abbrev pub array_symbol : TyData → ℕ → Option Symbol
array_symbol t zero = None
array_symbol t (suc n) = char_symbol t (suc n)

-- how many characters the array has that this member is
abbrev pub array_length : TyData → Option ℕ
array_length (array t n) = Some n
array_length _ = None

-- the capacity of a VARCHAR, by its members: a length and an array
abbrev pub capacity : List MemberData → Option ℕ
capacity (len ∷ arr ∷ []) = array_length arr.1
capacity _ = None

abbrev pub varchar_symbol : Option ℕ → Option Symbol
varchar_symbol (Some (suc n)) = Some (sym.Varchar, suc n)
varchar_symbol _ = None

abbrev pub struct_symbol : StructData → Option Symbol
struct_symbol d = elim d.varchar [ true ↦ varchar_symbol (capacity d.members) | false ↦ None ]

-- An integer, a `bool`, a character, which is an array of one, an array of characters, a pointer to characters, or a VARCHAR. Nothing else is an element.
abbrev pub symbol_of : List StructData → TyData → Option Symbol
symbol_of structs void = None
symbol_of structs (arithmetic a) = Some (arith_symbol a)
symbol_of structs (pointer t) = char_symbol t 0
symbol_of structs (array t n) = array_symbol t n
symbol_of structs (structure k) = option_and_then struct_symbol (slice_get structs k)

abbrev pub is_element : List StructData → TyData → Bool
is_element structs t = is_some (symbol_of structs t)

-- the number of a struct that stands for its members
abbrev pub plain_if : Bool → ℕ → Option ℕ
plain_if true k = None
plain_if false k = Some k

abbrev pub plain_number : ℕ → StructData → Option ℕ
plain_number k d = plain_if d.varchar k

abbrev pub plain_struct : List StructData → TyData → Option ℕ
plain_struct structs (structure k) = option_and_then (plain_number k) (slice_get structs k)
plain_struct structs _ = None

-- the type of an indicator: a signed integer, but no character
abbrev pub is_indicator : TyData → Bool
is_indicator (arithmetic arith.Short) = true
is_indicator (arithmetic arith.Int) = true
is_indicator (arithmetic arith.Long) = true
is_indicator (arithmetic arith.LLong) = true
is_indicator _ = false

-- the types that name a text: an array of characters, a pointer to characters, or a VARCHAR
abbrev pub is_text : List StructData → TyData → Bool
is_text structs void = false
is_text structs (arithmetic a) = false
is_text structs (pointer t) = is_element structs (pointer t)
is_text structs (array t n) = is_element structs (array t n)
is_text structs (structure k) = is_element structs (structure k)
