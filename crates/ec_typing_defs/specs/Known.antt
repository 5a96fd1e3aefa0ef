-- The names that are known without a declaration, and those that may not be declared.
use Rattle.std.specs.Prelude.{ℕ, zero, suc, ◌-◌, Bool, true, false, ◌&&◌, ◌||◌, not, nat_le, List, [], ◌∷◌, map, Option, Some, None, if◌then◌else◌, codes, length, take}
use Rattle.ec_ctypes.specs.Texts.{symbol_text, library_text}
use Rattle.ec_ctypes.specs.declared.checked.library.Sym.{Sym}
use Rattle.ec_ctypes.specs.declared.checked.library.Sym.TheVariants as symbol
use Rattle.ec_ctypes.specs.declared.checked.library.LibName.{LibName}
use Rattle.ec_ctypes.specs.declared.checked.library.LibName.TheVariants as library
use Rattle.ec_ctypes.specs.trees.Types.{TyData, void, pointer}
use Rattle.ec_ctypes.specs.trees.Exprs.{ExprData, string, identifier, ExprList, no_exprs, exprs}
use Rattle.ec_language.specs.Letters.{Text, same_text}
use Rattle.ec_typing_defs.specs.Tables.{Named, find, is_one_of}
use Rattle.ec_typing_defs.specs.Types.{int_type, char_type, size_type}

-- a known function: its result and its parameters, or that it takes a format behind so many other arguments
pub data KnownData : Type 0 where
  plain : TyData → List TyData → KnownData
  formatted : ℕ → KnownData

abbrev pub text_type : TyData
text_type = pointer char_type

abbrev pub memory_type : TyData
memory_type = pointer void

-- the known functions (7.19.6.1, 7.19.6.3, 7.19.7.9, 7.19.7.10, 7.20.4.3, 7.21; PostgreSQL manual, 34.8.1 for sqlprint)
abbrev pub known_functions : Named KnownData
known_functions =
    (codes "printf", formatted 0)
    ∷ (codes "fprintf", formatted 1)
    ∷ (codes "puts", plain int_type (text_type ∷ []))
    ∷ (codes "putchar", plain int_type (int_type ∷ []))
    ∷ (codes "strlen", plain size_type (text_type ∷ []))
    ∷ (codes "strcmp", plain int_type (text_type ∷ text_type ∷ []))
    ∷ (codes "strncmp", plain int_type (text_type ∷ text_type ∷ size_type ∷ []))
    ∷ (codes "memcmp", plain int_type (memory_type ∷ memory_type ∷ size_type ∷ []))
    ∷ (codes "strcpy", plain text_type (text_type ∷ text_type ∷ []))
    ∷ (codes "strncpy", plain text_type (text_type ∷ text_type ∷ size_type ∷ []))
    ∷ (codes "strcat", plain text_type (text_type ∷ text_type ∷ []))
    ∷ (codes "memcpy", plain memory_type (memory_type ∷ memory_type ∷ size_type ∷ []))
    ∷ (codes "memset", plain memory_type (memory_type ∷ int_type ∷ size_type ∷ []))
    ∷ (codes "exit", plain void (int_type ∷ []))
    ∷ (codes "sqlprint", plain void [])
    ∷ []

abbrev pub known_function : Text → Option KnownData
known_function name = find name known_functions

abbrev pub names_in : {V : Type 0} → Named V → List Text
names_in es = map (λ e. e.0) es

-- ---- reserved names

abbrev pub reserved_words : List Text
reserved_words = codes "sqlca" ∷ codes "SQLCODE" ∷ codes "SQLSTATE" ∷ codes "NULL"
    ∷ codes "true" ∷ codes "false" ∷ codes "stdout" ∷ codes "stderr" ∷ []

abbrev pub begins_with : Text → Text → Bool
begins_with front t = same_text front (take (length front) t)

-- an object, a parameter, a function, a member or a label may not have this name
abbrev pub is_reserved : Text → Bool
is_reserved t = is_one_of reserved_words t || is_one_of (names_in known_functions) t
    || begins_with (codes "ECPG") t || begins_with (codes "varchar_") t

-- a letter in upper case
abbrev pub raised : ℕ → ℕ
raised b = if nat_le 97 b && nat_le b 122 then b - 32 else b

-- A tag may not have this name. What expansion makes of a VARCHAR has a tag that begins with `varchar_`, so written C may have these. `struct EXEC SQL` would begin an embedded statement.
abbrev pub is_reserved_tag : Bool → Text → Bool
is_reserved_tag written t =
    is_one_of reserved_words t
    || is_one_of (names_in known_functions) t
    || begins_with (codes "ECPG") t
    || (not written && begins_with (codes "varchar_") t)
    || same_text (map raised t) (codes "EXEC")

-- ---- arguments by their form

-- a name, as the function of a call that is kept apart may be
abbrev pub is_identifier : ExprData → Bool
is_identifier (identifier x) = true
is_identifier _ = false

-- `stdout` or `stderr`
abbrev pub is_stream : ExprData → Bool
is_stream (identifier x) = is_one_of (codes "stdout" ∷ codes "stderr" ∷ []) x
is_stream _ = false

-- the calls of the library
abbrev pub calls : List LibName
calls = library.Do ∷ library.Connect ∷ library.Disconnect ∷ library.SetConn ∷ library.SetCommit
    ∷ library.Trans ∷ library.Prepare ∷ library.Deallocate ∷ library.AllocateDesc
    ∷ library.DeallocateDesc ∷ library.GetDescHeader
    ∷ library.SetDescHeader ∷ library.GetDesc ∷ library.SetDesc ∷ []

abbrev pub library_calls : List Text
library_calls = map library_text calls

-- the symbols of the library
abbrev pub symbols : List Sym
symbols = symbol.Char ∷ symbol.UnsignedChar ∷ symbol.Short ∷ symbol.UnsignedShort ∷ symbol.Int
    ∷ symbol.UnsignedInt ∷ symbol.Long ∷ symbol.UnsignedLong ∷ symbol.LongLong
    ∷ symbol.UnsignedLongLong ∷ symbol.Bool ∷ symbol.Varchar ∷ symbol.Const ∷ symbol.Descriptor
    ∷ symbol.NoIndicator ∷ symbol.EndOfInputs ∷ symbol.EndOfOutputs ∷ symbol.StatementNormal
    ∷ symbol.StatementExecute ∷ symbol.StatementExecImmediate
    ∷ symbol.StatementOpen ∷ symbol.ItemData
    ∷ symbol.ItemIndicator ∷ symbol.ItemName ∷ symbol.ItemType
    ∷ symbol.ItemOctets ∷ symbol.EndOfItems ∷ []

abbrev pub library_symbols : List Text
library_symbols = map symbol_text symbols

abbrev pub is_symbol : ExprData → Bool
is_symbol (identifier x) = is_one_of library_symbols x
is_symbol _ = false

-- which arguments of a call are no expressions: none, the first, if it is a stream, or those of a call of the library that are its symbols
pub data ArgumentsData : Type 0 where
  all_expressions : ArgumentsData
  stream_first : ArgumentsData
  with_symbols : ArgumentsData

abbrev pub is_no_expression : ArgumentsData → ExprData → Bool
is_no_expression all_expressions e = false
is_no_expression stream_first e = is_stream e
is_no_expression with_symbols e = is_symbol e

-- behind the first argument
abbrev pub behind_first_argument : ArgumentsData → ArgumentsData
behind_first_argument all_expressions = all_expressions
behind_first_argument stream_first = all_expressions
behind_first_argument with_symbols = with_symbols

-- whether the first argument of this function is a stream
abbrev pub takes_stream : Text → Bool
takes_stream name = same_text name (codes "fprintf")

-- The symbols of the library are known in written C alone, as arguments of its calls.
abbrev pub arguments_of : Bool → Text → ArgumentsData
arguments_of written name = if takes_stream name then stream_first
    else (if written && is_one_of library_calls name then with_symbols else all_expressions)

abbrev pub has_stream : ExprList → Bool
has_stream no_exprs = false
has_stream (exprs e es) = is_stream e

abbrev pub literal_in : ExprData → Option Text
literal_in (string s) = Some s
literal_in _ = None

-- the literal behind so many arguments
abbrev pub literal_at : ℕ → ExprList → Option Text
literal_at n no_exprs = None
literal_at zero (exprs e es) = literal_in e
literal_at (suc n) (exprs e es) = literal_at n es
