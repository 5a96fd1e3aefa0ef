-- A host of a library call: where its elements are, and what each of them holds.
use Rattle.std.specs.Prelude.{ℕ, zero, suc, Option, Some, None}
use Rattle.ec_ctypes.specs.declared.checked.library.Sym.{Sym}
use Rattle.ec_ctypes.specs.declared.checked.library.Sym.TheVariants as sym
use Rattle.ec_ctypes.specs.declared.types.arith.Arith.{Arith}
use Rattle.ec_ctypes.specs.declared.types.arith.Arith.TheVariants.{Short, UShort, Int, UInt, Long, ULong, LLong, ULLong}

-- what one element holds
pub data Holding : Type 0 where
  -- a value of an integer type
  integer : Arith → Holding
  -- a truth value
  truth : Holding
  -- a char array of so many bytes
  characters : ℕ → Holding
  -- a pointer to the characters of a text
  pointed : Holding
  -- a VARCHAR: an int, which is the length of the text, and an array of so many bytes
  counted : ℕ → Holding

-- the elements of a char symbol: arrays of the length that is given, or pointers where it is 0
abbrev pub of_length : ℕ → Holding
of_length zero = pointed
of_length (suc n) = characters (suc n)

-- what the elements of a symbol hold, where a length is given for texts; a symbol that is no type has no elements
abbrev pub holding : Sym → ℕ → Option Holding
holding sym.Char n = Some (of_length n)
holding sym.UnsignedChar n = Some (of_length n)
holding sym.Short n = Some (integer Short)
holding sym.UnsignedShort n = Some (integer UShort)
holding sym.Int n = Some (integer Int)
holding sym.UnsignedInt n = Some (integer UInt)
holding sym.Long n = Some (integer Long)
holding sym.UnsignedLong n = Some (integer ULong)
holding sym.LongLong n = Some (integer LLong)
holding sym.UnsignedLongLong n = Some (integer ULLong)
holding sym.Bool n = Some truth
holding sym.Varchar n = Some (counted n)
holding _ n = None

-- the type of an indicator
abbrev pub indicator_type : Sym → Option Arith
indicator_type sym.Short = Some Short
indicator_type sym.Int = Some Int
indicator_type sym.Long = Some Long
indicator_type sym.LongLong = Some LLong
indicator_type _ = None

-- the indicators of a host: their type, the pointer to the first one, and how many bytes lie between the beginnings of two neighbours
pub record IndicatorData : Type 0 where
  pub kind : Arith
  pub place : ℕ
  pub step : ℕ

-- a host: what its elements hold, the pointer to the first one, and how many bytes lie between the beginnings of two neighbours
pub record HostData : Type 0 where
  pub holds : Holding
  pub place : ℕ
  pub step : ℕ
  pub indicator : Option IndicatorData
