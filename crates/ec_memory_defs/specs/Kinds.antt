-- The scalar type that a kind stands for.
use Rattle.ec_ctypes.specs.declared.types.arith.Arith.TheVariants as arith
use Rattle.ec_memory_defs.specs.declared.kind.Kind.{Kind}
use Rattle.ec_memory_defs.specs.declared.kind.Kind.TheVariants as kind
use Rattle.ec_memory_defs.specs.Memory.{ScalarType, integer_type, pointer_type}

abbrev pub kind_type : Kind → ScalarType
kind_type kind.Bool = integer_type arith.Bool
kind_type kind.Char = integer_type arith.Char
kind_type kind.UChar = integer_type arith.UChar
kind_type kind.Short = integer_type arith.Short
kind_type kind.UShort = integer_type arith.UShort
kind_type kind.Int = integer_type arith.Int
kind_type kind.UInt = integer_type arith.UInt
kind_type kind.Long = integer_type arith.Long
kind_type kind.ULong = integer_type arith.ULong
kind_type kind.LLong = integer_type arith.LLong
kind_type kind.ULLong = integer_type arith.ULLong
kind_type kind.Ptr = pointer_type
