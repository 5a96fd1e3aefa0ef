-- How marks, operators, symbols and library calls are written.
use Rattle.std.specs.Prelude.{ℕ, List, codes}
use Rattle.ec_ctypes.specs.declared.text.token.Punct.{Punct}
use Rattle.ec_ctypes.specs.declared.text.token.Punct.TheVariants as mark
use Rattle.ec_ctypes.specs.declared.tree.expr.UnOp.{UnOp}
use Rattle.ec_ctypes.specs.declared.tree.expr.UnOp.TheVariants as unary
use Rattle.ec_ctypes.specs.declared.tree.expr.BinOp.{BinOp}
use Rattle.ec_ctypes.specs.declared.tree.expr.BinOp.TheVariants as binary
use Rattle.ec_ctypes.specs.declared.checked.library.Sym.{Sym}
use Rattle.ec_ctypes.specs.declared.checked.library.Sym.TheVariants as symbol
use Rattle.ec_ctypes.specs.declared.checked.library.LibName.{LibName}
use Rattle.ec_ctypes.specs.declared.checked.library.LibName.TheVariants as library

-- a punctuation mark (ISO/IEC 9899:1999, 6.4.6)
abbrev pub punct_text : Punct → List ℕ
punct_text mark.Arrow = codes "->"
punct_text mark.PlusPlus = codes "++"
punct_text mark.MinusMinus = codes "--"
punct_text mark.ShlAssign = codes "<<="
punct_text mark.ShrAssign = codes ">>="
punct_text mark.Shl = codes "<<"
punct_text mark.Shr = codes ">>"
punct_text mark.LessEqual = codes "<="
punct_text mark.GreaterEqual = codes ">="
punct_text mark.EqualEqual = codes "=="
punct_text mark.NotEqual = codes "!="
punct_text mark.AndAnd = codes "&&"
punct_text mark.OrOr = codes "||"
punct_text mark.PlusAssign = codes "+="
punct_text mark.MinusAssign = codes "-="
punct_text mark.StarAssign = codes "*="
punct_text mark.SlashAssign = codes "/="
punct_text mark.PercentAssign = codes "%="
punct_text mark.AndAssign = codes "&="
punct_text mark.OrAssign = codes "|="
punct_text mark.CaretAssign = codes "^="
punct_text mark.LeftParen = codes "("
punct_text mark.RightParen = codes ")"
punct_text mark.LeftBracket = codes "["
punct_text mark.RightBracket = codes "]"
punct_text mark.LeftBrace = codes "{"
punct_text mark.RightBrace = codes "}"
punct_text mark.Semicolon = codes ";"
punct_text mark.Comma = codes ","
punct_text mark.Dot = codes "."
punct_text mark.And = codes "&"
punct_text mark.Star = codes "*"
punct_text mark.Plus = codes "+"
punct_text mark.Minus = codes "-"
punct_text mark.Tilde = codes "~"
punct_text mark.Not = codes "!"
punct_text mark.Slash = codes "/"
punct_text mark.Percent = codes "%"
punct_text mark.Less = codes "<"
punct_text mark.Greater = codes ">"
punct_text mark.Caret = codes "^"
punct_text mark.Or = codes "|"
punct_text mark.Assign = codes "="
punct_text mark.Colon = codes ":"

-- a unary operator (ISO/IEC 9899:1999, 6.5.3)
abbrev pub unary_text : UnOp → List ℕ
unary_text unary.Addr = codes "&"
unary_text unary.Deref = codes "*"
unary_text unary.Plus = codes "+"
unary_text unary.Minus = codes "-"
unary_text unary.Not = codes "!"
unary_text unary.Flip = codes "~"

-- a binary operator (ISO/IEC 9899:1999, 6.5.5 to 6.5.14)
abbrev pub binary_text : BinOp → List ℕ
binary_text binary.Or = codes "||"
binary_text binary.And = codes "&&"
binary_text binary.BitOr = codes "|"
binary_text binary.BitXor = codes "^"
binary_text binary.BitAnd = codes "&"
binary_text binary.Eq = codes "=="
binary_text binary.Ne = codes "!="
binary_text binary.Lt = codes "<"
binary_text binary.Gt = codes ">"
binary_text binary.Le = codes "<="
binary_text binary.Ge = codes ">="
binary_text binary.Shl = codes "<<"
binary_text binary.Shr = codes ">>"
binary_text binary.Add = codes "+"
binary_text binary.Sub = codes "-"
binary_text binary.Mul = codes "*"
binary_text binary.Div = codes "/"
binary_text binary.Rem = codes "%"

-- a symbol of the library
abbrev pub symbol_text : Sym → List ℕ
symbol_text symbol.Char = codes "ECPGt_char"
symbol_text symbol.UnsignedChar = codes "ECPGt_unsigned_char"
symbol_text symbol.Short = codes "ECPGt_short"
symbol_text symbol.UnsignedShort = codes "ECPGt_unsigned_short"
symbol_text symbol.Int = codes "ECPGt_int"
symbol_text symbol.UnsignedInt = codes "ECPGt_unsigned_int"
symbol_text symbol.Long = codes "ECPGt_long"
symbol_text symbol.UnsignedLong = codes "ECPGt_unsigned_long"
symbol_text symbol.LongLong = codes "ECPGt_long_long"
symbol_text symbol.UnsignedLongLong = codes "ECPGt_unsigned_long_long"
symbol_text symbol.Bool = codes "ECPGt_bool"
symbol_text symbol.Varchar = codes "ECPGt_varchar"
symbol_text symbol.Const = codes "ECPGt_const"
symbol_text symbol.Descriptor = codes "ECPGt_descriptor"
symbol_text symbol.NoIndicator = codes "ECPGt_NO_INDICATOR"
symbol_text symbol.EndOfInputs = codes "ECPGt_EOIT"
symbol_text symbol.EndOfOutputs = codes "ECPGt_EORT"
symbol_text symbol.StatementNormal = codes "ECPGst_normal"
symbol_text symbol.StatementExecute = codes "ECPGst_execute"
symbol_text symbol.StatementExecImmediate = codes "ECPGst_exec_immediate"
symbol_text symbol.StatementOpen = codes "ECPGst_open"
symbol_text symbol.ItemData = codes "ECPGd_data"
symbol_text symbol.ItemIndicator = codes "ECPGd_indicator"
symbol_text symbol.ItemName = codes "ECPGd_name"
symbol_text symbol.ItemType = codes "ECPGd_type"
symbol_text symbol.ItemOctets = codes "ECPGd_ret_octet"
symbol_text symbol.EndOfItems = codes "ECPGd_EODT"

-- the function that a call of the library names
abbrev pub library_text : LibName → List ℕ
library_text library.Do = codes "ECPGdo"
library_text library.Connect = codes "ECPGconnect"
library_text library.Disconnect = codes "ECPGdisconnect"
library_text library.SetConn = codes "ECPGsetconn"
library_text library.SetCommit = codes "ECPGsetcommit"
library_text library.Trans = codes "ECPGtrans"
library_text library.Prepare = codes "ECPGprepare"
library_text library.Deallocate = codes "ECPGdeallocate"
library_text library.AllocateDesc = codes "ECPGallocate_desc"
library_text library.DeallocateDesc = codes "ECPGdeallocate_desc"
library_text library.GetDescHeader = codes "ECPGget_desc_header"
library_text library.SetDescHeader = codes "ECPGset_desc_header"
library_text library.GetDesc = codes "ECPGget_desc"
library_text library.SetDesc = codes "ECPGset_desc"
