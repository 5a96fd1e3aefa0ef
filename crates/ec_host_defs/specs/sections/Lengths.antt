-- The length of a VARCHAR: an integer constant of 1 or more that is made of integer and character constants, parentheses and the arithmetic, bitwise, comparing and logical operators alone (PostgreSQL manual, "VARCHAR"; ISO/IEC 9899:1999, 6.6).
use Rattle.std.specs.Prelude.{ℕ, suc, Bool, true, false, pos, Option, Some, None}
use Rattle.ec_ctypes.specs.declared.types.arith.Arith.{Arith}
use Rattle.ec_ctypes.specs.declared.types.arith.Arith.TheVariants.{Int}
use Rattle.ec_ctypes.specs.declared.tree.expr.BinOp.{BinOp}
use Rattle.ec_ctypes.specs.declared.tree.expr.UnOp.{UnOp}
use Rattle.ec_ctypes.specs.declared.tree.expr.UnOp.TheVariants.{Addr, Deref, Plus, Minus, Not, Flip}
use Rattle.ec_ctypes.specs.trees.Types.{TyData, arithmetic}
use Rattle.ec_ctypes.specs.trees.Exprs.{ExprData, integer, character, unary, binary, DimData, open_dim, dim, DimList, no_dims, dims}
use Rattle.ec_ctypes.specs.Arithmetic.{promoted}
use Rattle.ec_typing_defs.specs.Types.{integer_operation}
use Rattle.ec_typing_defs.specs.Constants.{ConstData, known, unary_constant, binary_constant}

-- a constant with its type
abbrev pub Plain : Type 0
Plain = Arith × ConstData

abbrev pub plain_integer : ℕ → TyData → Option Plain
plain_integer n (arithmetic a) = Some (a, known (pos n))
plain_integer n _ = None

abbrev pub plain_unary : UnOp → Option Plain → Option Plain
plain_unary op None = None
plain_unary Addr (Some p) = None
plain_unary Deref (Some p) = None
plain_unary Not (Some p) = Some (Int, unary_constant Not p.0 p.1)
plain_unary Plus (Some p) = Some (promoted p.0, unary_constant Plus p.0 p.1)
plain_unary Minus (Some p) = Some (promoted p.0, unary_constant Minus p.0 p.1)
plain_unary Flip (Some p) = Some (promoted p.0, unary_constant Flip p.0 p.1)

abbrev pub plain_binary : BinOp → Option Plain → Option Plain → Option Plain
plain_binary op None q = None
plain_binary op (Some p) None = None
plain_binary op (Some p) (Some q) =
    Some (integer_operation op p.0 q.0, binary_constant op p.0 q.0 p.1 q.1)

-- an expression of these parts alone
abbrev pub plain : ExprData → Option Plain
plain (integer n t) = plain_integer n t
plain (character c) = Some (Int, known c)
plain (unary op e) = plain_unary op (plain e)
plain (binary op a b) = plain_binary op (plain a) (plain b)
plain _ = None

abbrev pub is_positive : ConstData → Bool
is_positive (known (pos (suc n))) = true
is_positive _ = false

abbrev pub is_length_value : Option Plain → Bool
is_length_value None = false
is_length_value (Some p) = is_positive p.1

abbrev pub is_length : DimData → Bool
is_length open_dim = false
is_length (dim e) = is_length_value (plain e)

-- the last of these lengths is one
abbrev pub ends_in_length : DimList → Bool
ends_in_length no_dims = false
ends_in_length (dims d no_dims) = is_length d
ends_in_length (dims d (dims e ds)) = ends_in_length (dims e ds)
