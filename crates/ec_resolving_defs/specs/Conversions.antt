-- Conversions and operations of values whose types are known, written out (ISO/IEC 9899:1999, 6.3 and 6.5).
use Rattle.std.specs.Prelude.{ℕ, Bool, true, false, not as negation, pos, nat_le, Option, Some, None, if◌then◌else◌}
use Rattle.ec_ctypes.specs.declared.types.arith.Arith.{Arith}
use Rattle.ec_ctypes.specs.declared.types.arith.Arith.TheVariants.{Int}
use Rattle.ec_ctypes.specs.declared.types.sizes.Shape.{Shape}
use Rattle.ec_ctypes.specs.declared.tree.expr.BinOp.{BinOp}
use Rattle.ec_ctypes.specs.declared.tree.expr.BinOp.TheVariants.{Or, And, BitOr, BitXor, BitAnd, Eq, Ne, Lt, Gt, Le, Ge, Shl, Shr, Add, Sub, Mul, Div, Rem}
use Rattle.ec_ctypes.specs.declared.tree.expr.UnOp.{UnOp}
use Rattle.ec_ctypes.specs.declared.tree.expr.UnOp.TheVariants.{Addr, Deref, Plus, Minus, Not, Flip}
use Rattle.ec_ctypes.specs.trees.Types.{TyData, void, arithmetic, pointer, array, structure}
use Rattle.ec_ctypes.specs.Arithmetic.{promoted, usual_type}
use Rattle.ec_memory_defs.specs.Memory.{number, ScalarType, integer_type, pointer_type, scalar_type}
use Rattle.ec_typing_defs.specs.Types.{same_arith, is_shift}
use Rattle.ec_typing_defs.specs.Worlds.{World, shape_in, max_size}
use Rattle.ec_meaning_defs.specs.resolved.Operations.{Comparison, equal, unequal, less, greater, at_most, at_least, Operation, plus, minus, times, divided, remainder, bits_and, bits_or, bits_xor, integers, shift_left, shift_right, compare, pointer_plus, plus_pointer, pointer_minus, pointers_apart}
use Rattle.ec_meaning_defs.specs.resolved.Resolved.{Exp, constant, load, store, copy, update, convert, negate, flip, not, operate, both, either, faulty}

-- a shape that is within the limit of types: what is larger has no size
abbrev pub within_limit : Option Shape → Option Shape
within_limit None = None
within_limit (Some shape) = if nat_le shape.size max_size then Some shape else None

abbrev pub size_or_none : Option Shape → ℕ
size_or_none None = 0
size_or_none (Some shape) = shape.size

-- the size of a type, in bytes
abbrev pub size_in : World → TyData → ℕ
size_in w t = size_or_none (within_limit (shape_in w t))

-- ---- conversions

abbrev pub same_kind : ScalarType → ScalarType → Bool
same_kind (integer_type a) (integer_type b) = same_arith a b
same_kind (integer_type a) pointer_type = false
same_kind pointer_type (integer_type b) = false
same_kind pointer_type pointer_type = true

-- a value of the first type as one of the second. A conversion to its own type is none
abbrev pub converted_to : ScalarType → ScalarType → Exp → Exp
converted_to from to e = if same_kind from to then e else convert from to e

abbrev pub as_arith : Arith → Arith → Exp → Exp
as_arith from to e = converted_to (integer_type from) (integer_type to) e

abbrev pub as_pointer : Arith → Exp → Exp
as_pointer from e = convert (integer_type from) pointer_type e

abbrev pub between : Option ScalarType → Option ScalarType → Exp → Exp
between (Some from) (Some to) e = converted_to from to e
between (Some from) None e = e
between None to e = e

-- a value of the first type as one of the second, as by assignment or by a cast. A struct stays as it is
abbrev pub as_type : TyData → TyData → Exp → Exp
as_type from to e = between (scalar_type from) (scalar_type to) e

-- the same, where the types are known
abbrev pub as_known_type : Option TyData → Option TyData → Exp → Exp
as_known_type (Some from) (Some to) e = as_type from to e
as_known_type (Some from) None e = faulty
as_known_type None to e = faulty

-- an argument of a format: its type is promoted (6.5.2.2, 6)
abbrev pub promoted_value : Option TyData → Exp → Exp
promoted_value (Some (arithmetic a)) e = as_arith a (promoted a) e
promoted_value _ e = e

-- ---- reading a place (6.3.2.1)

-- the value behind an address. A struct or an array is known by its address
abbrev pub read_at : TyData → Exp → Exp
read_at void e = e
read_at (arithmetic a) e = load (integer_type a) e
read_at (pointer t) e = load pointer_type e
read_at (array t n) e = e
read_at (structure k) e = e

-- ---- integers

abbrev pub comparison_of : BinOp → Option Comparison
comparison_of Eq = Some equal
comparison_of Ne = Some unequal
comparison_of Lt = Some less
comparison_of Gt = Some greater
comparison_of Le = Some at_most
comparison_of Ge = Some at_least
comparison_of _ = None

-- the operation of an operator on integers, of which the left one has this type once it is converted
abbrev pub operation_in : BinOp → Arith → Option Operation
operation_in Add t = Some (integers t plus)
operation_in Sub t = Some (integers t minus)
operation_in Mul t = Some (integers t times)
operation_in Div t = Some (integers t divided)
operation_in Rem t = Some (integers t remainder)
operation_in BitAnd t = Some (integers t bits_and)
operation_in BitOr t = Some (integers t bits_or)
operation_in BitXor t = Some (integers t bits_xor)
operation_in Shl t = Some (shift_left t)
operation_in Shr t = Some (shift_right t)
operation_in Eq t = Some (compare equal)
operation_in Ne t = Some (compare unequal)
operation_in Lt t = Some (compare less)
operation_in Gt t = Some (compare greater)
operation_in Le t = Some (compare at_most)
operation_in Ge t = Some (compare at_least)
operation_in And t = None
operation_in Or t = None

-- To which types the operands are converted: both to their common type, but for a shift each is promoted alone (6.3.1.8, 6.5.7)
abbrev pub left_type : BinOp → Arith → Arith → Arith
left_type op a b = if is_shift op then promoted a else usual_type a b

abbrev pub right_type : BinOp → Arith → Arith → Arith
right_type op a b = if is_shift op then promoted b else usual_type a b

abbrev pub operated : Option Operation → Exp → Exp → Exp
operated None x y = faulty
operated (Some operation) x y = operate operation x y

abbrev pub integers_exp : BinOp → Arith → Exp → Arith → Exp → Exp
integers_exp And a x b y = both x y
integers_exp Or a x b y = either x y
integers_exp op a x b y =
    operated (operation_in op (left_type op a b))
    (as_arith a (left_type op a b) x) (as_arith b (right_type op a b) y)

-- ---- pointers

abbrev pub compared : Option Comparison → Exp → Exp → Exp
compared None x y = faulty
compared (Some c) x y = operate (compare c) x y

-- over two pointers to objects of this size
abbrev pub pointers_exp : BinOp → ℕ → Exp → Exp → Exp
pointers_exp And size x y = both x y
pointers_exp Or size x y = either x y
pointers_exp Sub size x y = operate (pointers_apart size) x y
pointers_exp op size x y = compared (comparison_of op) x y

-- A pointer and an integer, which moves the pointer by its number as it is, or is a null pointer
abbrev pub pointer_exp : BinOp → ℕ → Exp → Arith → Exp → Exp
pointer_exp And size x b y = both x y
pointer_exp Or size x b y = either x y
pointer_exp Add size x b y = operate (pointer_plus size) x y
pointer_exp Sub size x b y = operate (pointer_minus size) x y
pointer_exp op size x b y = compared (comparison_of op) x (as_pointer b y)

abbrev pub reversed_exp : BinOp → ℕ → Arith → Exp → Exp → Exp
reversed_exp And size a x y = both x y
reversed_exp Or size a x y = either x y
reversed_exp Add size a x y = operate (plus_pointer size) x y
reversed_exp op size a x y = compared (comparison_of op) (as_pointer a x) y

-- a binary operator over values of these types (6.5.5 to 6.5.14)
abbrev pub binary_exp : World → BinOp → TyData → Exp → TyData → Exp → Exp
binary_exp w op (arithmetic a) x (arithmetic b) y = integers_exp op a x b y
binary_exp w op (pointer s) x (pointer t) y = pointers_exp op (size_in w s) x y
binary_exp w op (pointer s) x (arithmetic b) y = pointer_exp op (size_in w s) x b y
binary_exp w op (arithmetic a) x (pointer t) y = reversed_exp op (size_in w t) a x y
binary_exp w op _ x _ y = faulty

-- the address of an element (6.5.2.1, 2)
abbrev pub element_exp : World → TyData → Exp → TyData → Exp → Exp
element_exp w (pointer s) x (arithmetic b) y = operate (pointer_plus (size_in w s)) x y
element_exp w (arithmetic a) x (pointer t) y = operate (plus_pointer (size_in w t)) x y
element_exp w _ x _ y = faulty

-- ---- unary operators (6.5.3.3)

abbrev pub sign_exp : UnOp → Arith → Exp → Exp
sign_exp Plus a e = as_arith a (promoted a) e
sign_exp Minus a e = negate (promoted a) (as_arith a (promoted a) e)
sign_exp Flip a e = flip (promoted a) (as_arith a (promoted a) e)
sign_exp Not a e = not e
sign_exp Addr a e = faulty
sign_exp Deref a e = faulty

-- `!` of any scalar, the others of integers
abbrev pub unary_exp : UnOp → TyData → Exp → Exp
unary_exp op (arithmetic a) e = sign_exp op a e
unary_exp Not (pointer t) e = not e
unary_exp _ _ e = faulty

-- ---- assignments (6.5.16)

abbrev pub stored_scalar : Option ScalarType → Exp → Exp → Exp
stored_scalar None place e = faulty
stored_scalar (Some kind) place e = store kind place e

-- a value of the second type is stored at a place of the first. A struct is copied
abbrev pub assigned : World → TyData → Exp → TyData → Exp → Exp
assigned w (structure k) place t e = copy (size_in w (structure k)) place e
assigned w s place t e = stored_scalar (scalar_type s) place (as_type t s e)

abbrev pub updated : ScalarType → ScalarType → Option Operation → Bool → Exp → Exp → Exp
updated kind widened None old place e = faulty
updated kind widened (Some operation) old place e =
    update (record {
      kind = kind;
      widened = widened;
      operation = operation;
      gives_old = old;
    }) place e

abbrev pub pointer_step : BinOp → ℕ → Option Operation
pointer_step Add size = Some (pointer_plus size)
pointer_step Sub size = Some (pointer_minus size)
pointer_step _ size = None

-- `op=`, `++` and `--`: whether the old value is the answer
abbrev pub compound : World → BinOp → Bool → TyData → Exp → TyData → Exp → Exp
compound w op old (arithmetic a) place (arithmetic b) e =
    updated (integer_type a) (integer_type (left_type op a b))
    (operation_in op (left_type op a b)) old place (as_arith b (right_type op a b) e)
compound w op old (pointer s) place (arithmetic b) e =
    updated pointer_type pointer_type (pointer_step op (size_in w s)) old place e
compound w op old _ place _ e = faulty

-- `++` and `--` add and subtract an int 1
abbrev pub bumped : World → Bool → Bool → TyData → Exp → Exp
bumped w before up t place =
    compound w (if up then Add else Sub) (negation before) t place (arithmetic Int)
    (constant (number (pos 1)))
