-- Values as operators know them, and what operators make of them.
use Rattle.std.specs.Prelude.{ℕ, Bool, not as negation, Option, Some, None, if◌then◌else◌}
use Rattle.ec_ctypes.specs.declared.types.arith.Arith.{Arith}
use Rattle.ec_ctypes.specs.declared.types.arith.Arith.TheVariants.{Int}
use Rattle.ec_ctypes.specs.declared.tree.expr.BinOp.{BinOp}
use Rattle.ec_ctypes.specs.declared.tree.expr.BinOp.TheVariants.{Add, Sub}
use Rattle.ec_ctypes.specs.declared.tree.expr.UnOp.{UnOp}
use Rattle.ec_ctypes.specs.trees.Types.{TyData, void, arithmetic, pointer, array, structure}
use Rattle.ec_memory_defs.specs.Memory.{integer_type, pointer_type}
use Rattle.ec_meaning_defs.specs.resolved.Operations.{pointer_plus, plus_pointer}
use Rattle.ec_meaning_defs.specs.resolved.Resolved.{Exp, operate, faulty}
use Rattle.ec_resolving_defs.specs.Conversions as form
use Rattle.ec_typing_defs.specs.Worlds.{World}
use Rattle.ec_resolve_values.specs.declared.conversions.scalar.Scalar.{Scalar}
use Rattle.ec_resolve_values.specs.declared.conversions.scalar.Scalar.TheVariants.{Integer, Pointer}

-- the size of the objects that a pointer leads to
abbrev pub target_size : World → TyData → ℕ
target_size w void = 0
target_size w (arithmetic a) = 0
target_size w (pointer t) = form.size_in w t
target_size w (array t n) = 0
target_size w (structure k) = 0

-- the size of a struct
abbrev pub struct_size : World → TyData → ℕ
struct_size w void = 0
struct_size w (arithmetic a) = 0
struct_size w (pointer t) = 0
struct_size w (array t n) = 0
struct_size w (structure k) = form.size_in w (structure k)

-- a value of this type
abbrev pub scalar_in : World → TyData → Option Scalar
scalar_in w void = None
scalar_in w (arithmetic a) = Some (Integer a)
scalar_in w (pointer t) = Some (Pointer (form.size_in w t))
scalar_in w (array t n) = None
scalar_in w (structure k) = None

abbrev pub binary_of : BinOp → Option Scalar → Exp → Option Scalar → Exp → Exp
binary_of op None x o y = faulty
binary_of op (Some (Integer a)) x None y = faulty
binary_of op (Some (Integer a)) x (Some (Integer b)) y = form.integers_exp op a x b y
binary_of op (Some (Integer a)) x (Some (Pointer n)) y = form.reversed_exp op n a x y
binary_of op (Some (Pointer m)) x None y = faulty
binary_of op (Some (Pointer m)) x (Some (Integer b)) y = form.pointer_exp op m x b y
binary_of op (Some (Pointer m)) x (Some (Pointer n)) y = form.pointers_exp op m x y

abbrev pub element_of : Option Scalar → Exp → Option Scalar → Exp → Exp
element_of None x o y = faulty
element_of (Some (Integer a)) x None y = faulty
element_of (Some (Integer a)) x (Some (Integer b)) y = faulty
element_of (Some (Integer a)) x (Some (Pointer n)) y = operate (plus_pointer n) x y
element_of (Some (Pointer m)) x None y = faulty
element_of (Some (Pointer m)) x (Some (Integer b)) y = operate (pointer_plus m) x y
element_of (Some (Pointer m)) x (Some (Pointer n)) y = faulty

-- `!` of any scalar, the others of integers
abbrev pub unary_of : UnOp → Option Scalar → Exp → Exp
unary_of op None e = faulty
unary_of op (Some (Integer a)) e = form.sign_exp op a e
unary_of op (Some (Pointer n)) e = form.unary_exp op (pointer void) e

-- `op=` of an integer by another
abbrev pub updated_integer : BinOp → Bool → Arith → Exp → Arith → Exp → Exp
updated_integer op old a place b e =
    form.updated (integer_type a) (integer_type (form.left_type op a b))
    (form.operation_in op (form.left_type op a b)) old place
    (form.as_arith b (form.right_type op a b) e)

abbrev pub compound_of : BinOp → Bool → Option Scalar → Exp → Option Scalar → Exp → Exp
compound_of op old None place o e = faulty
compound_of op old (Some (Integer a)) place None e = faulty
compound_of op old (Some (Integer a)) place (Some (Integer b)) e =
    updated_integer op old a place b e
compound_of op old (Some (Integer a)) place (Some (Pointer n)) e = faulty
compound_of op old (Some (Pointer m)) place None e = faulty
compound_of op old (Some (Pointer m)) place (Some (Integer b)) e =
    form.updated pointer_type pointer_type (form.pointer_step op m) old place e
compound_of op old (Some (Pointer m)) place (Some (Pointer n)) e = faulty

-- `++` and `--` by the second expression, an int 1
abbrev pub bumped_of : Bool → Bool → Option Scalar → Exp → Exp → Exp
bumped_of before up o place e =
    compound_of (if up then Add else Sub) (negation before) o place (Some (Integer Int)) e
