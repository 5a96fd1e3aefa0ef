-- What the forms of this crate make of expressions.
use Rattle.std.specs.Prelude.{Option, Some, None}
use Rattle.ec_ctypes.specs.declared.types.arith.Arith.{Arith}
use Rattle.ec_ctypes.specs.declared.tree.expr.BinOp.{BinOp}
use Rattle.ec_memory_defs.specs.declared.kind.Kind.{Kind}
use Rattle.ec_memory_defs.specs.Kinds.{kind_type}
use Rattle.ec_memory_defs.specs.Memory.{ScalarType, integer_type, pointer_type}
use Rattle.ec_meaning_defs.specs.resolved.Resolved.{Exp, convert, load, negate, flip, not, faulty}
use Rattle.ec_resolving_defs.specs.Conversions as form
use Rattle.ec_code.specs.Trees.{two_made}
use Rattle.ec_resolve_values.specs.declared.conversions.conversion.Conversion.{Conversion}
use Rattle.ec_resolve_values.specs.declared.conversions.conversion.Conversion.TheVariants.{Kept, Made, Missing}
use Rattle.ec_resolve_values.specs.declared.conversions.joined.Joined.{Joined}
use Rattle.ec_resolve_values.specs.declared.conversions.prefix.Prefix.{Prefix}
use Rattle.ec_resolve_values.specs.declared.conversions.prefix.Prefix.TheVariants.{Promoted, Negated, Flipped, Inverted}

-- the scalar type of an integer type, or that of pointers
abbrev pub type_of_kind : Option Arith → ScalarType
type_of_kind (Some a) = integer_type a
type_of_kind None = pointer_type

abbrev pub converted : Conversion → Exp → Exp
converted Kept e = e
converted (Made from to) e = convert (kind_type from) (kind_type to) e
converted Missing e = faulty

-- what is behind an address, if it has a scalar type
abbrev pub loaded : Option Kind → Exp → Exp
loaded (Some kind) e = load (kind_type kind) e
loaded None e = e

-- an operator over two values: each is converted, and then comes the step
abbrev pub joined : Joined → Exp → Exp → Exp
joined j x y = two_made j.step (converted j.left x) (converted j.right y)

-- the same, or what stands for a fault
abbrev pub joined_by : Option Joined → Exp → Exp → Exp
joined_by (Some j) x y = joined j x y
joined_by None x y = faulty

abbrev pub prefixed : Prefix → Exp → Exp
prefixed (Promoted c) e = converted c e
prefixed (Negated c t) e = negate t (converted c e)
prefixed (Flipped c t) e = flip t (converted c e)
prefixed Inverted e = not e

abbrev pub prefixed_by : Option Prefix → Exp → Exp
prefixed_by (Some p) e = prefixed p e
prefixed_by None e = faulty

-- an operator on integers but `&&` and `||`
abbrev pub operated_integers : BinOp → Arith → Exp → Arith → Exp → Exp
operated_integers op a x b y =
    form.operated (form.operation_in op (form.left_type op a b))
    (form.as_arith a (form.left_type op a b) x) (form.as_arith b (form.right_type op a b) y)
