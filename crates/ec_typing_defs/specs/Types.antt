-- The rules on types alone (ISO/IEC 9899:1999, 6.2.5, 6.2.7, 6.3, 6.5, 6.7.2).
use Rattle.std.specs.Prelude.{ℕ, ◌+◌, Bool, true, false, not, ◌&&◌, ◌||◌, ◌==◌, List, [], ◌∷◌, Option, Some, None, if◌then◌else◌, codes}
use Rattle.ec_ctypes.specs.declared.types.arith.Arith.{Arith}
use Rattle.ec_ctypes.specs.declared.types.arith.Arith.TheVariants.{Bool as Boolean, Char, UChar, Short, UShort, Int, UInt, Long, ULong, LLong, ULLong}
use Rattle.ec_ctypes.specs.declared.tree.expr.BinOp.{BinOp}
use Rattle.ec_ctypes.specs.declared.tree.expr.BinOp.TheVariants.{Or, And, Eq, Ne, Lt, Gt, Le, Ge, Shl, Shr, Add, Sub}
use Rattle.ec_ctypes.specs.trees.Types.{TyData, void, arithmetic, pointer, array, structure}
use Rattle.ec_ctypes.specs.Arithmetic.{rank, is_signed, promoted, usual_type}
use Rattle.ec_language.specs.Letters.{Text, same_text}

abbrev pub int_type : TyData
int_type = arithmetic Int

abbrev pub char_type : TyData
char_type = arithmetic Char

-- the type of sizes (6.5.3.4, 7.17)
abbrev pub size_type : TyData
size_type = arithmetic ULong

-- the type of the difference of two pointers (6.5.6, 9)
abbrev pub difference_type : TyData
difference_type = arithmetic Long

-- ---- type words

-- how often a word stands in a list
abbrev pub occurrences : Text → List Text → ℕ
occurrences w [] = 0
occurrences w (v ∷ vs) = (if same_text w v then 1 else 0) + occurrences w vs

abbrev pub type_words : List Text
type_words = codes "void" ∷ codes "bool" ∷ codes "char" ∷ codes "short"
    ∷ codes "int" ∷ codes "long" ∷ codes "signed" ∷ codes "unsigned" ∷ []

abbrev pub occur_alike : List Text → List Text → List Text → Bool
occur_alike [] us vs = true
occur_alike (w ∷ ws) us vs = occurrences w us == occurrences w vs && occur_alike ws us vs

-- the same words, in any order
abbrev pub same_words : List Text → List Text → Bool
same_words us vs = occur_alike type_words us vs

-- the sets of words that are types (6.7.2, 2). `char` and `signed char` are one type here
abbrev pub word_types : List (List Text × TyData)
word_types =
    (codes "int" ∷ [], int_type)
    ∷ (codes "char" ∷ [], char_type)
    ∷ (codes "void" ∷ [], void)
    ∷ (codes "bool" ∷ [], arithmetic Boolean)
    ∷ (codes "signed" ∷ codes "char" ∷ [], char_type)
    ∷ (codes "unsigned" ∷ codes "char" ∷ [], arithmetic UChar)
    ∷ (codes "short" ∷ [], arithmetic Short)
    ∷ (codes "signed" ∷ codes "short" ∷ [], arithmetic Short)
    ∷ (codes "short" ∷ codes "int" ∷ [], arithmetic Short)
    ∷ (codes "signed" ∷ codes "short" ∷ codes "int" ∷ [], arithmetic Short)
    ∷ (codes "unsigned" ∷ codes "short" ∷ [], arithmetic UShort)
    ∷ (codes "unsigned" ∷ codes "short" ∷ codes "int" ∷ [], arithmetic UShort)
    ∷ (codes "signed" ∷ [], int_type)
    ∷ (codes "signed" ∷ codes "int" ∷ [], int_type)
    ∷ (codes "unsigned" ∷ [], arithmetic UInt)
    ∷ (codes "unsigned" ∷ codes "int" ∷ [], arithmetic UInt)
    ∷ (codes "long" ∷ [], arithmetic Long)
    ∷ (codes "signed" ∷ codes "long" ∷ [], arithmetic Long)
    ∷ (codes "long" ∷ codes "int" ∷ [], arithmetic Long)
    ∷ (codes "signed" ∷ codes "long" ∷ codes "int" ∷ [], arithmetic Long)
    ∷ (codes "unsigned" ∷ codes "long" ∷ [], arithmetic ULong)
    ∷ (codes "unsigned" ∷ codes "long" ∷ codes "int" ∷ [], arithmetic ULong)
    ∷ (codes "long" ∷ codes "long" ∷ [], arithmetic LLong)
    ∷ (codes "signed" ∷ codes "long" ∷ codes "long" ∷ [], arithmetic LLong)
    ∷ (codes "long" ∷ codes "long" ∷ codes "int" ∷ [], arithmetic LLong)
    ∷ (codes "signed" ∷ codes "long" ∷ codes "long" ∷ codes "int" ∷ [], arithmetic LLong)
    ∷ (codes "unsigned" ∷ codes "long" ∷ codes "long" ∷ [], arithmetic ULLong)
    ∷ (codes "unsigned" ∷ codes "long" ∷ codes "long" ∷ codes "int" ∷ [], arithmetic ULLong)
    ∷ []

abbrev pub type_in_rows : List (List Text × TyData) → List Text → Option TyData
type_in_rows [] ws = None
type_in_rows (r ∷ rs) ws = if same_words r.0 ws then Some r.1 else type_in_rows rs ws

-- the type that words make, in any order
abbrev pub words_type : List Text → Option TyData
words_type ws = type_in_rows word_types ws

-- ---- forms of types

abbrev pub is_void : TyData → Bool
is_void void = true
is_void (arithmetic a) = false
is_void (pointer t) = false
is_void (array t n) = false
is_void (structure k) = false

-- integers and pointers (6.2.5, 21)
abbrev pub is_scalar : TyData → Bool
is_scalar void = false
is_scalar (arithmetic a) = true
is_scalar (pointer t) = true
is_scalar (array t n) = false
is_scalar (structure k) = false

abbrev pub is_structure : TyData → Bool
is_structure void = false
is_structure (arithmetic a) = false
is_structure (pointer t) = false
is_structure (array t n) = false
is_structure (structure k) = true

abbrev pub is_array : TyData → Bool
is_array void = false
is_array (arithmetic a) = false
is_array (pointer t) = false
is_array (array t n) = true
is_array (structure k) = false

abbrev pub is_character : Arith → Bool
is_character a = rank a == rank Char

-- an array whose elements are characters (6.7.8, 14)
abbrev pub is_char_array : TyData → Bool
is_char_array (array (arithmetic a) n) = is_character a
is_char_array _ = false

-- As a value, an array is a pointer to its first element (6.3.2.1, 3).
abbrev pub decayed : TyData → TyData
decayed void = void
decayed (arithmetic a) = arithmetic a
decayed (pointer t) = pointer t
decayed (array t n) = pointer t
decayed (structure k) = structure k

-- what a pointer points to
abbrev pub pointed_to : TyData → Option TyData
pointed_to void = None
pointed_to (arithmetic a) = None
pointed_to (pointer t) = Some t
pointed_to (array t n) = None
pointed_to (structure k) = None

-- the number of a struct
abbrev pub struct_number : TyData → Option ℕ
struct_number void = None
struct_number (arithmetic a) = None
struct_number (pointer t) = None
struct_number (array t n) = None
struct_number (structure k) = Some k

-- ---- compatible types

abbrev pub same_arith : Arith → Arith → Bool
same_arith a b = rank a == rank b && (if is_signed a then is_signed b else not (is_signed b))

-- Types are compatible where they are one type (6.2.7). Arrays of unknown length stand under no pointer here.
abbrev pub same_type : TyData → TyData → Bool
same_type void void = true
same_type (arithmetic a) (arithmetic b) = same_arith a b
same_type (pointer s) (pointer t) = same_type s t
same_type (array s m) (array t n) = m == n && same_type s t
same_type (structure j) (structure k) = j == k
same_type _ _ = false

-- ---- operators, over the types of values. `complete` tells which types are complete, `s_null` and `t_null` whether the operand is an integer constant 0, which is a null pointer (6.3.2.3, 3)

-- Whether a value of the second type may be assigned to an object of the first (6.5.16.1, 1).
abbrev pub is_assignable : TyData → TyData → Bool → Bool
is_assignable (arithmetic a) (arithmetic b) t_null = true
is_assignable (arithmetic a) (pointer t) t_null = same_arith a Boolean
is_assignable (pointer s) (pointer t) t_null = same_type s t || is_void s || is_void t
is_assignable (pointer s) (arithmetic b) t_null = t_null
is_assignable (structure j) (structure k) t_null = j == k
is_assignable _ _ t_null = false

-- `&&` and `||`
abbrev pub is_logical : BinOp → Bool
is_logical And = true
is_logical Or = true
is_logical _ = false

-- `==` and `!=`
abbrev pub is_equality : BinOp → Bool
is_equality Eq = true
is_equality Ne = true
is_equality _ = false

-- `<`, `>`, `<=` and `>=`
abbrev pub is_relation : BinOp → Bool
is_relation Lt = true
is_relation Gt = true
is_relation Le = true
is_relation Ge = true
is_relation _ = false

abbrev pub is_shift : BinOp → Bool
is_shift Shl = true
is_shift Shr = true
is_shift _ = false

abbrev pub is_addition : BinOp → Bool
is_addition Add = true
is_addition _ = false

abbrev pub is_subtraction : BinOp → Bool
is_subtraction Sub = true
is_subtraction _ = false

-- the answer is 0 or 1, an int (6.5.8, 6; 6.5.9, 3; 6.5.13, 3; 6.5.14, 3)
abbrev pub is_truth : BinOp → Bool
is_truth op = is_logical op || is_equality op || is_relation op

-- Over integers: a truth is an int, a shift has the type of its promoted left operand (6.5.7, 3), all else the common type (6.3.1.8).
abbrev pub integer_operation : BinOp → Arith → Arith → Arith
integer_operation op a b = if is_truth op then Int
    else (if is_shift op then promoted a else usual_type a b)

abbrev pub only_if : Bool → TyData → Option TyData
only_if true t = Some t
only_if false t = None

-- Over two pointers: a difference in one array (6.5.6, 3), an order (6.5.8, 2), an equality (6.5.9, 2), a truth (6.5.13, 2).
abbrev pub pointers_operation : (TyData → Bool) → BinOp → TyData → TyData → Option TyData
pointers_operation complete op s t =
    if is_logical op then Some int_type
    else (if is_equality op then only_if (same_type s t || is_void s || is_void t) int_type
    else (if is_relation op then only_if (same_type s t) int_type
    else only_if (is_subtraction op && same_type s t && complete s) difference_type))

-- A pointer is moved by an integer only over objects of a complete type (6.5.6, 2).
abbrev pub moved : (TyData → Bool) → TyData → Option TyData
moved complete s = only_if (complete s) (pointer s)

-- Over a pointer and an integer.
abbrev pub pointer_operation : (TyData → Bool) → BinOp → TyData → Bool → Option TyData
pointer_operation complete op s t_null =
    if is_logical op then Some int_type
    else (if is_equality op then only_if t_null int_type
    else (if is_addition op || is_subtraction op then moved complete s else None))

-- Over an integer and a pointer.
abbrev pub reversed_operation : (TyData → Bool) → BinOp → Bool → TyData → Option TyData
reversed_operation complete op s_null t =
    if is_logical op then Some int_type
    else (if is_equality op then only_if s_null int_type
    else (if is_addition op then moved complete t else None))

-- the type of a binary operation over values of these types (6.5.5 to 6.5.14)
abbrev pub binary_type : (TyData → Bool) → BinOp → TyData → Bool → TyData → Bool → Option TyData
binary_type complete op (arithmetic a) s_null (arithmetic b) t_null =
    Some (arithmetic (integer_operation op a b))
binary_type complete op (pointer s) s_null (pointer t) t_null = pointers_operation complete op s t
binary_type complete op (pointer s) s_null (arithmetic b) t_null =
    pointer_operation complete op s t_null
binary_type complete op (arithmetic a) s_null (pointer t) t_null =
    reversed_operation complete op s_null t
binary_type complete op _ s_null _ t_null = None

-- Whether a compound assignment may be made to an object of the first type (6.5.16.2, 1 and 2).
abbrev pub is_compound : (TyData → Bool) → BinOp → TyData → TyData → Bool
is_compound complete op (arithmetic a) (arithmetic b) = true
is_compound complete op (pointer s) (arithmetic b) =
    (is_addition op || is_subtraction op) && complete s
is_compound complete op _ _ = false

-- Whether `++` and `--` may be used on an object of this type (6.5.2.4, 1; 6.5.3.1, 1).
abbrev pub is_counter : (TyData → Bool) → TyData → Bool
is_counter complete (arithmetic a) = true
is_counter complete (pointer s) = complete s
is_counter complete _ = false

-- `+`, `-` and `~` of an integer (6.5.3.3, 1 to 4)
abbrev pub sign_type : TyData → Option TyData
sign_type (arithmetic a) = Some (arithmetic (promoted a))
sign_type _ = None

-- the element where a pointer and an integer stand at `[` and `]`, in either order (6.5.2.1, 1)
abbrev pub element_type : (TyData → Bool) → TyData → TyData → Option TyData
element_type complete (pointer s) (arithmetic b) = only_if (complete s) s
element_type complete (arithmetic a) (pointer t) = only_if (complete t) t
element_type complete _ _ = None

-- Whether a value of the second type may be cast to the first (6.5.4, 2).
abbrev pub may_be_cast : TyData → TyData → Bool
may_be_cast s t = is_void s || (is_scalar s && is_scalar t)
