-- What is found out about an expression, and the rules of each form over what is found out about its parts (ISO/IEC 9899:1999, 6.5).
use Rattle.std.specs.Prelude.{ℕ, zero, suc, ◌+◌, Bool, true, false, not, ◌&&◌, ◌||◌, ◌==◌, nat_le, ℤ, pos, List, [], ◌∷◌, length, map, drop, Option, Some, None, is_some, option_map, option_and_then, if◌then◌else◌, codes}
use Rattle.ec_base.specs.declared.fault.FaultKind.TheVariants.{F11, F14, F15, F16, F17, F19}
use Rattle.ec_base.specs.declared.fault.LimitKind.TheVariants.{L1}
use Rattle.ec_ctypes.specs.declared.types.sizes.Shape.{Shape}
use Rattle.ec_ctypes.specs.declared.checked.library.LibName.{LibName}
use Rattle.ec_ctypes.specs.declared.tree.expr.BinOp.{BinOp}
use Rattle.ec_ctypes.specs.declared.tree.expr.UnOp.{UnOp}
use Rattle.ec_ctypes.specs.declared.tree.expr.UnOp.TheVariants.{Deref, Not}
use Rattle.ec_ctypes.specs.trees.Types.{TyData, void, arithmetic, pointer, array, structure}
use Rattle.ec_ctypes.specs.trees.Exprs.{ExprList}
use Rattle.ec_language.specs.Letters.{Text, same_text}
use Rattle.ec_typing_defs.specs.Tables.{find}
use Rattle.ec_typing_defs.specs.Types.{int_type, char_type, size_type, is_void, is_scalar, is_structure, is_array, decayed, pointed_to, struct_number, is_assignable, binary_type, is_compound, is_counter, sign_type, element_type, may_be_cast}
use Rattle.ec_typing_defs.specs.Constants.{ConstData, variable, trapping, known, binary_constant, unary_constant, cast_constant, is_known_zero}
use Rattle.ec_typing_defs.specs.Library.{library_call, cuts}
use Rattle.ec_typing_defs.specs.Known.{KnownData, plain, formatted, known_function, takes_stream, has_stream, literal_at}
use Rattle.ec_typing_defs.specs.Formats.{is_format_of}
use Rattle.ec_typing_defs.specs.Worlds.{Place, EntryData, object, function, MembersData, unlisted, begun, listed, Rule, ◌>>=◌, ◌>>◌, pure, ask, note, demand, keep_within, look_up, members_of, shape_in, is_complete, is_within, arrays_within}

-- what is found out about an expression
pub record OperandData : Type 0 where
  -- its type as C gives it, before an array is a pointer; none where a part has a fault
  pub type : Option TyData
  -- whether it is an lvalue (6.3.2.1, 1)
  pub is_place : Bool
  -- whether it is the result of `*`, whose address may be taken whatever its type (6.5.3.2, 1)
  pub is_target : Bool
  -- what it is as an integer constant expression (6.6, 6)
  pub constant : ConstData
  -- whether it is the name of an object at file level
  pub is_global : Bool
  -- whether it may initialize an object at file level though it is no integer constant: a literal, NULL, the address of a global, the name of a global array; of the result of `*`, whether its address may
  pub is_fixed : Bool
  -- the number of bytes of a string literal
  pub literal : Option ℕ

abbrev pub computed : Option TyData → OperandData
computed t = record {
  type = t;
  is_place = false;
  is_target = false;
  constant = variable;
  is_global = false;
  is_fixed = false;
  literal = None;
}

-- an expression of which nothing is known, since a part has a fault
abbrev pub unknown : OperandData
unknown = computed None

-- an integer constant, a character constant (6.4.4.4, 10), `true` or `false`
abbrev pub integer_operand : TyData → ℤ → OperandData
integer_operand t z = record (computed (Some t)) { constant = known z }

abbrev pub object_operand : Bool → Option TyData → OperandData
object_operand global t = record (computed t) { is_place = true; is_global = global }

-- a string literal is an array of char with a zero byte at its end (6.4.5, 5; 6.5.1, 4)
abbrev pub literal_operand : ℕ → OperandData
literal_operand n = record
    (computed (Some (array char_type (n + 1)))) {
      is_place = true;
      is_fixed = true;
      literal = Some n;
    }

-- NULL is a null pointer (7.17), here of type `void *`, and no integer
abbrev pub null_operand : OperandData
null_operand = record (computed (Some (pointer void))) { is_fixed = true }

-- ---- how a rule speaks

-- A rule speaks only where its part has a type.
abbrev pub given : Option TyData → (TyData → Rule OperandData) → Rule OperandData
given None f = pure unknown
given (Some t) f = f t

-- the type that the rules of C give, or F14
unfoldable pub typed : Place → Option TyData → Rule OperandData
typed at (Some t) = pure (computed (Some t))
typed at None = note at F14 >> pure unknown

-- the type, where the test holds, or F14
abbrev pub allowed : Bool → TyData → Option TyData
allowed true t = Some t
allowed false t = None

-- ---- names (6.5.1)

-- names that are known without a declaration
abbrev pub predefined : Place → Text → Rule OperandData
predefined at name =
    if same_text name (codes "sqlca") then pure (object_operand true (Some (structure 1)))
    else (if same_text name (codes "NULL") then pure null_operand
    else (if same_text name (codes "true") then pure (integer_operand int_type (pos 1))
    else (if same_text name (codes "false") then pure (integer_operand int_type (pos 0))
    else (if is_some (known_function name) then note at F14 >> pure unknown
    else note at F11 >> pure unknown))))

-- an object is a place; a function is no value here; F11 for a name that is not in scope
unfoldable pub named_by : Place → Text → Option EntryData → Rule OperandData
named_by at name (Some (object k global t)) = pure (object_operand global t)
named_by at name (Some (function k done r ps)) = note at F14 >> pure unknown
named_by at name None = predefined at name

unfoldable pub name_rule : Place → Text → Rule OperandData
name_rule at name = do
  entry ← ask (look_up name)
  named_by at name entry

-- ---- values (6.3.2.1)

abbrev pub valued : OperandData → TyData → OperandData
valued o t = record o {
  type = Some (decayed t);
  is_place = false;
  is_target = false;
  is_global = false;
  is_fixed = (o.is_fixed && not o.is_target) || (o.is_global && is_array t);
}

-- An expression as a value: an array is a pointer to its first element, and a struct has to be complete.
unfoldable pub value_rule : Place → OperandData → Rule OperandData
value_rule at o = given o.type (λ t. do
  complete ← ask (λ w. is_complete w t)
  elim (is_structure t && not complete) [
    | true ↦ note at F14 >> pure unknown
    | false ↦ pure (valued o t)
  ])

-- ---- unary operators

-- The address of the result of `*` is its operand: it is known where that is.
abbrev pub address : OperandData → TyData → OperandData
address o t = record
    (computed (Some (pointer t))) { is_fixed = o.is_global || (o.is_target && o.is_fixed) }

-- `&` (6.5.3.2): F15 where the operand is no place. `&*p` is p, also where p points to void
unfoldable pub address_rule : Place → OperandData → Rule OperandData
address_rule at o =
    given o.type (λ t. elim (o.is_place || o.is_target) [
      | true ↦ pure (address o t)
      | false ↦ note at F15 >> pure unknown
    ])

-- what a pointer points to, by whether the pointer may initialize an object at file level
abbrev pub target : Bool → TyData → OperandData
target fixed t = record (computed (Some t)) {
  is_place = not (is_void t);
  is_target = true;
  is_fixed = fixed;
}

abbrev pub found_or_types : Place → Option OperandData → Rule OperandData
found_or_types at (Some o) = pure o
found_or_types at None = note at F14 >> pure unknown

-- `*` of a pointer (6.5.3.2, 2)
unfoldable pub target_rule : Place → OperandData → Rule OperandData
target_rule at o =
    given o.type (λ t. found_or_types at (option_map (target o.is_fixed) (pointed_to t)))

abbrev pub with_constant : ConstData → OperandData → OperandData
with_constant c o = record o { constant = c }

abbrev pub sign_constant : UnOp → TyData → ConstData → ConstData
sign_constant op (arithmetic a) c = unary_constant op a c
sign_constant op _ c = variable

-- `!` of a scalar is an int (6.5.3.3, 1 and 5); `+`, `-` and `~` are of integers
abbrev pub unary_type : UnOp → TyData → Option TyData
unary_type Not t = allowed (is_scalar t) int_type
unary_type _ t = sign_type t

unfoldable pub sign_rule : Place → UnOp → OperandData → Rule OperandData
sign_rule at op o = given o.type (λ t. do
  answer ← typed at (unary_type op t)
  pure (with_constant (sign_constant op t o.constant) answer))

abbrev pub unary_rule : Place → UnOp → OperandData → Rule OperandData
unary_rule at Deref o = target_rule at o
unary_rule at op o = sign_rule at op o

-- ---- binary operators

-- an integer constant 0 (6.3.2.3, 3)
abbrev pub is_null : OperandData → Bool
is_null o = is_known_zero o.constant

abbrev pub operation_constant : BinOp → TyData → TyData → ConstData → ConstData → ConstData
operation_constant op (arithmetic a) (arithmetic b) x y = binary_constant op a b x y
operation_constant op _ _ x y = variable

unfoldable pub binary_rule : Place → BinOp → OperandData → OperandData → Rule OperandData
binary_rule at op a b = given a.type (λ s. given b.type (λ t. do
  ty ← ask (λ w. binary_type (is_complete w) op s (is_null a) t (is_null b))
  answer ← typed at ty
  pure (with_constant (operation_constant op s t a.constant b.constant) answer)))

-- ---- elements (6.5.2.1)

abbrev pub element_by : Place → Option TyData → Rule OperandData
element_by at (Some t) = pure (object_operand false (Some t))
element_by at None = note at F14 >> pure unknown

unfoldable pub index_rule : Place → OperandData → OperandData → Rule OperandData
index_rule at a b = given a.type (λ s. given b.type (λ t. do
  ty ← ask (λ w. element_type (is_complete w) s t)
  element_by at ty))

-- ---- assignments (6.5.16)

-- An array is no place to assign to. It is F15, whatever stands on the right.
abbrev pub may_be_set : OperandData → TyData → Bool
may_be_set o t = o.is_place && not (is_array t)

abbrev pub assigned : Place → Bool → TyData → Rule OperandData
assigned at allows s =
    elim (is_array s) [ true ↦ pure unknown | false ↦ typed at (allowed allows s) ]

-- `=`: F15 speaks of the place alone, F14 of the types alone
unfoldable pub assign_rule : Place → OperandData → OperandData → Rule OperandData
assign_rule at a b = given a.type (λ s. do
  demand at F15 (may_be_set a s)
  given b.type (λ t. assigned at (is_assignable s t (is_null b)) s))

-- `+=` and its like (6.5.16.2)
unfoldable pub compound_rule : Place → BinOp → OperandData → OperandData → Rule OperandData
compound_rule at op a b = given a.type (λ s. do
  demand at F15 (may_be_set a s)
  given b.type (λ t. do
    allows ← ask (λ w. is_compound (is_complete w) op s t)
    assigned at allows s))

-- `++` and `--`, before or behind (6.5.2.4, 6.5.3.1)
unfoldable pub bump_rule : Place → OperandData → Rule OperandData
bump_rule at o = given o.type (λ t. do
  demand at F15 (may_be_set o t)
  allows ← ask (λ w. is_counter (is_complete w) t)
  assigned at allows t)

-- ---- calls (6.5.2.2)

-- Each argument with a type may be assigned to its parameter, if that has one.
abbrev pub fits : Option TyData → OperandData → Bool
fits None o = true
fits (Some s) o = elim o.type [ None ↦ true | Some t ↦ is_assignable s t (is_null o) ]

abbrev pub all_fit : List (Option TyData) → List OperandData → Bool
all_fit [] os = true
all_fit (p ∷ ps) [] = true
all_fit (p ∷ ps) (o ∷ os) = fits p o && all_fit ps os

-- F16 for another number of arguments, F14 for one of another type. Nothing is said where the parameters are not known.
abbrev pub arguments_rule : Place → Option (List (Option TyData)) →
    List OperandData → Rule (Unit {0})
arguments_rule at None os = pure tt
arguments_rule at (Some ps) os =
    demand at F16 (length os == length ps) >> demand at F14 (all_fit ps os)

abbrev pub types_of : List OperandData → List (Option TyData)
types_of os = map (λ o. o.type) os

-- F14 where the first argument has a type and is not `stdout` or `stderr`
abbrev pub is_stream_or_typeless : ExprList → List OperandData → Bool
is_stream_or_typeless es [] = true
is_stream_or_typeless es (o ∷ os) = has_stream es || not (is_some o.type)

-- the format stands behind so many arguments
abbrev pub format_rule : Place → ℕ → Text → ExprList → List OperandData → Rule OperandData
format_rule at n name es os = elim (nat_le (n + 1) (length os)) [
  | false ↦ note at F16 >> pure (computed (Some int_type))
  | true ↦ do
    demand at F14 (not (takes_stream name) || is_stream_or_typeless es os)
    demand at F17 (is_format_of (literal_at n es) (types_of (drop (n + 1) os)))
    pure (computed (Some int_type))
]

-- a call of a known function; F16 where there is none of this name
abbrev pub known_rule : Place → Text → ExprList →
    List OperandData → Option KnownData → Rule OperandData
known_rule at name es os None = note at F16 >> pure unknown
known_rule at name es os (Some (plain r ps)) =
    arguments_rule at (Some (map Some ps)) os >> pure (computed (Some r))
known_rule at name es os (Some (formatted n)) = format_rule at n name es os

-- A call of the library gives no value; F16 where its arguments are none that it takes.
abbrev pub library_rule : Place → LibName → ExprList → List OperandData → Rule OperandData
library_rule at call es os = elim (cuts call es (types_of os)) [
  | false ↦ note at F16 >> pure unknown
  | true ↦ pure (computed (Some void))
]

-- a call of what the program doesn't declare: of the library, or of a known function
abbrev pub undeclared_call : Place → Text → ExprList →
    List OperandData → Option LibName → Rule OperandData
undeclared_call at name es os (Some call) = library_rule at call es os
undeclared_call at name es os None = known_rule at name es os (known_function name)

-- F16 for a call of what is no function, and of a function that the program doesn't define
unfoldable pub call_by : Place → Text → ExprList →
    List OperandData → Option EntryData → Rule OperandData
call_by at name es os (Some (object k global t)) = note at F16 >> pure unknown
call_by at name es os (Some (function k done r ps)) = do
  defined ← ask (λ w. is_some (find name w.defined))
  demand at F16 defined
  arguments_rule at ps os
  pure (computed r)
call_by at name es os None = do
  of_library ← ask (λ w. library_call w.written name)
  undeclared_call at name es os of_library

unfoldable pub call_rule : Place → Text → ExprList → List OperandData → Rule OperandData
call_rule at name es os = do
  entry ← ask (look_up name)
  call_by at name es os entry

-- ---- members (6.5.2.3)

-- the type of a member, if the struct is complete and has it
abbrev pub member_type : Text → Option MembersData → Option (Option TyData)
member_type m None = None
member_type m (Some unlisted) = None
member_type m (Some begun) = None
member_type m (Some (listed ms)) = find m ms

-- the member of a place is one; F11 where there is no such member
abbrev pub member_by : Place → Bool → Option (Option TyData) → Rule OperandData
member_by at of_place (Some t) = pure (record (computed t) { is_place = of_place })
member_by at of_place None = note at F11 >> pure unknown

abbrev pub member_in : Place → Bool → Text → Option ℕ → Rule OperandData
member_in at of_place m None = note at F14 >> pure unknown
member_in at of_place m (Some k) = do
  found ← ask (λ w. member_type m (members_of k w))
  member_by at of_place found

-- `.` of a struct
unfoldable pub member_rule : Place → OperandData → Text → Rule OperandData
member_rule at o m = given o.type (λ t. member_in at o.is_place m (struct_number t))

-- `->` of a pointer to a struct
unfoldable pub arrow_rule : Place → OperandData → Text → Rule OperandData
arrow_rule at o m =
    given o.type (λ t. member_in at true m (option_and_then struct_number (pointed_to t)))

-- ---- casts (6.5.4) and sizes (6.5.3.4)

abbrev pub cast_value : TyData → ConstData → TyData → ConstData
cast_value (arithmetic a) c (arithmetic b) = cast_constant a c
cast_value _ c _ = variable

unfoldable pub scalar_cast : Place → TyData → OperandData → Rule OperandData
scalar_cast at s o = given o.type (λ t. do
  answer ← typed at (allowed (may_be_cast s t) s)
  pure (with_constant (cast_value s o.constant t) answer))

-- A cast to void takes any expression and needs no value.
abbrev pub cast_to : Place → OperandData → TyData → Rule OperandData
cast_to at o s = elim (is_void s) [
  | true ↦ given o.type (λ t. pure (computed (Some void)))
  | false ↦ value_rule at o >>= scalar_cast at s
]

unfoldable pub cast_rule : Place → Option TyData → OperandData → Rule OperandData
cast_rule at to o = given to (cast_to at o)

-- A type that is larger than the limit has no size. Where a member has no type, nothing is known.
abbrev pub size_operand : Option Shape → OperandData
size_operand None = unknown
size_operand (Some shape) =
    record (computed (Some size_type)) {
      constant = if is_within (Some shape)
          then known (pos shape.size) else trapping;
    }

unfoldable pub size_rule : Place → Option TyData → Rule OperandData
size_rule at ty = given ty (λ t. do
  complete ← ask (λ w. is_complete w t)
  shape ← ask (λ w. shape_in w t)
  elim complete [ true ↦ pure (size_operand shape) | false ↦ note at F14 >> pure unknown ])

-- ---- types of declarators (6.7.5)

abbrev pub pointers : ℕ → TyData → TyData
pointers zero t = t
pointers (suc n) t = pointers n (pointer t)

abbrev pub array_of : Option ℕ → Option TyData → Option TyData
array_of None t = None
array_of (Some n) None = None
array_of (Some n) (Some t) = Some (array t n)

-- an array of arrays, the first length outermost
abbrev pub arrays : TyData → List (Option ℕ) → Option TyData
arrays t [] = Some t
arrays t (n ∷ ns) = array_of n (arrays t ns)

abbrev pub declared_type : Option TyData → ℕ → List (Option ℕ) → Option TyData
declared_type None stars ns = None
declared_type (Some t) stars ns = arrays (pointers stars t) ns

-- The type is complete, or has a fault.
abbrev pub is_complete_or_faulty : (TyData → Bool) → Option TyData → Bool
is_complete_or_faulty complete None = true
is_complete_or_faulty complete (Some t) = complete t

-- The elements of an array of arrays, the first length outermost, are complete as far as their types are known: the length that counts them may have a fault.
abbrev pub has_complete_elements : (TyData → Bool) → TyData → List (Option ℕ) → Bool
has_complete_elements complete t [] = true
has_complete_elements complete t (n ∷ ns) =
    has_complete_elements complete t ns && is_complete_or_faulty complete (arrays t ns)

-- An element has a complete type, or F14, also where the length of its array has a fault (6.7.5.2, 1).
abbrev pub elements_rule : Place → Option TyData → ℕ → List (Option ℕ) → Rule (Unit {0})
elements_rule at None stars ns = pure tt
elements_rule at (Some t) stars ns = do
  complete ← ask (λ w. has_complete_elements (is_complete w) (pointers stars t) ns)
  demand at F14 complete

-- a length of 1 or more
abbrev pub positive : ConstData → Option ℕ
positive (known (pos (suc n))) = Some (suc n)
positive _ = None

abbrev pub length_by : Place → Option ℕ → Rule (Option ℕ)
length_by at None = note at F19 >> pure None
length_by at (Some n) = pure (Some n)

-- The length of an array is an integer constant expression of 1 or more (6.7.5.2, 1), or F19.
unfoldable pub length_rule : Place → OperandData → Rule (Option ℕ)
length_rule at o = elim o.type [ None ↦ pure None | Some t ↦ length_by at (positive o.constant) ]

-- L1: no array in this type is larger than the limit.
unfoldable pub within_rule : Place → Option TyData → Rule (Unit {0})
within_rule at None = pure tt
within_rule at (Some t) = do
  small ← ask (λ w. arrays_within w t)
  keep_within at L1 small

-- An object, a member or the element of a parameter has a complete type, or F14 (6.7, 7; 6.7.2.1, 2; 6.7.5.2, 1).
unfoldable pub complete_rule : Place → Option TyData → Rule (Option TyData)
complete_rule at None = pure None
complete_rule at (Some t) = do
  complete ← ask (λ w. is_complete w t)
  elim complete [ true ↦ pure (Some t) | false ↦ note at F14 >> pure None ]
