-- The resolved form of an expression, beside what the checks find out about it, and the rules of each form over its parts (ISO/IEC 9899:1999, 6.5).
use Rattle.std.specs.Prelude.{ℕ, zero, suc, ◌+◌, Bool, true, false, not as negation, ◌&&◌, pos, List, [], ◌∷◌, length, map, drop, slice_get, Option, Some, None, option_map, option_and_then, if◌then◌else◌, codes}
use Rattle.ec_ctypes.specs.declared.tree.expr.BinOp.{BinOp}
use Rattle.ec_ctypes.specs.declared.tree.expr.UnOp.{UnOp}
use Rattle.ec_ctypes.specs.declared.tree.expr.UnOp.TheVariants.{Deref}
use Rattle.ec_ctypes.specs.trees.Types.{TyData, arithmetic, pointer}
use Rattle.ec_ctypes.specs.trees.Exprs.{ExprData, integer, string, identifier, call as call_expr, cast as cast_expr, ExprList, no_exprs, exprs}
use Rattle.ec_ctypes.specs.declared.types.arith.Arith.TheVariants.{Int, Long}
use Rattle.ec_ctypes.specs.declared.checked.library.Sym.{Sym}
use Rattle.ec_ctypes.specs.declared.checked.library.LibName.{LibName}
use Rattle.ec_ctypes.specs.Texts.{symbol_text}
use Rattle.ec_arguments.specs.Arguments.{Arg, symbol, literal, null, int_constant, long_constant, pointer as pointer_arg, stray}
use Rattle.ec_ctypes.specs.Layout.{no_members, member_behind}
use Rattle.ec_language.specs.Letters.{Text, same_text}
use Rattle.ec_typing_defs.specs.Tables.{Named, find}
use Rattle.ec_typing_defs.specs.Types.{is_void, is_structure, decayed, pointed_to, struct_number}
use Rattle.ec_typing_defs.specs.Known.{ArgumentsData, with_symbols, symbols, KnownData, plain, formatted, known_function, literal_at}
use Rattle.ec_typing_defs.specs.Library.{named_among, library_call as library_named}
use Rattle.ec_typing_defs.specs.Worlds.{Place, EntryData, object as object_entry, function as function_entry, MembersData, listed, World, Rule, look_up, members_of, shapes_in, is_complete}
use Rattle.ec_typing_defs.specs.Operands as checked
use Rattle.ec_typing_defs.specs.Operands.{OperandData, unknown, integer_operand, literal_operand}
use Rattle.ec_typing_defs.specs.Expressions.{typed_members}
use Rattle.ec_meaning_defs.specs.functions.Formats.{Part, format_parts}
use Rattle.ec_meaning_defs.specs.functions.Functions.{Channel, standard_output, standard_error, Known, print, puts, putchar, strlen, strcmp, strncmp, memcmp, strcpy, strncpy, strcat, memcpy, memset, exit, sqlprint}
use Rattle.ec_memory_defs.specs.Memory.{number, address}
use Rattle.ec_meaning_defs.specs.resolved.Resolved.{Exp, member, constant, whole, call, known, library_call, faulty, Exps, no_exps, exps}
use Rattle.ec_resolving_defs.specs.Calling.{any_calls_function}
use Rattle.ec_resolving_defs.specs.Conversions as form
use Rattle.ec_resolving_defs.specs.Conversions.{size_in, as_known_type, promoted_value, read_at}
use Rattle.ec_resolving_defs.specs.Storage.{Site, Resolving, ◌>>=◌, ◌>>◌, pure, checks, ask, stored, arrange, site_exp, sqlca, literal_object, with_literal, with_call}

-- an expression: what the checks find out about it, and its resolved form
pub record Found : Type 0 where
  pub operand : OperandData
  -- The address of its first byte, where it is a place or a part of a struct, and where its type is that of a struct or an array; else its value
  pub exp : Exp
  -- whether this is the address of a scalar, which has to be read where its value is wanted
  pub is_address : Bool

abbrev pub found : OperandData → Exp → Bool → Found
found o e a = record { operand = o; exp = e; is_address = a }

-- what stands for an argument that is no expression
abbrev pub no_expression : Found
no_expression = found unknown faulty false

-- the operand that the checks find, with a resolved form
abbrev pub with_form : (OperandData → Found) → Rule OperandData → Resolving Found
with_form f m = do
  o ← checks m
  pure (f o)

abbrev pub as_value : Exp → OperandData → Found
as_value e o = found o e false

abbrev pub as_place : Exp → OperandData → Found
as_place e o = found o e true

-- the resolved form over two types that are known
abbrev pub over_types : Option TyData → Option TyData → (TyData → TyData → Exp) → Exp
over_types (Some s) (Some t) f = f s t
over_types (Some s) None f = faulty
over_types None t f = faulty

abbrev pub over_type : Option TyData → (TyData → Exp) → Exp
over_type (Some t) f = f t
over_type None f = faulty

-- ---- names (6.5.1)

abbrev pub predefined_exp : Text → Exp
predefined_exp name =
    if same_text name (codes "sqlca") then sqlca
    else (if same_text name (codes "NULL") then constant (address 0)
    else (if same_text name (codes "true") then constant (number (pos 1))
    else (if same_text name (codes "false") then constant (number (pos 0)) else faulty)))

abbrev pub named_exp : List Site → Text → Option EntryData → Exp
named_exp sites name (Some (object_entry k global t)) = site_exp (slice_get sites k)
named_exp sites name (Some (function_entry k done r ps)) = faulty
named_exp sites name None = predefined_exp name

-- The address of an object, or the value of a predefined name.
abbrev pub name_rule : Place → Text → Resolving Found
name_rule at name = do
  entry ← ask (look_up name)
  sites ← stored (λ s. s.sites)
  o ← checks (checked.name_rule at name)
  pure (found o (named_exp sites name entry) o.is_place)

-- A literal is an object of its own (6.4.5, 5).
abbrev pub literal_rule : Text → Resolving Found
literal_rule text = do
  e ← stored literal_object
  arrange (with_literal text)
  pure (found (literal_operand (length text)) e true)

-- ---- values (6.3.2.1)

-- the value of an expression: a scalar that is known by its address is read
abbrev pub value_exp : Found → Exp
value_exp f = if f.is_address then over_type f.operand.type (λ t. read_at t f.exp) else f.exp

abbrev pub value_rule : Place → Found → Resolving Found
value_rule at f = with_form (as_value (value_exp f)) (checked.value_rule at f.operand)

-- An expression whose value isn't wanted. A place of a struct is an access to all of it
abbrev pub discarded : World → Found → Exp
discarded w f = elim f.operand.type [
  | None ↦ faulty
  | Some t ↦
      if is_structure t && (f.operand.is_place && is_complete w t) then whole (size_in w t) f.exp
      else value_exp f
]

-- ---- operators

abbrev pub address_rule : Place → Found → Resolving Found
address_rule at f = with_form (as_value f.exp) (checked.address_rule at f.operand)

-- `*` of a pointer is the place that it leads to; the other unary operators give values
abbrev pub unary_found : UnOp → Found → OperandData → Found
unary_found Deref f o = as_place f.exp o
unary_found op f o = as_value (over_type f.operand.type (λ t. form.unary_exp op t f.exp)) o

abbrev pub unary_rule : Place → UnOp → Found → Resolving Found
unary_rule at op f = with_form (unary_found op f) (checked.unary_rule at op f.operand)

abbrev pub binary_rule : Place → BinOp → Found → Found → Resolving Found
binary_rule at op a b = do
  e ← ask (λ w. over_types a.operand.type b.operand.type (λ s t.
      form.binary_exp w op s a.exp t b.exp))
  with_form (as_value e) (checked.binary_rule at op a.operand b.operand)

abbrev pub index_rule : Place → Found → Found → Resolving Found
index_rule at a b = do
  e ← ask (λ w. over_types a.operand.type b.operand.type (λ s t.
      form.element_exp w s a.exp t b.exp))
  with_form (as_place e) (checked.index_rule at a.operand b.operand)

abbrev pub assign_rule : Place → Found → Found → Resolving Found
assign_rule at a b = do
  e ← ask (λ w. over_types a.operand.type b.operand.type (λ s t. form.assigned w s a.exp t b.exp))
  with_form (as_value e) (checked.assign_rule at a.operand b.operand)

abbrev pub compound_rule : Place → BinOp → Found → Found → Resolving Found
compound_rule at op a b = do
  e ← ask (λ w. over_types a.operand.type b.operand.type (λ s t.
      form.compound w op false s a.exp t b.exp))
  with_form (as_value e) (checked.compound_rule at op a.operand b.operand)

abbrev pub bump_rule : Place → Bool → Bool → Found → Resolving Found
bump_rule at before up f = do
  e ← ask (λ w. over_type f.operand.type (λ t. form.bumped w before up t f.exp))
  with_form (as_value e) (checked.bump_rule at f.operand)

-- ---- members (6.5.2.3)

abbrev pub offset_among : World → Text → Option MembersData → Option ℕ
offset_among w m (Some (listed ms)) =
    option_and_then (λ ds. option_map (λ d. d.0) (member_behind (shapes_in w) no_members m ds))
    (typed_members ms)
offset_among w m _ = None

abbrev pub member_at : Exp → Option ℕ → Exp
member_at e None = faulty
member_at e (Some offset) = member offset e

-- the address of a member, from that of a struct of this number
abbrev pub member_exp : World → Option ℕ → Text → Exp → Exp
member_exp w None m e = faulty
member_exp w (Some k) m e = member_at e (offset_among w m (members_of k w))

abbrev pub member_rule : Place → Found → Text → Resolving Found
member_rule at f m = do
  e ← ask (λ w. member_exp w (option_and_then struct_number f.operand.type) m f.exp)
  with_form (as_place e) (checked.member_rule at f.operand m)

-- the struct that a pointer leads to
abbrev pub target_struct : Option TyData → Option ℕ
target_struct t = option_and_then struct_number (option_and_then pointed_to t)

abbrev pub arrow_rule : Place → Found → Text → Resolving Found
arrow_rule at f m = do
  e ← ask (λ w. member_exp w (target_struct f.operand.type) m f.exp)
  with_form (as_place e) (checked.arrow_rule at f.operand m)

-- ---- casts (6.5.4) and sizes (6.5.3.4)

-- an array is cast as the pointer that it is as a value
abbrev pub cast_form : World → Option TyData → Found → Exp
cast_form w None f = faulty
cast_form w (Some t) f =
    if is_void t then discarded w f
    else as_known_type (option_map decayed f.operand.type) (Some t) (value_exp f)

abbrev pub cast_rule : Place → Option TyData → Found → Resolving Found
cast_rule at to f = do
  e ← ask (λ w. cast_form w to f)
  with_form (as_value e) (checked.cast_rule at to f.operand)

abbrev pub size_exp : World → Option TyData → Exp
size_exp w None = faulty
size_exp w (Some t) = constant (number (pos (size_in w t)))

abbrev pub size_rule : Place → Option TyData → Resolving Found
size_rule at ty = do
  e ← ask (λ w. size_exp w ty)
  with_form (as_value e) (checked.size_rule at ty)

-- ---- calls (6.5.2.2)

abbrev pub exps_of : List Exp → Exps
exps_of [] = no_exps
exps_of (e ∷ es) = exps e (exps_of es)

-- each argument as a value of its parameter's type, as by assignment
abbrev pub passed : List (Option TyData) → List Found → Exps
passed [] fs = no_exps
passed (p ∷ ps) [] = no_exps
passed (p ∷ ps) (f ∷ fs) = exps (as_known_type f.operand.type p f.exp) (passed ps fs)

-- the place of a name in a table
abbrev pub place_in : {V : Type 0} → Text → Named V → ℕ
place_in name [] = zero
place_in name (e ∷ es) = if same_text name e.0 then zero else suc (place_in name es)

-- Whether a call has a value that can be used: a function without a result has none
abbrev pub has_result : Option TyData → Bool
has_result None = false
has_result (Some t) = negation (is_void t)

abbrev pub own_call : ℕ → Option TyData → Option (List (Option TyData)) → List Found → Exp
own_call n r None fs = faulty
own_call n r (Some ps) fs = call n (has_result r) (passed ps fs)

-- the known functions that take no format
abbrev pub plain_functions : Named Known
plain_functions =
    (codes "puts", puts)
    ∷ (codes "putchar", putchar)
    ∷ (codes "strlen", strlen)
    ∷ (codes "strcmp", strcmp)
    ∷ (codes "strncmp", strncmp)
    ∷ (codes "memcmp", memcmp)
    ∷ (codes "strcpy", strcpy)
    ∷ (codes "strncpy", strncpy)
    ∷ (codes "strcat", strcat)
    ∷ (codes "memcpy", memcpy)
    ∷ (codes "memset", memset)
    ∷ (codes "exit", exit)
    ∷ (codes "sqlprint", sqlprint)
    ∷ []

abbrev pub plain_call : Option Known → List TyData → List Found → Exp
plain_call None ps fs = faulty
plain_call (Some k) ps fs = known k (passed (map Some ps) fs)

-- `stderr` as the first argument; printf has standard output
abbrev pub channel_of : ℕ → ExprList → Channel
channel_of (suc n) (exprs (identifier x) es) =
    if same_text x (codes "stderr") then standard_error else standard_output
channel_of _ _ = standard_output

abbrev pub printing : Channel → Option (List Part) → List Found → Exp
printing channel None fs = faulty
printing channel (Some parts) fs =
    known (print channel parts) (exps_of (map (λ f. promoted_value f.operand.type f.exp) fs))

-- a format behind so many arguments, and the arguments behind it
abbrev pub known_call : Text → ExprList → List Found → Option KnownData → Exp
known_call name es fs None = faulty
known_call name es fs (Some (plain r ps)) = plain_call (find name plain_functions) ps fs
known_call name es fs (Some (formatted n)) =
    printing (channel_of n es) (option_and_then format_parts (literal_at n es)) (drop (n + 1) fs)

abbrev pub call_exp : Named (Unit {0}) → Text → ExprList → List Found → Option EntryData → Exp
call_exp defined name es fs (Some (object_entry k global t)) = faulty
call_exp defined name es fs (Some (function_entry k done r ps)) =
    own_call (place_in name defined) r ps fs
call_exp defined name es fs None = known_call name es fs (known_function name)

-- ---- calls of the library

-- a pointer, or what no call takes
abbrev pub pointer_argument : Option TyData → Exp → Arg Exp
pointer_argument (Some (pointer t)) e = pointer_arg e
pointer_argument _ e = stray

abbrev pub constant_argument : ℕ → TyData → Arg Exp
constant_argument n (arithmetic Int) = int_constant n
constant_argument n (arithmetic Long) = long_constant n
constant_argument n _ = stray

abbrev pub name_argument : Text → Option Sym → Found → Arg Exp
name_argument x (Some s) f = symbol s
name_argument x None f =
    if same_text x (codes "NULL") then null else pointer_argument f.operand.type f.exp

-- an argument of a call of the library, by its form
abbrev pub argument_of : ExprData → Found → Arg Exp
argument_of (identifier x) f = name_argument x (named_among symbol_text x symbols) f
argument_of (string s) f = literal s
argument_of (integer n t) f = constant_argument n t
argument_of e f = pointer_argument f.operand.type f.exp

abbrev pub arguments_of_call : ExprList → List Found → List (Arg Exp)
arguments_of_call no_exprs fs = []
arguments_of_call (exprs e es) [] = []
arguments_of_call (exprs e es) (f ∷ fs) = argument_of e f ∷ arguments_of_call es fs

-- Where functions are called for its arguments, the pointers of a call of the library are evaluated before it, as the arguments of other calls are: a step that knows calls of the library can't evaluate what calls functions. Else it evaluates them itself.

-- the pointers among arguments, in their order
abbrev pub pointers_of : List (Arg Exp) → Exps
pointers_of [] = no_exps
pointers_of (pointer_arg e ∷ args) = exps e (pointers_of args)
pointers_of (_ ∷ args) = pointers_of args

abbrev pub evaluated_before : Bool → List (Arg Exp) → Exps
evaluated_before true args = pointers_of args
evaluated_before false args = no_exps

-- what is left of arguments whose pointers are evaluated before
abbrev pub without_pointer : Arg Exp → Arg Exp
without_pointer (pointer_arg e) = pointer_arg faulty
without_pointer arg = arg

abbrev pub left_of : Bool → List (Arg Exp) → List (Arg Exp)
left_of true args = map without_pointer args
left_of false args = args

-- a call of the library, by its number among these
abbrev pub library_exp : LibName → ExprList → List Found → Resolving Exp
library_exp name es fs = do
  n ← stored (λ s. length s.calls)
  arrange (with_call (name, left_of (any_calls_function es) (arguments_of_call es fs)))
  pure (library_call n (evaluated_before (any_calls_function es) (arguments_of_call es fs)))

-- a call of a function of the program, or of a known one
abbrev pub function_called : Text → ExprList → List Found → Resolving Exp
function_called name es fs = do
  defined ← stored (λ s. s.defined)
  ask (λ w. call_exp defined name es fs (look_up name w))

abbrev pub called : Text → ExprList → List Found → Resolving Exp
called name es fs = do
  of_library ← ask (λ w. library_named w.written name)
  elim of_library [
    | Some call_name ↦ library_exp call_name es fs
    | None ↦ function_called name es fs
  ]

abbrev pub operands_of : List Found → List OperandData
operands_of fs = map (λ f. f.operand) fs

abbrev pub call_rule : Place → Text → ExprList → List Found → Resolving Found
call_rule at name es fs = do
  e ← called name es fs
  with_form (as_value e) (checked.call_rule at name es (operands_of fs))

-- a literal that is an argument of the library makes no object
abbrev pub is_library_literal : ArgumentsData → ExprData → Bool
is_library_literal with_symbols (string s) = true
is_library_literal _ _ = false

-- ---- calls whose value isn't used

-- a call, or one that is cast to void once
abbrev pub is_call_alone : ExprData → Option TyData → Bool
is_call_alone (call_expr f es) t = true
is_call_alone (cast_expr b stars (call_expr f es)) (Some t) = is_void t
is_call_alone _ t = false

abbrev pub without_use : Exp → Exp
without_use (call f used es) = call f false es
without_use e = e

-- an expression of which nothing is wanted but what it does: a statement, or the first or third part of a `for`
abbrev pub done_alone : World → ExprData → Found → Exp
done_alone w e f =
    if is_call_alone e f.operand.type then without_use (discarded w f) else discarded w f
