-- The resolved forms of expressions, and of the types and declarators in them, whose lengths may hold literals: the parts are looked at in the order of the checks.
use Rattle.std.specs.Prelude.{ℕ, Bool, true, false, pos, List, [], ◌∷◌, Option, Some, None}
use Rattle.ec_ctypes.specs.declared.tree.expr.UnOp.TheVariants.{Addr}
use Rattle.ec_ctypes.specs.trees.Types.{TyData}
use Rattle.ec_ctypes.specs.trees.Exprs.{ExprData, integer, character, string, identifier, unary, binary, assign, bump, call, call_other, index, member, arrow, cast, size_type, size_expr, ExprList, no_exprs, exprs, BaseData, words, varchar, tagged, struct_base, DimData, open_dim, dim, DimList, no_dims, dims, InitData, one, many, InitList, no_inits, inits, InitOption, no_init, some_init, DeclaratorData, declarator, DeclaratorList, no_declarators, declarators, DeclData, decl, DeclList, no_decls, decls}
use Rattle.ec_typing_defs.specs.Types.{int_type, words_type}
use Rattle.ec_typing_defs.specs.Known.{ArgumentsData, all_expressions, is_identifier, is_no_expression, behind_first_argument, arguments_of}
use Rattle.ec_typing_defs.specs.Worlds.{Place, place, ◌>>=◌ as ◌and_then◌}
use Rattle.ec_typing_defs.specs.Operands.{declared_type, length_rule, integer_operand}
use Rattle.ec_typing_defs.specs.Operands as checked
use Rattle.ec_typing_defs.specs.Expressions as checked_parts
use Rattle.ec_typing_defs.specs.Expressions.{Members, type_or_fault, tag_rule, begin_struct, end_struct, member_named, is_varchar, varchar_member}
use Rattle.ec_memory_defs.specs.Memory.{number}
use Rattle.ec_meaning_defs.specs.resolved.Resolved.{constant, faulty}
use Rattle.ec_resolving_defs.specs.Storage.{Resolving, ◌>>=◌, ◌>>◌, pure, checks, ask}
use Rattle.ec_resolving_defs.specs.Operands.{Found, found, as_value, no_expression, with_form, name_rule, literal_rule, value_rule, address_rule, unary_rule, binary_rule, index_rule, assign_rule, compound_rule, bump_rule, member_rule, arrow_rule, cast_rule, size_rule, call_rule, is_library_literal}

-- a literal as the argument of a call of the library
unfoldable pub library_literal : Place → ExprData → Resolving Found
library_literal at e =
    with_form (as_value faulty) (checked_parts.expr at e and_then checked.value_rule at)

abbrev mutual
  pub expr : Place → ExprData → Resolving Found
  expr at (integer n t) = pure (found (integer_operand t (pos n)) (constant (number (pos n))) false)
  expr at (character c) = pure (found (integer_operand int_type c) (constant (number c)) false)
  expr at (string s) = literal_rule s
  expr at (identifier x) = name_rule at x
  expr at (unary Addr e) = expr at e >>= address_rule at
  expr at (unary op e) = (expr at e >>= value_rule at) >>= unary_rule at op
  expr at (binary op a b) = do
    x ← expr at a >>= value_rule at
    y ← expr at b >>= value_rule at
    binary_rule at op x y
  expr at (assign None a b) = do
    x ← expr at a
    y ← expr at b >>= value_rule at
    assign_rule at x y
  expr at (assign (Some op) a b) = do
    x ← expr at a
    y ← expr at b >>= value_rule at
    compound_rule at op x y
  expr at (bump before up e) = expr at e >>= bump_rule at before up
  expr at (call f es) = do
    forms ← ask (λ w. arguments_of w.written f)
    fs ← args at forms es
    call_rule at f es fs
  -- a fault, whatever it calls
  expr at (call_other f es) = do
    elim (is_identifier f) [ true ↦ pure no_expression | false ↦ expr at f ]
    args at all_expressions es
    pure no_expression
  expr at (index a b) = do
    x ← expr at a >>= value_rule at
    y ← expr at b >>= value_rule at
    index_rule at x y
  expr at (member e m) = do
    f ← expr at e
    member_rule at f m
  expr at (arrow e m) = do
    f ← expr at e >>= value_rule at
    arrow_rule at f m
  expr at (cast b stars e) = do
    t ← base at b
    f ← expr at e
    cast_rule at (declared_type t stars []) f
  expr at (size_type b stars) = do
    t ← base at b
    size_rule at (declared_type t stars [])
  expr at (size_expr e) = do
    f ← expr at e
    size_rule at f.operand.type

  -- the arguments of a call
  pub args : Place → ArgumentsData → ExprList → Resolving (List Found)
  args at forms no_exprs = pure []
  args at forms (exprs e es) = do
    f ← elim (is_no_expression forms e) [
      | true ↦ pure no_expression
      | false ↦ elim (is_library_literal forms e) [
        | true ↦ library_literal at e
        | false ↦ expr at e >>= value_rule at
      ]
    ]
    fs ← args at (behind_first_argument forms) es
    pure (f ∷ fs)

  -- the type that a declaration begins with
  pub base : Place → BaseData → Resolving (Option TyData)
  base at (words ws) = checks (type_or_fault at (words_type ws))
  base at varchar = pure None
  base at (tagged tag) = checks (tag_rule at tag)
  base at (struct_base tag ds) = do
    k ← checks (begin_struct at tag)
    ms ← members ds []
    checks (end_struct at tag k ms)

  pub members : DeclList → Members → Resolving Members
  members no_decls ms = pure ms
  members (decls d ds) ms = do
    more ← member_decl d ms
    members ds more

  pub member_decl : DeclData → Members → Resolving Members
  member_decl (decl b items section line) ms = do
    at ← checks (place line)
    t ← base at b
    member_items at (is_varchar b) t items ms

  -- members of this type, or VARCHARs
  pub member_items : Place → Bool → Option TyData → DeclaratorList → Members → Resolving Members
  member_items at varchars t no_declarators ms = pure ms
  member_items at varchars t (declarators d ds) ms = do
    more ← member_item at varchars t d ms
    member_items at varchars t ds more

  pub member_item : Place → Bool → Option TyData → DeclaratorData → Members → Resolving Members
  member_item at false t (declarator stars name ns init) ms = do
    sizes ← lengths at ns
    init_parts at init
    checks (member_named at name (declared_type t stars sizes) ms)
  member_item at true t (declarator stars name ns init) ms = do
    n ← last_length at ns
    own ← checks (varchar_member at n)
    sizes ← outer_lengths at ns
    init_parts at init
    checks (member_named at name (declared_type own stars sizes) ms)

  -- the lengths of an array, outermost first: 0 where one is left out
  pub lengths : Place → DimList → Resolving (List (Option ℕ))
  lengths at no_dims = pure []
  lengths at (dims d ds) = do
    n ← length_at at d
    ns ← lengths at ds
    pure (n ∷ ns)

  -- the last length, and the lengths but the last
  pub last_length : Place → DimList → Resolving (Option ℕ)
  last_length at no_dims = pure None
  last_length at (dims d no_dims) = length_at at d
  last_length at (dims d (dims e ds)) = last_length at (dims e ds)

  pub outer_lengths : Place → DimList → Resolving (List (Option ℕ))
  outer_lengths at no_dims = pure []
  outer_lengths at (dims d no_dims) = pure []
  outer_lengths at (dims d (dims e ds)) = do
    n ← length_at at d
    ns ← outer_lengths at (dims e ds)
    pure (n ∷ ns)

  pub length_at : Place → DimData → Resolving (Option ℕ)
  length_at at open_dim = pure (Some 0)
  length_at at (dim e) = do
    f ← expr at e >>= value_rule at
    checks (length_rule at f.operand)

  -- the expressions of an initializer that stands where none may
  pub init_parts : Place → InitOption → Resolving (Unit {0})
  init_parts at no_init = pure tt
  init_parts at (some_init i) = init_exprs at i

  pub init_exprs : Place → InitData → Resolving (Unit {0})
  init_exprs at (one e) = (expr at e >>= value_rule at) >> pure tt
  init_exprs at (many is) = all_init_exprs at is

  pub all_init_exprs : Place → InitList → Resolving (Unit {0})
  all_init_exprs at no_inits = pure tt
  all_init_exprs at (inits i is) = init_exprs at i >> all_init_exprs at is
