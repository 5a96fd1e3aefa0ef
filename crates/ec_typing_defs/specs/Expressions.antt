-- What is found out about expressions, and about the types and declarators in them: in which order the parts are looked at, and which rule each form has.
use Rattle.std.specs.Prelude.{ℕ, zero, suc, ◌+◌, Bool, true, false, not, pos, List, [], ◌∷◌, ◌++◌, length, Option, Some, None, is_some, option_and_then, slice_get, codes}
use Rattle.ec_base.specs.declared.fault.FaultKind.TheVariants.{F10, F11, F14, F16}
use Rattle.ec_base.specs.declared.fault.LimitKind.TheVariants.{L1}
use Rattle.ec_ctypes.specs.declared.types.sizes.Shape.{Shape}
use Rattle.ec_ctypes.specs.declared.tree.expr.UnOp.TheVariants.{Addr}
use Rattle.ec_ctypes.specs.trees.Types.{TyData, void, arithmetic, pointer, array, structure, MemberData}
use Rattle.ec_ctypes.specs.trees.Exprs.{ExprData, integer, character, string, identifier, unary, binary, assign, bump, call, call_other, index, member, arrow, cast, size_type, size_expr, ExprList, no_exprs, exprs, BaseData, words, varchar, tagged, struct_base, DimData, open_dim, dim, DimList, no_dims, dims, InitData, one, many, InitList, no_inits, inits, InitOption, no_init, some_init, DeclaratorData, declarator, DeclaratorList, no_declarators, declarators, DeclData, decl, DeclList, no_decls, decls}
use Rattle.ec_ctypes.specs.Layout.{struct_shape}
use Rattle.ec_language.specs.Letters.{Text}
use Rattle.ec_typing_defs.specs.Tables.{Named, find, put}
use Rattle.ec_typing_defs.specs.Types.{int_type, char_type, words_type}
use Rattle.ec_typing_defs.specs.Known.{ArgumentsData, all_expressions, is_identifier, is_no_expression, behind_first_argument, arguments_of}
use Rattle.ec_typing_defs.specs.Worlds.{Place, MembersData, unlisted, begun, listed, StructInfo, World, Rule, ◌>>=◌, ◌>>◌, pure, ask, change, note, demand, keep_within, free_name, free_tag, tag_up, with_tag, place, struct_named, new_struct, set_struct, members_of, shapes_in, is_within}
use Rattle.ec_typing_defs.specs.Operands.{OperandData, unknown, integer_operand, literal_operand, name_rule, value_rule, address_rule, unary_rule, binary_rule, index_rule, assign_rule, compound_rule, bump_rule, call_rule, member_rule, arrow_rule, cast_rule, size_rule, array_of, declared_type, elements_rule, length_rule, within_rule, complete_rule}

abbrev pub Members : Type 0
Members = Named (Option TyData)

-- ---- types by words and tags

-- F14 for words that make no type (6.7.2, 2)
unfoldable pub type_or_fault : Place → Option TyData → Rule (Option TyData)
type_or_fault at (Some t) = pure (Some t)
type_or_fault at None = note at F14 >> pure None

abbrev pub tag_type : Place → Option ℕ → Rule (Option TyData)
tag_type at (Some k) = pure (Some (structure k))
tag_type at None = note at F11 >> pure None

-- F11 for a tag that is not in scope
unfoldable pub tag_rule : Place → Text → Rule (Option TyData)
tag_rule at tag = do
  k ← ask (tag_up tag)
  tag_type at k

-- ---- structs (6.7.2.1, 6.7.2.3)

-- a new struct, which the tag stands for from here on
unfoldable pub tagged_struct : Text → MembersData → Rule ℕ
tagged_struct tag ms = do
  k ← new_struct (struct_named (Some tag) ms)
  change (with_tag tag k)
  pure k

-- the members of a struct that was declared before; F10 where they were listed before
abbrev pub begin_again : Place → Text → ℕ → Option MembersData → Rule ℕ
begin_again at tag k (Some unlisted) = set_struct k (struct_named (Some tag) begun) >> pure k
begin_again at tag k _ = note at F10 >> tagged_struct tag begun

abbrev pub begin_by : Place → Text → Option ℕ → Rule ℕ
begin_by at tag None = tagged_struct tag begun
begin_by at tag (Some k) = do
  ms ← ask (members_of k)
  begin_again at tag k ms

-- The members of a struct begin: its number. A tag of this scope may have been declared before, but no members.
unfoldable pub begin_struct : Place → Option Text → Rule ℕ
begin_struct at None = new_struct (struct_named None begun)
begin_struct at (Some tag) = do
  free_tag at tag
  before ← ask (λ w. find tag w.here.tags)
  begin_by at tag before

-- the members with their types, where all have one
abbrev pub typed_members : Members → Option (List MemberData)
typed_members [] = Some []
typed_members (m ∷ ms) = elim m.1 [
  | None ↦ None
  | Some t ↦ option_and_then (λ more. Some ((m.0, t) ∷ more)) (typed_members ms)
]

-- the types that begin where a type begins, outermost first
abbrev pub first_types : List StructInfo → TyData → List TyData
first_types structs void = void ∷ []
first_types structs (arithmetic a) = arithmetic a ∷ []
first_types structs (pointer t) = pointer t ∷ []
first_types structs (array t n) = array t n ∷ first_types structs t
first_types structs (structure k) = structure k ∷ first_of_struct structs k
  where
    first_of_struct : List StructInfo → ℕ → List TyData
    first_of_struct [] k = []
    first_of_struct (s ∷ ss) zero = s.first
    first_of_struct (s ∷ ss) (suc k) = first_of_struct ss k

abbrev pub first_of_members : List StructInfo → Members → List TyData
first_of_members structs [] = []
first_of_members structs (m ∷ ms) = elim m.1 [ None ↦ [] | Some t ↦ first_types structs t ]

-- how many members a host stands for: one, or as many as the members of a struct do, inner structs too
abbrev pub stands_for : List StructInfo → TyData → ℕ
stands_for structs (structure k) = elim (slice_get structs k) [ None ↦ 0 | Some s ↦ s.stands_for ]
stands_for structs _ = 1

abbrev pub stands_for_member : List StructInfo → Option TyData → ℕ
stands_for_member structs None = 1
stands_for_member structs (Some t) = stands_for structs t

abbrev pub stands_for_all : List StructInfo → Members → ℕ
stands_for_all structs [] = 0
stands_for_all structs (m ∷ ms) = stands_for_member structs m.1 + stands_for_all structs ms

abbrev pub closed_struct : Option Text → Members → Option Shape → World → StructInfo
closed_struct tag ms shape w = record {
  tag = tag;
  varchar = false;
  members = listed ms;
  shape = shape;
  first = first_of_members w.structs ms;
  stands_for = stands_for_all w.structs ms;
}

-- Its members are these: the struct is complete (6.7.2.1, 7). L1 where it is larger than the limit.
unfoldable pub end_struct : Place → Option Text → ℕ → Members → Rule (Option TyData)
end_struct at tag k ms = do
  shape ← ask (λ w. option_and_then (struct_shape (shapes_in w)) (typed_members ms))
  info ← ask (closed_struct tag ms shape)
  set_struct k info
  change (λ w. record w { closed = w.closed ++ k ∷ [] })
  keep_within at L1 (is_within shape)
  pure (Some (structure k))

-- one member more: its type is complete, it has no name of another, and no reserved one
unfoldable pub member_named : Place → Text → Option TyData → Members → Rule Members
member_named at name ty ms = do
  within_rule at ty
  t ← complete_rule at ty
  demand at F10 (not (is_some (find name ms)))
  free_name at name
  pure (put name t ms)

abbrev pub has_init : InitOption → Bool
has_init no_init = false
has_init (some_init i) = true

-- ---- VARCHAR (PostgreSQL manual, "VARCHAR"): `VARCHAR v[n]` is a struct of a length and n characters

abbrev pub is_varchar : BaseData → Bool
is_varchar varchar = true
is_varchar _ = false

abbrev pub varchar_members : Option ℕ → Members
varchar_members n = (codes "len", Some int_type) ∷ (codes "arr", array_of n (Some char_type)) ∷ []

-- a host of it stands for itself
abbrev pub varchar_info : Option Text → Option ℕ → World → StructInfo
varchar_info tag n w = record {
  tag = tag;
  varchar = true;
  members = listed (varchar_members n);
  shape = option_and_then (struct_shape (shapes_in w)) (typed_members (varchar_members n));
  first = int_type ∷ [];
  stands_for = 1;
}

-- a last length that is left out is none
abbrev pub capacity : Option ℕ → Option ℕ
capacity (Some (suc n)) = Some (suc n)
capacity _ = None

-- Each declarator makes a struct of its own, which is closed at once. L1 where it is larger than the limit.
unfoldable pub varchar_struct : Place → Option Text → Option ℕ → Rule ℕ
varchar_struct at tag n = do
  info ← ask (varchar_info tag (capacity n))
  k ← new_struct info
  change (λ w. record w { closed = w.closed ++ k ∷ [] })
  keep_within at L1 (is_within info.shape)
  pure k

-- the tag of a VARCHAR that is no member
abbrev pub varchar_tag : Text → Text
varchar_tag name = codes "varchar_" ++ name

-- One that is no member declares its tag; F10 where this scope has the tag already.
unfoldable pub varchar_object : Place → Text → Option ℕ → Rule (Option TyData)
varchar_object at name n = do
  k ← varchar_struct at (Some (varchar_tag name)) n
  before ← ask (λ w. is_some (find (varchar_tag name) w.here.tags))
  change (with_tag (varchar_tag name) k)
  demand at F10 (not before)
  pure (Some (structure k))

-- As a member it has no tag.
unfoldable pub varchar_member : Place → Option ℕ → Rule (Option TyData)
varchar_member at n = do
  k ← varchar_struct at None n
  pure (Some (structure k))

-- ---- the parts in their order

abbrev mutual
  pub expr : Place → ExprData → Rule OperandData
  expr at (integer n t) = pure (integer_operand t (pos n))
  expr at (character c) = pure (integer_operand int_type c)
  expr at (string s) = pure (literal_operand (length s))
  expr at (identifier x) = name_rule at x
  expr at (unary Addr e) = expr at e >>= address_rule at
  expr at (unary op e) = (expr at e >>= value_rule at) >>= unary_rule at op
  expr at (binary op a b) = do
    x ← expr at a >>= value_rule at
    y ← expr at b >>= value_rule at
    binary_rule at op x y
  expr at (assign None a b) = do
    x ← expr at a
    y ← expr at b >>= value_rule at
    assign_rule at x y
  expr at (assign (Some op) a b) = do
    x ← expr at a
    y ← expr at b >>= value_rule at
    compound_rule at op x y
  expr at (bump before up e) = expr at e >>= bump_rule at
  expr at (call f es) = do
    forms ← ask (λ w. arguments_of w.written f)
    os ← args at forms es
    call_rule at f es os
  -- The function of a call is a name, or F16. A name in parentheses is not looked up.
  expr at (call_other f es) = do
    elim (is_identifier f) [ true ↦ pure unknown | false ↦ expr at f ]
    args at all_expressions es
    note at F16
    pure unknown
  expr at (index a b) = do
    x ← expr at a >>= value_rule at
    y ← expr at b >>= value_rule at
    index_rule at x y
  expr at (member e m) = do
    o ← expr at e
    member_rule at o m
  expr at (arrow e m) = do
    o ← expr at e >>= value_rule at
    arrow_rule at o m
  expr at (cast b stars e) = do
    t ← base at b
    o ← expr at e
    cast_rule at (declared_type t stars []) o
  expr at (size_type b stars) = do
    t ← base at b
    size_rule at (declared_type t stars [])
  expr at (size_expr e) = do
    o ← expr at e
    size_rule at o.type

  -- the arguments of a call
  pub args : Place → ArgumentsData → ExprList → Rule (List OperandData)
  args at forms no_exprs = pure []
  args at forms (exprs e es) = do
    o ← elim (is_no_expression forms e) [
      | true ↦ pure unknown
      | false ↦ expr at e >>= value_rule at
    ]
    os ← args at (behind_first_argument forms) es
    pure (o ∷ os)

  -- the type that a declaration begins with
  pub base : Place → BaseData → Rule (Option TyData)
  base at (words ws) = type_or_fault at (words_type ws)
  base at varchar = pure None
  base at (tagged tag) = tag_rule at tag
  base at (struct_base tag ds) = do
    k ← begin_struct at tag
    ms ← members ds []
    end_struct at tag k ms

  -- the members that these declarations add. Each declaration is a place
  pub members : DeclList → Members → Rule Members
  members no_decls ms = pure ms
  members (decls d ds) ms = do
    more ← member_decl d ms
    members ds more

  pub member_decl : DeclData → Members → Rule Members
  member_decl (decl b items section line) ms = do
    at ← place line
    t ← base at b
    member_items at (is_varchar b) t items ms

  -- members of this type, or VARCHARs
  pub member_items : Place → Bool → Option TyData → DeclaratorList → Members → Rule Members
  member_items at is_varchar t no_declarators ms = pure ms
  member_items at is_varchar t (declarators d ds) ms = do
    more ← member_item at is_varchar t d ms
    member_items at is_varchar t ds more

  -- A member has no initializer (6.7.2.1, 1).
  pub member_item : Place → Bool → Option TyData → DeclaratorData → Members → Rule Members
  member_item at false t (declarator stars name ns init) ms = do
    sizes ← lengths at ns
    elements_rule at t stars sizes
    demand at F14 (not (has_init init))
    init_parts at init
    member_named at name (declared_type t stars sizes) ms
  member_item at true t (declarator stars name ns init) ms = do
    n ← last_length at ns
    own ← varchar_member at n
    sizes ← outer_lengths at ns
    elements_rule at own stars sizes
    demand at F14 (not (has_init init))
    init_parts at init
    member_named at name (declared_type own stars sizes) ms

  -- the lengths of an array, outermost first: 0 where one is left out
  pub lengths : Place → DimList → Rule (List (Option ℕ))
  lengths at no_dims = pure []
  lengths at (dims d ds) = do
    n ← length_at at d
    ns ← lengths at ds
    pure (n ∷ ns)

  -- the last length, which is the capacity of a VARCHAR; its struct is made before the other lengths are looked at
  pub last_length : Place → DimList → Rule (Option ℕ)
  last_length at no_dims = pure None
  last_length at (dims d no_dims) = length_at at d
  last_length at (dims d (dims e ds)) = last_length at (dims e ds)

  -- the lengths but the last
  pub outer_lengths : Place → DimList → Rule (List (Option ℕ))
  outer_lengths at no_dims = pure []
  outer_lengths at (dims d no_dims) = pure []
  outer_lengths at (dims d (dims e ds)) = do
    n ← length_at at d
    ns ← outer_lengths at (dims e ds)
    pure (n ∷ ns)

  pub length_at : Place → DimData → Rule (Option ℕ)
  length_at at open_dim = pure (Some 0)
  length_at at (dim e) = (expr at e >>= value_rule at) >>= length_rule at

  -- the expressions of an initializer that stands where none may
  pub init_parts : Place → InitOption → Rule (Unit {0})
  init_parts at no_init = pure tt
  init_parts at (some_init i) = init_exprs at i

  pub init_exprs : Place → InitData → Rule (Unit {0})
  init_exprs at (one e) = (expr at e >>= value_rule at) >> pure tt
  init_exprs at (many is) = all_init_exprs at is

  pub all_init_exprs : Place → InitList → Rule (Unit {0})
  all_init_exprs at no_inits = pure tt
  all_init_exprs at (inits i is) = init_exprs at i >> all_init_exprs at is
