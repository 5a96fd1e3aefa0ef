-- Expressions, types and lengths are resolved and checked alike in a source and in what is written of it: by induction over the trees.
use Rattle.std.specs.Prelude.{◌≡◌, ℕ, zero, suc, Bool, true, false, not, List, [], ◌∷◌, Option, Some, None}
use Rattle.std.proofs.Common.{refl, sym, subst}
use Rattle.std.proofs.lemmas.Bool.{true≢false}
use Rattle.ec_base.specs.declared.fault.FaultKind.TheVariants.{F14, F16}
use Rattle.ec_base.specs.declared.line.Line.{Line}
use Rattle.ec_ctypes.specs.declared.tree.expr.UnOp.TheVariants.{Addr, Deref, Plus, Minus, Not, Flip}
use Rattle.ec_ctypes.specs.trees.Types.{TyData}
use Rattle.ec_ctypes.specs.trees.Exprs.{ExprData, integer, character, string, identifier, unary, binary, assign, bump, call, call_other, index, member, arrow, cast, size_type, size_expr, ExprList, no_exprs, exprs, BaseData, words, varchar, tagged, struct_base, DimData, open_dim, dim, DimList, no_dims, dims, InitData, one, many, InitList, no_inits, inits, InitOption, no_init, some_init, DeclaratorData, declarator, DeclaratorList, no_declarators, declarators, DeclData, decl, DeclList, no_decls, decls}
use Rattle.ec_expansion_defs.specs.Declarations.{at_line, last_dim, outer_dims, joined_decls, varchar_struct, written_expr, written_exprs, written_base, written_members, written_member, varchar_members_of, varchar_member, written_dim, written_dims, written_init, written_inits, written_initializer, written_declarator, written_declarators}
use Rattle.ec_language.specs.Letters.{Text}
use Rattle.ec_host_defs.specs.sections.Lengths.{ends_in_length}
use Rattle.ec_typing_defs.specs.Types.{words_type}
use Rattle.ec_typing_defs.specs.Known.{ArgumentsData, all_expressions, stream_first, with_symbols, is_stream, has_stream, literal_in, literal_at}
use Rattle.ec_typing_defs.specs.Worlds.{Place, World, Rule, chain as check_chain, pure as check_pure, note, demand, place}
use Rattle.ec_typing_defs.specs.Operands as checked_operands
use Rattle.ec_typing_defs.specs.Operands.{OperandData, unknown, declared_type, elements_rule}
use Rattle.ec_typing_defs.specs.Expressions as checked
use Rattle.ec_typing_defs.specs.Expressions.{Members, has_init, varchar_member as varchar_rule}
use Rattle.ec_resolving_defs.specs.Agreement.{itself, operand_of}
use Rattle.ec_resolving_defs.specs.Expressions.{expr, args, base, members, member_decl, member_items, member_item, lengths, last_length, outer_lengths, length_at, init_parts, init_exprs, all_init_exprs}
use Rattle.ec_resolving_defs.specs.Operands.{Found, no_expression, value_rule, operands_of, channel_of}
use Rattle.ec_resolving_defs.specs.Storage.{Resolving, chain, pure, checks}
use Rattle.ec_sim_statement_laws.specs.expression.Alike.{IsAlike}
use Rattle.ec_sim_statement_laws.specs.expression.Lengths.{HaveLengths, HaveLengthsIn, BaseHasLengths, MembersHaveLengths, DeclHasLengths, ItemsHaveLengths, ItemHasLengths, DimsHaveLengths, DimHasLengths, InitHasLengths, PartHasLengths, PartsHaveLengths}
use Rattle.ec_sim_statement_laws.specs.expression.Silent.{Nothing, FoundCallsNone, AllCallNone}
use Rattle.ec_sim_statement_laws.specs.expression.Rules.{some_found, chain_alike, pure_alike, checks_alike, quiet_first, demand_quietly, faulty_alike, faulty_behind, placed_alike, placed_here, placed_there, regrouped, grouped, ended_there}
use Rattle.ec_sim_statement_laws.specs.expression.Checks.{elements_quietly, length_alike, words_alike, tag_alike, begin_alike, end_alike, member_named_alike}
use Rattle.ec_sim_statement_laws.specs.expression.Walks.{literal_found, name_found, value_found, address_found, unary_operation, binary_operation, element_found, assigned_found, compound_found, bumped_found, member_found, arrow_found, cast_found, size_found}
use Rattle.ec_sim_statement_laws.specs.expression.Calls.{NoSymbols, SameForms, calls_alike}

-- ---- arguments

module _ (n : ℕ) where
  literal_same : (e : ExprData) → literal_in (written_expr n e) ≡ literal_in e
  literal_same (string s) = refl
  literal_same e = refl

  stream_same : (e : ExprData) → is_stream (written_expr n e) ≡ is_stream e
  stream_same (identifier x) = refl
  stream_same e = refl

  literals_same : (es : ExprList) (k : ℕ) → literal_at k (written_exprs n es) ≡ literal_at k es
  literals_same no_exprs k = refl
  literals_same (exprs e es) zero = literal_same e
  literals_same (exprs e es) (suc k) = literals_same es k

  streams_same : (es : ExprList) → has_stream (written_exprs n es) ≡ has_stream es
  streams_same no_exprs = refl
  streams_same (exprs e es) = stream_same e

  channels_same : (es : ExprList) (k : ℕ) → channel_of k (written_exprs n es) ≡ channel_of k es
  channels_same es zero = refl
  channels_same no_exprs (suc k) = refl
  channels_same (exprs (identifier x) es) (suc k) = refl
  channels_same (exprs e es) (suc k) = refl

  pub same_forms : (es : ExprList) → SameForms es (written_exprs n es)
  same_forms es = record {
    literals = λ k. literals_same es k;
    stream = streams_same es;
    channel = λ k. channels_same es k;
  }

-- the value of an expression
valued : (at there : Place) (c d : Rule OperandData) (m k : Resolving Found)
    → IsAlike FoundCallsNone operand_of c d m k
    → IsAlike FoundCallsNone operand_of
    (check_chain c (λ o. checked_operands.value_rule at o))
    (check_chain d (λ o. checked_operands.value_rule there o))
    (chain m (λ f. value_rule at f)) (chain k (λ f. value_rule there f))
valued at there c d m k p = chain_alike _ _ _ _ _ _ _ _ p (λ f s. value_found at there f s)

-- the stream of a call is no expression
stream_or_value : (at : Place) (e : ExprData) (a b : Bool) (c d : Rule OperandData)
    (m k : Resolving Found) → b ≡ a → IsAlike FoundCallsNone operand_of c d m k
    → IsAlike FoundCallsNone operand_of
    (elim a [ true ↦ check_pure unknown | false ↦ c ])
    (elim b [ true ↦ check_pure unknown | false ↦ d ])
    (elim a [ true ↦ pure no_expression | false ↦ m ])
    (elim b [ true ↦ pure no_expression | false ↦ k ])
stream_or_value at e true true c d m k h p = pure_alike operand_of no_expression refl
stream_or_value at e false false c d m k h p = p
stream_or_value at e true false c d m k h p = absurd (true≢false (sym h))
stream_or_value at e false true c d m k h p = absurd (true≢false h)

-- one argument and those behind it
arguments_of_both : (c d : Rule OperandData) (f g : Rule (List OperandData))
    (m k : Resolving Found) (ms ks : Resolving (List Found))
    → IsAlike FoundCallsNone operand_of c d m k → IsAlike AllCallNone operands_of f g ms ks
    → IsAlike AllCallNone operands_of
    (check_chain c (λ o. check_chain f (λ os. check_pure (o ∷ os))))
    (check_chain d (λ o. check_chain g (λ os. check_pure (o ∷ os))))
    (chain m (λ f. chain ms (λ fs. pure (f ∷ fs)))) (chain k (λ f. chain ks (λ fs. pure (f ∷ fs))))
arguments_of_both c d f g m k ms ks p q = chain_alike _ _ _ _ _ _ _ _ p (λ f s.
    chain_alike _ _ _ _ _ _ _ _ q (λ fs ss. pure_alike operands_of (f ∷ fs) (s, ss)))

-- a call of what is no name
noted_fault : (at : Place) (w : World)
    → (check_chain (note at F16) (λ _. check_pure unknown) w).found ≡ [] → ⊥
unfolding check_chain note
noted_fault at w e = some_found e

-- ---- types and their members

struct_of : (at there : Place) (tag : Option Text) (ds es : DeclList)
    → ((ms : Members) → IsAlike Nothing itself (checked.members ds ms) (checked.members es ms)
    (members ds ms) (members es ms))
    → IsAlike Nothing itself (checked.base at (struct_base tag ds))
    (checked.base there (struct_base tag es)) (base at (struct_base tag ds))
    (base there (struct_base tag es))
struct_of at there tag ds es p =
    chain_alike _ _ _ _ _ _ _ _ (checks_alike _ _ (begin_alike at there tag)) (λ k _.
    chain_alike _ _ _ _ _ _ _ _ (p []) (λ ms _. checks_alike _ _ (end_alike at there tag k ms)))

same_init : (n : ℕ) (init : InitOption) → not (has_init init) ≡ true
    → not (has_init (written_initializer n init)) ≡ true
same_init n no_init e = e
same_init n (some_init i) e = e

-- a member by its lengths
item_of : (at there : Place) (n : ℕ) (t : Option TyData) (stars : ℕ) (name : Text)
    (init : InitOption) (ms : Members) (c d : Rule (List (Option ℕ)))
    (m k : Resolving (List (Option ℕ)))
    → IsAlike Nothing itself c d m k
    → IsAlike Nothing itself (checked.init_parts at init)
    (checked.init_parts there (written_initializer n init)) (init_parts at init)
    (init_parts there (written_initializer n init))
    → IsAlike Nothing itself
    (check_chain c (λ sizes. check_chain (elements_rule at t stars sizes) (λ _.
    check_chain (demand at F14 (not (has_init init))) (λ _. check_chain (checked.init_parts at init)
    (λ _. checked.member_named at name (declared_type t stars sizes) ms)))))
    (check_chain d (λ sizes. check_chain (elements_rule there t stars sizes) (λ _.
    check_chain (demand there F14 (not (has_init (written_initializer n init)))) (λ _.
    check_chain (checked.init_parts there (written_initializer n init))
    (λ _. checked.member_named there name (declared_type t stars sizes) ms)))))
    (chain m (λ sizes. chain (init_parts at init)
    (λ _. checks (checked.member_named at name (declared_type t stars sizes) ms))))
    (chain k (λ sizes. chain (init_parts there (written_initializer n init))
    (λ _. checks (checked.member_named there name (declared_type t stars sizes) ms))))
item_of at there n t stars name init ms c d m k p q = chain_alike _ _ _ _ _ _ _ _ p (λ sizes _.
    quiet_first _ _ _ _ _ _ (elements_quietly at there t stars sizes)
    (quiet_first _ _ _ _ _ _ (demand_quietly at there _ _ _ (same_init n init))
    (chain_alike _ _ _ _ _ _ _ _ q (λ _ _.
    checks_alike _ _ (member_named_alike at there name (declared_type t stars sizes) ms)))))

-- a declaration of members, and those behind it
declared_of : (n : ℕ) (b b' : BaseData) (varchars : Bool) (items items' : DeclaratorList)
    (section : Bool) (line : Line) (ds : DeclList) (f : Members → Rule Members)
    (k : Members → Resolving Members) (ms : Members)
    → checked.is_varchar b ≡ false → checked.is_varchar b' ≡ false
    → ((at there : Place) → IsAlike Nothing itself (checked.base at b) (checked.base there b')
    (base at b) (base there b'))
    → ((at there : Place) (t : Option TyData) → IsAlike Nothing itself
    (checked.member_items at false t items ms) (checked.member_items there false t items' ms)
    (member_items at false t items ms) (member_items there false t items' ms))
    → ((more : Members) → IsAlike Nothing itself (f more) (checked.members ds more) (k more)
    (members ds more))
    → IsAlike Nothing itself (check_chain (checked.member_decl (decl b items section line) ms) f)
    (checked.members (decls (decl b' items' false (at_line n)) ds) ms)
    (chain (member_decl (decl b items section line) ms) k)
    (members (decls (decl b' items' false (at_line n)) ds) ms)
declared_of n b b' varchars items items' section line ds f k ms h h' p q next =
    chain_alike _ _ _ _ _ _ _ _ (placed_alike _ _ _ _ _ _ (λ at there.
    chain_alike _ _ _ _ _ _ _ _ (p at there) (λ t _.
    subst (λ x. IsAlike Nothing itself (checked.member_items at x t items ms)
    (checked.member_items there (checked.is_varchar b') t items' ms)
    (member_items at x t items ms) (member_items there (checked.is_varchar b') t items' ms)) (sym h)
    (subst (λ x. IsAlike Nothing itself (checked.member_items at false t items ms)
    (checked.member_items there x t items' ms)
    (member_items at false t items ms) (member_items there x t items' ms)) (sym h')
    (q at there t)))))
    (λ more _. next more)

-- a declaration of VARCHARs has a place of its own, and so has each of them in what is written
varchars_of : (items : DeclaratorList) (section : Bool) (line : Line) (f : Members → Rule Members)
    (d : Rule Members) (k : Members → Resolving Members) (m : Resolving Members) (ms : Members)
    → ((at : Place) → IsAlike Nothing itself
    (check_chain (checked.member_items at true None items ms) f) d
    (chain (member_items at true None items ms) k) m)
    → IsAlike Nothing itself
    (check_chain (checked.member_decl (decl varchar items section line) ms) f) d
    (chain (member_decl (decl varchar items section line) ms) k) m
unfolding check_chain check_pure chain pure
varchars_of items section line f d k m ms p = grouped (place line)
    (λ at. check_chain (check_pure None) (λ t. checked.member_items at true t items ms)) f d
    (chain (member_decl (decl varchar items section line) ms) k) m
    (placed_here line
    (λ at. check_chain (check_chain (check_pure None) (λ t. checked.member_items at true t items ms)) f)
    d (λ at. chain (chain (pure None) (λ t. member_items at true t items ms)) k) m p)

no_more : {A B : Type 0} (a : A) (f : A → Rule B) (d : Rule B) (k : A → Resolving B)
    (m : Resolving B) → IsAlike Nothing itself (f a) d (k a) m
    → IsAlike Nothing itself (check_chain (check_pure a) f) d (chain (pure a) k) m
unfolding check_chain check_pure chain pure
no_more a f d k m p = record {
  finds = λ s t w v same alike e. p.finds s t w v same alike e;
}

grouped_both : {A B C : Type 0} (c : Rule A) (f : A → Rule B) (g : B → Rule C) (d : Rule C)
    (m : Resolving A) (k : A → Resolving B) (l : B → Resolving C) (n : Resolving C)
    → IsAlike Nothing itself (check_chain c (λ a. check_chain (f a) g)) d
    (chain m (λ a. chain (k a) l)) n
    → IsAlike Nothing itself (check_chain (check_chain c f) g) d (chain (chain m k) l) n
unfolding chain
grouped_both c f g d m k l n p = grouped c f g d _ _ p

regrouped_both : {A B C : Type 0} (c : Rule A) (f : A → Rule B) (g : B → Rule C) (d : Rule C)
    (m : Resolving A) (k : A → Resolving B) (l : B → Resolving C) (n : Resolving C)
    → IsAlike Nothing itself (check_chain (check_chain c f) g) d (chain (chain m k) l) n
    → IsAlike Nothing itself (check_chain c (λ a. check_chain (f a) g)) d
    (chain m (λ a. chain (k a) l)) n
unfolding chain
regrouped_both c f g d m k l n p = regrouped c f g d _ _ p

-- the struct of a VARCHAR that is a member
abbrev pub VarcharsAlike : Type 0
VarcharsAlike = (at there : Place) (n : ℕ) (ds : DimList) → ends_in_length ds ≡ true
    → IsAlike Nothing itself
    (check_chain (checked.last_length at ds) (λ c. varchar_rule at c))
    (checked.base there (varchar_struct n None (last_dim (written_dims n ds))))
    (chain (last_length at ds) (λ c. checks (varchar_rule at c)))
    (base there (varchar_struct n None (last_dim (written_dims n ds))))

module _ (n : ℕ) (own : VarcharsAlike) where
  mutual
    pub expr_alike : (at there : Place) (e : ExprData) → HaveLengths e
        → IsAlike FoundCallsNone operand_of (checked.expr at e) (checked.expr there (written_expr n e))
        (expr at e) (expr there (written_expr n e))
    expr_alike at there (integer v t) p = pure_alike operand_of _ refl
    expr_alike at there (character c) p = pure_alike operand_of _ refl
    expr_alike at there (string s) p = literal_found s
    expr_alike at there (identifier x) p = name_found at there x
    expr_alike at there (unary Addr e) p =
        chain_alike _ _ _ _ _ _ _ _ (expr_alike at there e p) (λ f s. address_found at there f s)
    expr_alike at there (unary Deref e) p = chain_alike _ _ _ _ _ _ _ _
        (valued at there _ _ _ _ (expr_alike at there e p)) (λ f s. unary_operation at there Deref f s)
    expr_alike at there (unary Plus e) p = chain_alike _ _ _ _ _ _ _ _
        (valued at there _ _ _ _ (expr_alike at there e p)) (λ f s. unary_operation at there Plus f s)
    expr_alike at there (unary Minus e) p = chain_alike _ _ _ _ _ _ _ _
        (valued at there _ _ _ _ (expr_alike at there e p)) (λ f s. unary_operation at there Minus f s)
    expr_alike at there (unary Not e) p = chain_alike _ _ _ _ _ _ _ _
        (valued at there _ _ _ _ (expr_alike at there e p)) (λ f s. unary_operation at there Not f s)
    expr_alike at there (unary Flip e) p = chain_alike _ _ _ _ _ _ _ _
        (valued at there _ _ _ _ (expr_alike at there e p)) (λ f s. unary_operation at there Flip f s)
    expr_alike at there (binary op a b) p =
        chain_alike _ _ _ _ _ _ _ _ (valued at there _ _ _ _ (expr_alike at there a p.0)) (λ x s.
        chain_alike _ _ _ _ _ _ _ _ (valued at there _ _ _ _ (expr_alike at there b p.1)) (λ y r.
        binary_operation at there op x y s r))
    expr_alike at there (assign None a b) p =
        chain_alike _ _ _ _ _ _ _ _ (expr_alike at there a p.0) (λ x s.
        chain_alike _ _ _ _ _ _ _ _ (valued at there _ _ _ _ (expr_alike at there b p.1)) (λ y r.
        assigned_found at there x y s r))
    expr_alike at there (assign (Some op) a b) p =
        chain_alike _ _ _ _ _ _ _ _ (expr_alike at there a p.0) (λ x s.
        chain_alike _ _ _ _ _ _ _ _ (valued at there _ _ _ _ (expr_alike at there b p.1)) (λ y r.
        compound_found at there op x y s r))
    expr_alike at there (bump before up e) p = chain_alike _ _ _ _ _ _ _ _
        (expr_alike at there e p) (λ f s. bumped_found at there before up f s)
    expr_alike at there (call f es) p = calls_alike at there f es (written_exprs n es)
        (same_forms n es) (λ forms none. args_alike at there forms none es p)
    expr_alike at there (call_other f es) p = faulty_alike _ _ _ _ (λ s t w v same alike e.
        faulty_behind _ _ (λ a w. faulty_behind _ _ (λ a w e. noted_fault at w e) w) w e)
    expr_alike at there (index a b) p =
        chain_alike _ _ _ _ _ _ _ _ (valued at there _ _ _ _ (expr_alike at there a p.0)) (λ x s.
        chain_alike _ _ _ _ _ _ _ _ (valued at there _ _ _ _ (expr_alike at there b p.1)) (λ y r.
        element_found at there x y s r))
    expr_alike at there (member e m) p = chain_alike _ _ _ _ _ _ _ _
        (expr_alike at there e p) (λ f s. member_found at there f m s)
    expr_alike at there (arrow e m) p = chain_alike _ _ _ _ _ _ _ _
        (valued at there _ _ _ _ (expr_alike at there e p)) (λ f s. arrow_found at there f m s)
    expr_alike at there (cast b stars e) p =
        chain_alike _ _ _ _ _ _ _ _ (base_alike at there b p.0) (λ t _.
        chain_alike _ _ _ _ _ _ _ _ (expr_alike at there e p.1) (λ f s.
        cast_found at there (declared_type t stars []) f s))
    expr_alike at there (size_type b stars) p = chain_alike _ _ _ _ _ _ _ _
        (base_alike at there b p) (λ t _. size_found at there (declared_type t stars []))
    expr_alike at there (size_expr e) p = chain_alike _ _ _ _ _ _ _ _
        (expr_alike at there e p) (λ f s. size_found at there f.operand.type)

    pub args_alike : (at there : Place) (forms : ArgumentsData) → NoSymbols forms
        → (es : ExprList) → HaveLengthsIn es
        → IsAlike AllCallNone operands_of (checked.args at forms es)
        (checked.args there forms (written_exprs n es)) (args at forms es)
        (args there forms (written_exprs n es))
    args_alike at there forms none no_exprs p = pure_alike operands_of [] tt
    args_alike at there all_expressions none (exprs e es) p = arguments_of_both _ _ _ _ _ _ _ _
        (valued at there _ _ _ _ (expr_alike at there e p.0))
        (args_alike at there all_expressions tt es p.1)
    args_alike at there stream_first none (exprs e es) p = arguments_of_both _ _ _ _ _ _ _ _
        (stream_or_value at e (is_stream e) (is_stream (written_expr n e)) _ _ _ _ (stream_same n e)
        (valued at there _ _ _ _ (expr_alike at there e p.0)))
        (args_alike at there all_expressions tt es p.1)
    args_alike at there with_symbols none (exprs e es) p = absurd none

    pub base_alike : (at there : Place) (b : BaseData) → BaseHasLengths b
        → IsAlike Nothing itself (checked.base at b) (checked.base there (written_base n b))
        (base at b) (base there (written_base n b))
    base_alike at there (words ws) p = checks_alike _ _ (words_alike at there (words_type ws))
    base_alike at there varchar p = pure_alike itself None tt
    base_alike at there (tagged tag) p = checks_alike _ _ (tag_alike at there tag)
    base_alike at there (struct_base tag ds) p =
        struct_of at there tag ds (written_members n ds) (λ ms. members_alike ds p ms)

    members_alike : (ds : DeclList) → MembersHaveLengths ds → (ms : Members)
        → IsAlike Nothing itself (checked.members ds ms) (checked.members (written_members n ds) ms)
        (members ds ms) (members (written_members n ds) ms)
    members_alike no_decls p ms = pure_alike itself ms tt
    members_alike (decls d ds) p ms = decl_alike d p.0 (written_members n ds)
        (λ more. checked.members ds more) (λ more. members ds more)
        (λ more. members_alike ds p.1 more) ms

    decl_alike : (d : DeclData) → DeclHasLengths d → (ds : DeclList) (f : Members → Rule Members)
        (k : Members → Resolving Members)
        → ((more : Members) → IsAlike Nothing itself (f more) (checked.members ds more) (k more)
        (members ds more))
        → (ms : Members)
        → IsAlike Nothing itself (check_chain (checked.member_decl d ms) f)
        (checked.members (joined_decls (written_member n d) ds) ms)
        (chain (member_decl d ms) k) (members (joined_decls (written_member n d) ds) ms)
    decl_alike (decl varchar items section line) p ds f k next ms =
        varchars_of items section line f _ k _ ms (λ at. varchars_alike at items p.1 ds f k next ms)
    decl_alike (decl (words ws) items section line) p ds f k next ms =
        declared_of n (words ws) (words ws) false items (written_declarators n items) section line
        ds f k ms refl refl
        (λ at there. checks_alike _ _ (words_alike at there (words_type ws)))
        (λ at there t. items_alike at there t items p.1 ms) next
    decl_alike (decl (tagged tag) items section line) p ds f k next ms =
        declared_of n (tagged tag) (tagged tag) false items (written_declarators n items) section line
        ds f k ms refl refl (λ at there. checks_alike _ _ (tag_alike at there tag))
        (λ at there t. items_alike at there t items p.1 ms) next
    decl_alike (decl (struct_base tag es) items section line) p ds f k next ms =
        declared_of n (struct_base tag es) (struct_base tag (written_members n es)) false items
        (written_declarators n items) section line ds f k ms refl refl
        (λ at there. struct_of at there tag es (written_members n es) (λ ms. members_alike es p.0 ms))
        (λ at there t. items_alike at there t items p.1 ms) next

    items_alike : (at there : Place) (t : Option TyData) (items : DeclaratorList)
        → ItemsHaveLengths false items → (ms : Members)
        → IsAlike Nothing itself (checked.member_items at false t items ms)
        (checked.member_items there false t (written_declarators n items) ms)
        (member_items at false t items ms)
        (member_items there false t (written_declarators n items) ms)
    items_alike at there t no_declarators p ms = pure_alike itself ms tt
    items_alike at there t (declarators d ds) p ms = chain_alike _ _ _ _ _ _ _ _
        (item_alike at there t d p.0 ms) (λ more _. items_alike at there t ds p.1 more)

    item_alike : (at there : Place) (t : Option TyData) (d : DeclaratorData)
        → ItemHasLengths false d → (ms : Members)
        → IsAlike Nothing itself (checked.member_item at false t d ms)
        (checked.member_item there false t (written_declarator n d) ms)
        (member_item at false t d ms) (member_item there false t (written_declarator n d) ms)
    item_alike at there t (declarator stars name ns init) p ms =
        item_of at there n t stars name init ms _ _ _ _ (lengths_alike at there ns p.1)
        (init_parts_alike at there init p.2)

    -- each VARCHAR is a declaration of its own
    varchars_alike : (at : Place) (items : DeclaratorList) → ItemsHaveLengths true items
        → (ds : DeclList) (f : Members → Rule Members) (k : Members → Resolving Members)
        → ((more : Members) → IsAlike Nothing itself (f more) (checked.members ds more) (k more)
        (members ds more))
        → (ms : Members)
        → IsAlike Nothing itself (check_chain (checked.member_items at true None items ms) f)
        (checked.members (joined_decls (varchar_members_of n items) ds) ms)
        (chain (member_items at true None items ms) k)
        (members (joined_decls (varchar_members_of n items) ds) ms)
    varchars_alike at no_declarators p ds f k next ms = no_more ms f _ k _ (next ms)
    varchars_alike at (declarators d ds) p es f k next ms = grouped_both _ _ _ _ _ _ _ _
        (chain_alike _ _ _ _ _ _ _ _ (varchar_alike at d p.0 ms)
        (λ more _. varchars_alike at ds p.1 es f k next more))

    varchar_alike : (at : Place) (d : DeclaratorData) → ItemHasLengths true d → (ms : Members)
        → IsAlike Nothing itself (checked.member_item at true None d ms)
        (checked.member_decl (varchar_member n d) ms)
        (member_item at true None d ms) (member_decl (varchar_member n d) ms)
    varchar_alike at (declarator stars name ns init) p ms = placed_there _ _ _ _ _ (λ there.
        regrouped_both _ _ _ _ _ _ _ _ (chain_alike _ _ _ _ _ _ _ _ (own at there n ns p.0)
        (λ t _. ended_there _ _ _ _ (item_of at there n t stars name init ms _ _ _ _
        (outer_alike at there ns p.1) (init_parts_alike at there init p.2)))))

    pub lengths_alike : (at there : Place) (ds : DimList) → DimsHaveLengths ds
        → IsAlike Nothing itself (checked.lengths at ds) (checked.lengths there (written_dims n ds))
        (lengths at ds) (lengths there (written_dims n ds))
    lengths_alike at there no_dims p = pure_alike itself [] tt
    lengths_alike at there (dims d ds) p = chain_alike _ _ _ _ _ _ _ _
        (length_at_alike at there d p.0) (λ k _. chain_alike _ _ _ _ _ _ _ _
        (lengths_alike at there ds p.1) (λ ks _. pure_alike itself (k ∷ ks) tt))

    pub outer_alike : (at there : Place) (ds : DimList) → DimsHaveLengths ds
        → IsAlike Nothing itself (checked.outer_lengths at ds)
        (checked.lengths there (outer_dims (written_dims n ds)))
        (outer_lengths at ds) (lengths there (outer_dims (written_dims n ds)))
    outer_alike at there no_dims p = pure_alike itself [] tt
    outer_alike at there (dims d no_dims) p = pure_alike itself [] tt
    outer_alike at there (dims d (dims e ds)) p = chain_alike _ _ _ _ _ _ _ _
        (length_at_alike at there d p.0) (λ k _. chain_alike _ _ _ _ _ _ _ _
        (outer_alike at there (dims e ds) p.1) (λ ks _. pure_alike itself (k ∷ ks) tt))

    length_at_alike : (at there : Place) (d : DimData) → DimHasLengths d
        → IsAlike Nothing itself (checked.length_at at d) (checked.length_at there (written_dim n d))
        (length_at at d) (length_at there (written_dim n d))
    length_at_alike at there open_dim p = pure_alike itself (Some 0) tt
    length_at_alike at there (dim e) p = chain_alike _ _ _ _ _ _ _ _
        (valued at there _ _ _ _ (expr_alike at there e p))
        (λ f _. checks_alike _ _ (length_alike at there f.operand))

    init_parts_alike : (at there : Place) (i : InitOption) → InitHasLengths i
        → IsAlike Nothing itself (checked.init_parts at i)
        (checked.init_parts there (written_initializer n i)) (init_parts at i)
        (init_parts there (written_initializer n i))
    init_parts_alike at there no_init p = pure_alike itself tt tt
    init_parts_alike at there (some_init i) p = init_exprs_alike at there i p

    init_exprs_alike : (at there : Place) (i : InitData) → PartHasLengths i
        → IsAlike Nothing itself (checked.init_exprs at i)
        (checked.init_exprs there (written_init n i)) (init_exprs at i)
        (init_exprs there (written_init n i))
    init_exprs_alike at there (one e) p = chain_alike _ _ _ _ _ _ _ _
        (valued at there _ _ _ _ (expr_alike at there e p)) (λ _ _. pure_alike itself tt tt)
    init_exprs_alike at there (many is) p = all_init_exprs_alike at there is p

    all_init_exprs_alike : (at there : Place) (is : InitList) → PartsHaveLengths is
        → IsAlike Nothing itself (checked.all_init_exprs at is)
        (checked.all_init_exprs there (written_inits n is)) (all_init_exprs at is)
        (all_init_exprs there (written_inits n is))
    all_init_exprs_alike at there no_inits p = pure_alike itself tt tt
    all_init_exprs_alike at there (inits i is) p = chain_alike _ _ _ _ _ _ _ _
        (init_exprs_alike at there i p.0) (λ _ _. all_init_exprs_alike at there is p.1)
