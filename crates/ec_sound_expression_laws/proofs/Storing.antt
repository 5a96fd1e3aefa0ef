-- By expressions, types, lengths and initializers the calls of the library only get more, and sites and functions stay as they are.
use Rattle.std.proofs.Common.{◌≡◌, ◌∙◌, ℕ, Bool, true, false, List, [], refl, sym, subst, Option, Some, None}
use Rattle.ec_ctypes.specs.declared.checked.library.LibName.{LibName}
use Rattle.ec_ctypes.specs.declared.tree.expr.UnOp.{UnOp}
use Rattle.ec_ctypes.specs.declared.tree.expr.UnOp.TheVariants.{Addr, Deref, Plus, Minus, Not, Flip}
use Rattle.ec_ctypes.specs.trees.Types.{TyData}
use Rattle.ec_ctypes.specs.trees.Exprs.{ExprData, integer, character, string, identifier, unary, binary, assign, bump, call, call_other, index, member, arrow, cast, size_type, size_expr, ExprList, no_exprs, exprs, BaseData, words, varchar, tagged, struct_base, DimData, open_dim, dim, DimList, no_dims, dims, InitData, one, many, InitList, no_inits, inits, InitOption, no_init, some_init, DeclaratorData, declarator, DeclaratorList, no_declarators, declarators, DeclData, decl, DeclList, no_decls, decls}
use Rattle.ec_language.specs.Letters.{Text}
use Rattle.ec_typing_defs.specs.Known.{ArgumentsData, all_expressions, is_identifier, is_no_expression}
use Rattle.ec_typing_defs.specs.Operands.{OperandData}
use Rattle.ec_typing_defs.specs.Expressions.{Members, is_varchar}
use Rattle.ec_typing_defs.specs.Initializers.{is_text_for}
use Rattle.ec_typing_defs.specs.Worlds.{Place, World, Rule}
use Rattle.ec_resolving_defs.specs.Storage.{Storage, Resolving, chain, pure, checks, ask, stored, arrange}
use Rattle.ec_resolving_defs.specs.Operands.{Found, with_form, name_rule, literal_rule, value_rule, unary_rule, library_exp, function_called, call_rule, is_library_literal}
use Rattle.ec_resolving_defs.specs.Expressions.{library_literal, expr, args, base, members, member_decl, member_items, member_item, lengths, last_length, outer_lengths, length_at, init_parts, init_exprs, all_init_exprs}
use Rattle.ec_resolving_defs.specs.Initializers.{stored_at, init_value, Left, initializer, fill, fill_part}
use Rattle.ec_meaning_defs.specs.observed.Run.{IsFront}
use Rattle.ec_sim_world_laws.proofs.growth_lemmas.Rules.{begins_itself, begins_joined, begins_further}

-- ---- what rules are put together from

-- the same places and functions, and the calls so far and more
pub record Stores {A : Type 0} (m : Resolving A) : Type 0 where
  pub sites : (s : Storage) (w : World) → (m s w).storage.sites ≡ s.sites
  pub defined : (s : Storage) (w : World) → (m s w).storage.defined ≡ s.defined
  pub calls : (s : Storage) (w : World) → IsFront s.calls (m s w).storage.calls

pub chained : {A B : Type 0} {m : Resolving A} {f : A → Resolving B} → Stores m → ((a : A) → Stores (f a)) → Stores (chain m f)
unfolding chain
chained {m = m} {f = f} h k = record {
  sites = λ s w. (k (m s w).answer).sites (m s w).storage (m s w).world ∙ h.sites s w;
  defined = λ s w. (k (m s w).answer).defined (m s w).storage (m s w).world ∙ h.defined s w;
  calls = λ s w. begins_further s.calls (m s w).storage.calls (f (m s w).answer (m s w).storage (m s w).world).storage.calls (h.calls s w) ((k (m s w).answer).calls (m s w).storage (m s w).world);
}

pub pure_stores : {A : Type 0} (a : A) → Stores (pure a)
unfolding pure
pure_stores a = record { sites = λ s w. refl; defined = λ s w. refl; calls = λ s w. begins_itself s.calls }

pub checks_store : {A : Type 0} (m : Rule A) → Stores (checks m)
unfolding checks
checks_store m = record { sites = λ s w. refl; defined = λ s w. refl; calls = λ s w. begins_itself s.calls }

pub ask_stores : {A : Type 0} (g : World → A) → Stores (ask g)
unfolding ask
ask_stores g = record { sites = λ s w. refl; defined = λ s w. refl; calls = λ s w. begins_itself s.calls }

pub stored_stores : {A : Type 0} (g : Storage → A) → Stores (stored g)
unfolding stored
stored_stores g = record { sites = λ s w. refl; defined = λ s w. refl; calls = λ s w. begins_itself s.calls }

pub asked : {A B : Type 0} (g : World → A) (f : A → Resolving B) → ((a : A) → Stores (f a)) → Stores (chain (ask g) f)
asked g f k = chained (ask_stores g) k

-- a literal more or less
texts_store : (g : Storage → Storage) → ((s : Storage) → (g s).sites ≡ s.sites) → ((s : Storage) → (g s).defined ≡ s.defined) → ((s : Storage) → IsFront s.calls (g s).calls) → Stores (arrange g)
unfolding arrange
texts_store g a b c = record { sites = λ s w. a s; defined = λ s w. b s; calls = λ s w. c s }

arrange_stores : (g : Storage → Storage) → ((s : Storage) → (g s).sites ≡ s.sites) → ((s : Storage) → (g s).defined ≡ s.defined) → ((s : Storage) → (g s).calls ≡ s.calls) → Stores (arrange g)
arrange_stores g a b c = texts_store g a b (λ s. subst (λ cs. IsFront s.calls cs) (sym (c s)) (begins_itself s.calls))

chosen : {A : Type 0} (b : Bool) {x y : Resolving A} → Stores x → Stores y → Stores (elim b [ true ↦ x | false ↦ y ])
chosen true h k = h
chosen false h k = k

-- ---- operands

pub form_stores : (f : OperandData → Found) (m : Rule OperandData) → Stores (with_form f m)
form_stores f m = chained (checks_store m) (λ o. pure_stores _)

asked_form : {A : Type 0} (g : World → A) (f : A → OperandData → Found) (m : Rule OperandData) → Stores (chain (ask g) (λ a. with_form (f a) m))
asked_form g f m = asked _ _ (λ a. form_stores _ _)

name_stores : (at : Place) (name : Text) → Stores (name_rule at name)
name_stores at name = asked _ _ (λ entry. chained (stored_stores _) (λ sites. chained (checks_store _) (λ o. pure_stores _)))

literal_stores : (text : Text) → Stores (literal_rule text)
literal_stores text = chained (stored_stores _) (λ e. chained (arrange_stores _ (λ s. refl) (λ s. refl) (λ s. refl)) (λ u. pure_stores _))

pub valued : (at : Place) {m : Resolving Found} → Stores m → Stores (chain m (value_rule at))
valued at h = chained h (λ f. form_stores _ _)

unary_by : (at : Place) (op : UnOp) {m : Resolving Found} → Stores m → Stores (chain (chain m (value_rule at)) (unary_rule at op))
unary_by at op h = chained (valued at h) (λ f. form_stores _ _)

named_call_stores : (name : Text) (es : ExprList) (fs : List Found) (of_library : Option LibName)
    → Stores (elim of_library [ Some call_name ↦ library_exp call_name es fs | None ↦ function_called name es fs ])
named_call_stores name es fs (Some call_name) = chained (stored_stores _) (λ n. chained (texts_store _ (λ s. refl) (λ s. refl) (λ s. begins_joined s.calls _)) (λ u. pure_stores _))
named_call_stores name es fs None = chained (stored_stores _) (λ defined. ask_stores _)

call_stores : (at : Place) (name : Text) (es : ExprList) (fs : List Found) → Stores (call_rule at name es fs)
call_stores at name es fs = chained (asked _ _ (λ of_library. named_call_stores name es fs of_library)) (λ e. form_stores _ _)

literal_argument_stores : (at : Place) (e : ExprData) → Stores (library_literal at e)
unfolding library_literal
literal_argument_stores at e = form_stores _ _

-- ---- expressions, and the types in them

mutual
  pub expr_stores : (at : Place) (e : ExprData) → Stores (expr at e)
  expr_stores at (integer n t) = pure_stores _
  expr_stores at (character c) = pure_stores _
  expr_stores at (string s) = literal_stores s
  expr_stores at (identifier x) = name_stores at x
  expr_stores at (unary Addr e) = chained (expr_stores at e) (λ f. form_stores _ _)
  expr_stores at (unary Deref e) = unary_by at Deref (expr_stores at e)
  expr_stores at (unary Plus e) = unary_by at Plus (expr_stores at e)
  expr_stores at (unary Minus e) = unary_by at Minus (expr_stores at e)
  expr_stores at (unary Not e) = unary_by at Not (expr_stores at e)
  expr_stores at (unary Flip e) = unary_by at Flip (expr_stores at e)
  expr_stores at (binary op a b) = chained (valued at (expr_stores at a)) (λ x. chained (valued at (expr_stores at b)) (λ y. asked_form _ _ _))
  expr_stores at (assign None a b) = chained (expr_stores at a) (λ x. chained (valued at (expr_stores at b)) (λ y. asked_form _ _ _))
  expr_stores at (assign (Some op) a b) = chained (expr_stores at a) (λ x. chained (valued at (expr_stores at b)) (λ y. asked_form _ _ _))
  expr_stores at (bump before up e) = chained (expr_stores at e) (λ f. asked_form _ _ _)
  expr_stores at (call f es) = asked _ _ (λ forms. chained (args_store at forms es) (λ fs. call_stores at f es fs))
  expr_stores at (call_other f es) = chained (chosen (is_identifier f) (pure_stores _) (expr_stores at f)) (λ a. chained (args_store at all_expressions es) (λ fs. pure_stores _))
  expr_stores at (index a b) = chained (valued at (expr_stores at a)) (λ x. chained (valued at (expr_stores at b)) (λ y. asked_form _ _ _))
  expr_stores at (member e m) = chained (expr_stores at e) (λ f. asked_form _ _ _)
  expr_stores at (arrow e m) = chained (valued at (expr_stores at e)) (λ f. asked_form _ _ _)
  expr_stores at (cast b stars e) = chained (base_stores at b) (λ t. chained (expr_stores at e) (λ f. asked_form _ _ _))
  expr_stores at (size_type b stars) = chained (base_stores at b) (λ t. asked_form _ _ _)
  expr_stores at (size_expr e) = chained (expr_stores at e) (λ f. asked_form _ _ _)

  pub args_store : (at : Place) (forms : ArgumentsData) (es : ExprList) → Stores (args at forms es)
  args_store at forms no_exprs = pure_stores _
  args_store at forms (exprs e es) =
      chained (chosen (is_no_expression forms e) (pure_stores _) (chosen (is_library_literal forms e) (literal_argument_stores at e) (valued at (expr_stores at e))))
      (λ f. chained (args_store at _ es) (λ fs. pure_stores _))

  pub base_stores : (at : Place) (b : BaseData) → Stores (base at b)
  base_stores at (words ws) = checks_store _
  base_stores at varchar = pure_stores _
  base_stores at (tagged t) = checks_store _
  base_stores at (struct_base t ds) = chained (checks_store _) (λ k. chained (members_store ds []) (λ ms. checks_store _))

  members_store : (ds : DeclList) (ms : Members) → Stores (members ds ms)
  members_store no_decls ms = pure_stores _
  members_store (decls d ds) ms = chained (member_decl_stores d ms) (λ more. members_store ds more)

  member_decl_stores : (d : DeclData) (ms : Members) → Stores (member_decl d ms)
  member_decl_stores (decl b items section line) ms = chained (checks_store _) (λ at. chained (base_stores at b) (λ t. items_store at (is_varchar b) t items ms))

  items_store : (at : Place) (v : Bool) (t : Option TyData) (ds : DeclaratorList) (ms : Members) → Stores (member_items at v t ds ms)
  items_store at v t no_declarators ms = pure_stores _
  items_store at v t (declarators d ds) ms = chained (item_stores at v t d ms) (λ more. items_store at v t ds more)

  item_stores : (at : Place) (v : Bool) (t : Option TyData) (d : DeclaratorData) (ms : Members) → Stores (member_item at v t d ms)
  item_stores at false t (declarator stars name ns init) ms = chained (lengths_store at ns) (λ sizes. chained (init_parts_store at init) (λ c. checks_store _))
  item_stores at true t (declarator stars name ns init) ms =
      chained (last_stores at ns) (λ n. chained (checks_store _) (λ own. chained (outer_store at ns) (λ sizes. chained (init_parts_store at init) (λ c. checks_store _))))

  pub lengths_store : (at : Place) (ds : DimList) → Stores (lengths at ds)
  lengths_store at no_dims = pure_stores _
  lengths_store at (dims d ds) = chained (length_at_stores at d) (λ n. chained (lengths_store at ds) (λ ns. pure_stores _))

  pub last_stores : (at : Place) (ds : DimList) → Stores (last_length at ds)
  last_stores at no_dims = pure_stores _
  last_stores at (dims d no_dims) = length_at_stores at d
  last_stores at (dims d (dims e ds)) = last_stores at (dims e ds)

  pub outer_store : (at : Place) (ds : DimList) → Stores (outer_lengths at ds)
  outer_store at no_dims = pure_stores _
  outer_store at (dims d no_dims) = pure_stores _
  outer_store at (dims d (dims e ds)) = chained (length_at_stores at d) (λ n. chained (outer_store at (dims e ds)) (λ ns. pure_stores _))

  length_at_stores : (at : Place) (d : DimData) → Stores (length_at at d)
  length_at_stores at open_dim = pure_stores _
  length_at_stores at (dim e) = chained (valued at (expr_stores at e)) (λ f. checks_store _)

  init_parts_store : (at : Place) (i : InitOption) → Stores (init_parts at i)
  init_parts_store at no_init = pure_stores _
  init_parts_store at (some_init i) = init_exprs_store at i

  init_exprs_store : (at : Place) (i : InitData) → Stores (init_exprs at i)
  init_exprs_store at (one e) = chained (valued at (expr_stores at e)) (λ f. pure_stores _)
  init_exprs_store at (many is) = all_init_store at is

  all_init_store : (at : Place) (is : InitList) → Stores (all_init_exprs at is)
  all_init_store at no_inits = pure_stores _
  all_init_store at (inits i is) = chained (init_exprs_store at i) (λ a. all_init_store at is)

-- ---- initializers

pub stored_at_stores : (offset : ℕ) (t : Option TyData) (e : ExprData) (f : Found) → Stores (stored_at offset t e f)
unfolding stored_at
stored_at_stores offset None e f = pure_stores _
stored_at_stores offset (Some t) e f = chosen (is_text_for f.operand t) (chained (arrange_stores _ (λ s. refl) (λ s. refl) (λ s. refl)) (λ u. pure_stores _)) (ask_stores _)

init_value_stores : (at : Place) (global : Bool) (e : ExprData) → Stores (init_value at global e)
init_value_stores at global e = chained (valued at (expr_stores at e)) (λ f. chained (checks_store _) (λ a. pure_stores _))

mutual
  pub initializer_stores : (at : Place) (global : Bool) (t : Option TyData) (i : InitData) → Stores (initializer at global t i)
  initializer_stores at global t (one e) =
      chained (init_value_stores at global e) (λ f. chained (checks_store _) (λ ty. chained (stored_at_stores 0 t e f) (λ parts. pure_stores _)))
  initializer_stores at global t (many is) = asked _ _ (λ fs. chained (fill_stores at global _ is) (λ filled. pure_stores _))

  fill_stores : (at : Place) (global : Bool) (l : Left) (is : InitList) → Stores (fill at global l is)
  fill_stores at global l no_inits = pure_stores _
  fill_stores at global l (inits i is) = chained (fill_part_stores at global l i) (λ part. chained (fill_stores at global part.0 is) (λ more. pure_stores _))

  fill_part_stores : (at : Place) (global : Bool) (l : Left) (i : InitData) → Stores (fill_part at global l i)
  fill_part_stores at global l (one e) =
      chained (init_value_stores at global e) (λ f. asked _ _ (λ goal. chained (checks_store _) (λ fs. chained (stored_at_stores _ _ e f) (λ parts. pure_stores _))))
  fill_part_stores at global l (many is) = asked _ _ (λ next. chained (checks_store _) (λ slot. asked _ _ (λ gs. chained (fill_stores at global _ is) (λ inner. pure_stores _))))
