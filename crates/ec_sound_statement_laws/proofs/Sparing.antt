-- Expressions, types, lengths and initializers make literals and calls of the library alone.
use Rattle.std.proofs.Common.{◌≡◌, ◌∙◌, ℕ, Bool, true, false, List, [], refl, Option, Some, None}
use Rattle.ec_ctypes.specs.declared.checked.library.LibName.{LibName}
use Rattle.ec_ctypes.specs.declared.tree.expr.UnOp.{UnOp}
use Rattle.ec_ctypes.specs.declared.tree.expr.UnOp.TheVariants.{Addr, Deref, Plus, Minus, Not, Flip}
use Rattle.ec_ctypes.specs.trees.Types.{TyData}
use Rattle.ec_ctypes.specs.trees.Exprs.{ExprData, integer, character, string, identifier, unary, binary, assign, bump, call, call_other, index, member, arrow, cast, size_type, size_expr, ExprList, no_exprs, exprs, BaseData, words, varchar, tagged, struct_base, DimData, open_dim, dim, DimList, no_dims, dims, InitData, one, many, InitList, no_inits, inits, InitOption, no_init, some_init, DeclaratorData, declarator, DeclaratorList, no_declarators, declarators, DeclData, decl, DeclList, no_decls, decls}
use Rattle.ec_language.specs.Letters.{Text}
use Rattle.ec_typing_defs.specs.Known.{ArgumentsData, all_expressions, is_identifier, is_no_expression}
use Rattle.ec_typing_defs.specs.Operands.{OperandData}
use Rattle.ec_typing_defs.specs.Expressions.{Members, is_varchar}
use Rattle.ec_typing_defs.specs.Initializers.{is_text_for}
use Rattle.ec_typing_defs.specs.Worlds.{Place, World, Rule}
use Rattle.ec_resolving_defs.specs.Storage.{Storage, Resolving, chain, pure, checks, ask, stored, arrange}
use Rattle.ec_resolving_defs.specs.Operands.{Found, with_form, name_rule, literal_rule, value_rule, unary_rule, library_exp, function_called, call_rule, is_library_literal}
use Rattle.ec_resolving_defs.specs.Expressions.{library_literal, expr, args, base, members, member_decl, member_items, member_item, lengths, last_length, outer_lengths, length_at, init_parts, init_exprs, all_init_exprs}
use Rattle.ec_resolving_defs.specs.Initializers.{stored_at, init_value, Left, initializer, fill, fill_part}
use Rattle.ec_sound_statement_laws.specs.Objects.{apart, Spares}

-- ---- what rules are put together from

pub chained : {A B : Type 0} {m : Resolving A} {f : A → Resolving B} → Spares m → ((a : A) → Spares (f a)) → Spares (chain m f)
unfolding chain
chained {m = m} {f = f} h k = record { stays = λ s w. (k (m s w).answer).stays (m s w).storage (m s w).world ∙ h.stays s w }

pub pure_spares : {A : Type 0} (a : A) → Spares (pure a)
unfolding pure
pure_spares a = record { stays = λ s w. refl }

pub checks_spare : {A : Type 0} (m : Rule A) → Spares (checks m)
unfolding checks
checks_spare m = record { stays = λ s w. refl }

pub ask_spares : {A : Type 0} (g : World → A) → Spares (ask g)
unfolding ask
ask_spares g = record { stays = λ s w. refl }

pub stored_spares : {A : Type 0} (g : Storage → A) → Spares (stored g)
unfolding stored
stored_spares g = record { stays = λ s w. refl }

pub asked : {A B : Type 0} (g : World → A) (f : A → Resolving B) → ((a : A) → Spares (f a)) → Spares (chain (ask g) f)
asked g f k = chained (ask_spares g) k

arrange_spares : (g : Storage → Storage) → ((s : Storage) → apart (g s) ≡ apart s) → Spares (arrange g)
unfolding arrange
arrange_spares g e = record { stays = λ s w. e s }

chosen : {A : Type 0} (b : Bool) {x y : Resolving A} → Spares x → Spares y → Spares (elim b [ true ↦ x | false ↦ y ])
chosen true h k = h
chosen false h k = k

-- ---- operands

pub form_spares : (f : OperandData → Found) (m : Rule OperandData) → Spares (with_form f m)
form_spares f m = chained (checks_spare m) (λ o. pure_spares _)

asked_form : {A : Type 0} (g : World → A) (f : A → OperandData → Found) (m : Rule OperandData) → Spares (chain (ask g) (λ a. with_form (f a) m))
asked_form g f m = asked _ _ (λ a. form_spares _ _)

name_spares : (at : Place) (name : Text) → Spares (name_rule at name)
name_spares at name = asked _ _ (λ entry. chained (stored_spares _) (λ sites. chained (checks_spare _) (λ o. pure_spares _)))

literal_spares : (text : Text) → Spares (literal_rule text)
literal_spares text = chained (stored_spares _) (λ e. chained (arrange_spares _ (λ s. refl)) (λ u. pure_spares _))

pub valued : (at : Place) {m : Resolving Found} → Spares m → Spares (chain m (value_rule at))
valued at h = chained h (λ f. form_spares _ _)

unary_by : (at : Place) (op : UnOp) {m : Resolving Found} → Spares m → Spares (chain (chain m (value_rule at)) (unary_rule at op))
unary_by at op h = chained (valued at h) (λ f. form_spares _ _)

named_call_spares : (name : Text) (es : ExprList) (fs : List Found) (of_library : Option LibName)
    → Spares (elim of_library [ Some call_name ↦ library_exp call_name es fs | None ↦ function_called name es fs ])
named_call_spares name es fs (Some call_name) = chained (stored_spares _) (λ n. chained (arrange_spares _ (λ s. refl)) (λ u. pure_spares _))
named_call_spares name es fs None = chained (stored_spares _) (λ defined. ask_spares _)

call_spares : (at : Place) (name : Text) (es : ExprList) (fs : List Found) → Spares (call_rule at name es fs)
call_spares at name es fs = chained (asked _ _ (λ of_library. named_call_spares name es fs of_library)) (λ e. form_spares _ _)

literal_argument_spares : (at : Place) (e : ExprData) → Spares (library_literal at e)
unfolding library_literal
literal_argument_spares at e = form_spares _ _

-- ---- expressions, and the types in them

mutual
  pub expr_spares : (at : Place) (e : ExprData) → Spares (expr at e)
  expr_spares at (integer n t) = pure_spares _
  expr_spares at (character c) = pure_spares _
  expr_spares at (string s) = literal_spares s
  expr_spares at (identifier x) = name_spares at x
  expr_spares at (unary Addr e) = chained (expr_spares at e) (λ f. form_spares _ _)
  expr_spares at (unary Deref e) = unary_by at Deref (expr_spares at e)
  expr_spares at (unary Plus e) = unary_by at Plus (expr_spares at e)
  expr_spares at (unary Minus e) = unary_by at Minus (expr_spares at e)
  expr_spares at (unary Not e) = unary_by at Not (expr_spares at e)
  expr_spares at (unary Flip e) = unary_by at Flip (expr_spares at e)
  expr_spares at (binary op a b) = chained (valued at (expr_spares at a)) (λ x. chained (valued at (expr_spares at b)) (λ y. asked_form _ _ _))
  expr_spares at (assign None a b) = chained (expr_spares at a) (λ x. chained (valued at (expr_spares at b)) (λ y. asked_form _ _ _))
  expr_spares at (assign (Some op) a b) = chained (expr_spares at a) (λ x. chained (valued at (expr_spares at b)) (λ y. asked_form _ _ _))
  expr_spares at (bump before up e) = chained (expr_spares at e) (λ f. asked_form _ _ _)
  expr_spares at (call f es) = asked _ _ (λ forms. chained (args_spare at forms es) (λ fs. call_spares at f es fs))
  expr_spares at (call_other f es) = chained (chosen (is_identifier f) (pure_spares _) (expr_spares at f)) (λ a. chained (args_spare at all_expressions es) (λ fs. pure_spares _))
  expr_spares at (index a b) = chained (valued at (expr_spares at a)) (λ x. chained (valued at (expr_spares at b)) (λ y. asked_form _ _ _))
  expr_spares at (member e m) = chained (expr_spares at e) (λ f. asked_form _ _ _)
  expr_spares at (arrow e m) = chained (valued at (expr_spares at e)) (λ f. asked_form _ _ _)
  expr_spares at (cast b stars e) = chained (base_spares at b) (λ t. chained (expr_spares at e) (λ f. asked_form _ _ _))
  expr_spares at (size_type b stars) = chained (base_spares at b) (λ t. asked_form _ _ _)
  expr_spares at (size_expr e) = chained (expr_spares at e) (λ f. asked_form _ _ _)

  pub args_spare : (at : Place) (forms : ArgumentsData) (es : ExprList) → Spares (args at forms es)
  args_spare at forms no_exprs = pure_spares _
  args_spare at forms (exprs e es) =
      chained (chosen (is_no_expression forms e) (pure_spares _) (chosen (is_library_literal forms e) (literal_argument_spares at e) (valued at (expr_spares at e))))
      (λ f. chained (args_spare at _ es) (λ fs. pure_spares _))

  pub base_spares : (at : Place) (b : BaseData) → Spares (base at b)
  base_spares at (words ws) = checks_spare _
  base_spares at varchar = pure_spares _
  base_spares at (tagged t) = checks_spare _
  base_spares at (struct_base t ds) = chained (checks_spare _) (λ k. chained (members_spare ds []) (λ ms. checks_spare _))

  members_spare : (ds : DeclList) (ms : Members) → Spares (members ds ms)
  members_spare no_decls ms = pure_spares _
  members_spare (decls d ds) ms = chained (member_decl_spares d ms) (λ more. members_spare ds more)

  member_decl_spares : (d : DeclData) (ms : Members) → Spares (member_decl d ms)
  member_decl_spares (decl b items section line) ms = chained (checks_spare _) (λ at. chained (base_spares at b) (λ t. items_spare at (is_varchar b) t items ms))

  items_spare : (at : Place) (v : Bool) (t : Option TyData) (ds : DeclaratorList) (ms : Members) → Spares (member_items at v t ds ms)
  items_spare at v t no_declarators ms = pure_spares _
  items_spare at v t (declarators d ds) ms = chained (item_spares at v t d ms) (λ more. items_spare at v t ds more)

  item_spares : (at : Place) (v : Bool) (t : Option TyData) (d : DeclaratorData) (ms : Members) → Spares (member_item at v t d ms)
  item_spares at false t (declarator stars name ns init) ms = chained (lengths_spare at ns) (λ sizes. chained (init_parts_spare at init) (λ c. checks_spare _))
  item_spares at true t (declarator stars name ns init) ms =
      chained (last_spares at ns) (λ n. chained (checks_spare _) (λ own. chained (outer_spare at ns) (λ sizes. chained (init_parts_spare at init) (λ c. checks_spare _))))

  pub lengths_spare : (at : Place) (ds : DimList) → Spares (lengths at ds)
  lengths_spare at no_dims = pure_spares _
  lengths_spare at (dims d ds) = chained (length_at_spares at d) (λ n. chained (lengths_spare at ds) (λ ns. pure_spares _))

  pub last_spares : (at : Place) (ds : DimList) → Spares (last_length at ds)
  last_spares at no_dims = pure_spares _
  last_spares at (dims d no_dims) = length_at_spares at d
  last_spares at (dims d (dims e ds)) = last_spares at (dims e ds)

  pub outer_spare : (at : Place) (ds : DimList) → Spares (outer_lengths at ds)
  outer_spare at no_dims = pure_spares _
  outer_spare at (dims d no_dims) = pure_spares _
  outer_spare at (dims d (dims e ds)) = chained (length_at_spares at d) (λ n. chained (outer_spare at (dims e ds)) (λ ns. pure_spares _))

  length_at_spares : (at : Place) (d : DimData) → Spares (length_at at d)
  length_at_spares at open_dim = pure_spares _
  length_at_spares at (dim e) = chained (valued at (expr_spares at e)) (λ f. checks_spare _)

  init_parts_spare : (at : Place) (i : InitOption) → Spares (init_parts at i)
  init_parts_spare at no_init = pure_spares _
  init_parts_spare at (some_init i) = init_exprs_spare at i

  init_exprs_spare : (at : Place) (i : InitData) → Spares (init_exprs at i)
  init_exprs_spare at (one e) = chained (valued at (expr_spares at e)) (λ f. pure_spares _)
  init_exprs_spare at (many is) = all_init_spare at is

  all_init_spare : (at : Place) (is : InitList) → Spares (all_init_exprs at is)
  all_init_spare at no_inits = pure_spares _
  all_init_spare at (inits i is) = chained (init_exprs_spare at i) (λ a. all_init_spare at is)

-- ---- initializers

stored_at_spares : (offset : ℕ) (t : Option TyData) (e : ExprData) (f : Found) → Spares (stored_at offset t e f)
unfolding stored_at
stored_at_spares offset None e f = pure_spares _
stored_at_spares offset (Some t) e f = chosen (is_text_for f.operand t) (chained (arrange_spares _ (λ s. refl)) (λ u. pure_spares _)) (ask_spares _)

init_value_spares : (at : Place) (global : Bool) (e : ExprData) → Spares (init_value at global e)
init_value_spares at global e = chained (valued at (expr_spares at e)) (λ f. chained (checks_spare _) (λ a. pure_spares _))

mutual
  pub initializer_spares : (at : Place) (global : Bool) (t : Option TyData) (i : InitData) → Spares (initializer at global t i)
  initializer_spares at global t (one e) =
      chained (init_value_spares at global e) (λ f. chained (checks_spare _) (λ ty. chained (stored_at_spares 0 t e f) (λ parts. pure_spares _)))
  initializer_spares at global t (many is) = asked _ _ (λ fs. chained (fill_spares at global _ is) (λ filled. pure_spares _))

  fill_spares : (at : Place) (global : Bool) (l : Left) (is : InitList) → Spares (fill at global l is)
  fill_spares at global l no_inits = pure_spares _
  fill_spares at global l (inits i is) = chained (fill_part_spares at global l i) (λ part. chained (fill_spares at global part.0 is) (λ more. pure_spares _))

  fill_part_spares : (at : Place) (global : Bool) (l : Left) (i : InitData) → Spares (fill_part at global l i)
  fill_part_spares at global l (one e) =
      chained (init_value_spares at global e) (λ f. asked _ _ (λ goal. chained (checks_spare _) (λ fs. chained (stored_at_spares _ _ e f) (λ parts. pure_spares _))))
  fill_part_spares at global l (many is) = asked _ _ (λ next. chained (checks_spare _) (λ slot. asked _ _ (λ gs. chained (fill_spares at global _ is) (λ inner. pure_spares _))))
