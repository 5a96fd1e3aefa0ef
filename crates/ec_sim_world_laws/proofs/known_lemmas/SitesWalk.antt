-- Expressions, types, lengths and initializers declare nothing.
use Rattle.std.proofs.Common.{◌∙◌, ℕ, Bool, true, false, List, [], refl, sym, ap, Option, Some, None}
use Rattle.ec_ctypes.specs.declared.checked.library.LibName.{LibName}
use Rattle.ec_ctypes.specs.declared.tree.expr.UnOp.{UnOp}
use Rattle.ec_ctypes.specs.declared.tree.expr.UnOp.TheVariants.{Addr, Deref, Plus, Minus, Not, Flip}
use Rattle.ec_ctypes.specs.trees.Types.{TyData}
use Rattle.ec_ctypes.specs.trees.Exprs.{ExprData, integer, character, string, identifier, unary, binary, assign, bump, call, call_other, index, member, arrow, cast, size_type, size_expr, ExprList, no_exprs, exprs, BaseData, words, varchar, tagged, struct_base, DimData, open_dim, dim, DimList, no_dims, dims, InitData, one, many, InitList, no_inits, inits, InitOption, no_init, some_init, DeclaratorData, declarator, DeclaratorList, no_declarators, declarators, DeclData, decl, DeclList, no_decls, decls}
use Rattle.ec_language.specs.Letters.{Text}
use Rattle.ec_typing_defs.specs.Known.{ArgumentsData, all_expressions, is_identifier, is_no_expression}
use Rattle.ec_typing_defs.specs.Operands.{OperandData}
use Rattle.ec_typing_defs.specs.Expressions as checked_parts
use Rattle.ec_typing_defs.specs.Expressions.{Members, is_varchar}
use Rattle.ec_typing_defs.specs.Initializers.{is_text_for}
use Rattle.ec_typing_defs.specs.Worlds.{Place, Rule, chain as check_chain}
use Rattle.ec_resolving_defs.specs.Storage.{Resolving, chain, pure, checks}
use Rattle.ec_resolving_defs.specs.Operands.{Found, with_form, unary_found, name_rule, literal_rule, value_rule, address_rule, unary_rule, library_exp, function_called, called, call_rule, operands_of, is_library_literal}
use Rattle.ec_resolving_defs.specs.Expressions.{library_literal, expr, args, base, members, member_decl, member_items, member_item, lengths, last_length, outer_lengths, length_at, init_parts, init_exprs, all_init_exprs}
use Rattle.ec_resolving_defs.specs.Initializers.{stored_at, init_value, Left, initializer, fill, fill_part}
use Rattle.ec_resolving_defs.proofs.Agreeing.{expr_finds}
use Rattle.ec_sim_world_laws.proofs.known_lemmas.SitesIdle.{Idle}
use Rattle.ec_sim_world_laws.proofs.known_lemmas.SitesOperands.{name_idle, value_idle, address_idle, unary_idle, binary_idle, index_idle, assign_idle, compound_idle, bump_idle, call_idle, member_idle, arrow_idle, cast_idle, size_idle, length_idle}
use Rattle.ec_sim_world_laws.proofs.known_lemmas.SitesChecks.{words_idle, tag_idle, named_idle, fixed_idle, part_idle, slot_idle, single_idle, idle_still, place_still, begin_still, end_still, varchar_member_still}
use Rattle.ec_sim_world_laws.proofs.known_lemmas.SitesRules.{Stands, chained, pure_stands, ask_stands, asked, stored_stands, arrange_stands, checks_stand, chosen}

-- ---- operands

pub idle_stands : {A : Type 0} {m : Rule A} → Idle m → Stands (checks m)
idle_stands h = checks_stand (idle_still h)

form_stands : (f : OperandData → Found) (m : Rule OperandData) → Idle m → Stands (with_form f m)
form_stands f m h = chained (idle_stands h) (λ o. pure_stands _)

name_stands : (at : Place) (name : Text) → Stands (name_rule at name)
name_stands at name = asked _ _ (λ entry. chained (stored_stands _) (λ sites. chained (idle_stands (name_idle at name)) (λ o. pure_stands _)))

literal_stands : (text : Text) → Stands (literal_rule text)
literal_stands text = chained (stored_stands _) (λ e. chained (arrange_stands _ (λ s. refl)) (λ u. pure_stands _))

pub value_stands : (at : Place) (f : Found) → Stands (value_rule at f)
value_stands at f = form_stands _ _ (value_idle at f.operand)

pub valued : (at : Place) {m : Resolving Found} → Stands m → Stands (chain m (value_rule at))
valued at h = chained h (λ f. value_stands at f)

address_stands : (at : Place) (f : Found) → Stands (address_rule at f)
address_stands at f = form_stands _ _ (address_idle at f.operand)

unary_stands : (at : Place) (op : UnOp) (f : Found) → Stands (unary_rule at op f)
unary_stands at op f = form_stands (unary_found op f) _ (unary_idle at op f.operand)

unary_by : (at : Place) (op : UnOp) {m : Resolving Found} → Stands m → Stands (chain (chain m (value_rule at)) (unary_rule at op))
unary_by at op h = chained (valued at h) (λ f. unary_stands at op f)

-- ---- calls

named_call_stands : (name : Text) (es : ExprList) (fs : List Found) (of_library : Option LibName)
    → Stands (elim of_library [ Some call_name ↦ library_exp call_name es fs | None ↦ function_called name es fs ])
named_call_stands name es fs (Some call_name) = chained (stored_stands _) (λ n. chained (arrange_stands _ (λ s. refl)) (λ u. pure_stands _))
named_call_stands name es fs None = chained (stored_stands _) (λ defined. ask_stands _)

called_stands : (name : Text) (es : ExprList) (fs : List Found) → Stands (called name es fs)
called_stands name es fs = asked _ _ (λ of_library. named_call_stands name es fs of_library)

call_stands : (at : Place) (name : Text) (es : ExprList) (fs : List Found) → Stands (call_rule at name es fs)
call_stands at name es fs = chained (called_stands name es fs) (λ e. form_stands _ _ (call_idle at name es (operands_of fs)))

-- what the checks find of it is what the walk finds
library_literal_stands : (at : Place) (e : ExprData) → Stands (expr at e) → Stands (library_literal at e)
unfolding library_literal chain checks pure check_chain
library_literal_stands at e h = record {
  sites = λ s w. refl;
  types = λ s w.
      ap (λ z. z.types) ((value_idle at (checked_parts.expr at e w).answer).world (checked_parts.expr at e w).world)
      ∙ ap (λ z. z.types) (sym ((expr_finds at e).world s w)) ∙ h.types s w;
}

-- ---- expressions, and the types in them

mutual
  pub expr_stands : (at : Place) (e : ExprData) → Stands (expr at e)
  expr_stands at (integer n t) = pure_stands _
  expr_stands at (character c) = pure_stands _
  expr_stands at (string s) = literal_stands s
  expr_stands at (identifier x) = name_stands at x
  expr_stands at (unary Addr e) = chained (expr_stands at e) (λ f. address_stands at f)
  expr_stands at (unary Deref e) = unary_by at Deref (expr_stands at e)
  expr_stands at (unary Plus e) = unary_by at Plus (expr_stands at e)
  expr_stands at (unary Minus e) = unary_by at Minus (expr_stands at e)
  expr_stands at (unary Not e) = unary_by at Not (expr_stands at e)
  expr_stands at (unary Flip e) = unary_by at Flip (expr_stands at e)
  expr_stands at (binary op a b) =
      chained (valued at (expr_stands at a)) (λ x. chained (valued at (expr_stands at b)) (λ y. asked _ _ (λ e. form_stands _ _ (binary_idle at op x.operand y.operand))))
  expr_stands at (assign None a b) =
      chained (expr_stands at a) (λ x. chained (valued at (expr_stands at b)) (λ y. asked _ _ (λ e. form_stands _ _ (assign_idle at x.operand y.operand))))
  expr_stands at (assign (Some op) a b) =
      chained (expr_stands at a) (λ x. chained (valued at (expr_stands at b)) (λ y. asked _ _ (λ e. form_stands _ _ (compound_idle at op x.operand y.operand))))
  expr_stands at (bump before up e) = chained (expr_stands at e) (λ f. asked _ _ (λ x. form_stands _ _ (bump_idle at f.operand)))
  expr_stands at (call f es) = asked _ _ (λ forms. chained (args_stand at forms es) (λ fs. call_stands at f es fs))
  expr_stands at (call_other f es) = chained (chosen (is_identifier f) (pure_stands _) (expr_stands at f)) (λ a. chained (args_stand at all_expressions es) (λ fs. pure_stands _))
  expr_stands at (index a b) =
      chained (valued at (expr_stands at a)) (λ x. chained (valued at (expr_stands at b)) (λ y. asked _ _ (λ e. form_stands _ _ (index_idle at x.operand y.operand))))
  expr_stands at (member e m) = chained (expr_stands at e) (λ f. asked _ _ (λ x. form_stands _ _ (member_idle at f.operand m)))
  expr_stands at (arrow e m) = chained (valued at (expr_stands at e)) (λ f. asked _ _ (λ x. form_stands _ _ (arrow_idle at f.operand m)))
  expr_stands at (cast b stars e) = chained (base_stands at b) (λ t. chained (expr_stands at e) (λ f. asked _ _ (λ x. form_stands _ _ (cast_idle at _ f.operand))))
  expr_stands at (size_type b stars) = chained (base_stands at b) (λ t. asked _ _ (λ x. form_stands _ _ (size_idle at _)))
  expr_stands at (size_expr e) = chained (expr_stands at e) (λ f. asked _ _ (λ x. form_stands _ _ (size_idle at f.operand.type)))

  pub args_stand : (at : Place) (forms : ArgumentsData) (es : ExprList) → Stands (args at forms es)
  args_stand at forms no_exprs = pure_stands _
  args_stand at forms (exprs e es) =
      chained (chosen (is_no_expression forms e) (pure_stands _) (chosen (is_library_literal forms e) (library_literal_stands at e (expr_stands at e)) (valued at (expr_stands at e))))
      (λ f. chained (args_stand at _ es) (λ fs. pure_stands _))

  pub base_stands : (at : Place) (b : BaseData) → Stands (base at b)
  base_stands at (words ws) = idle_stands (words_idle at _)
  base_stands at varchar = pure_stands _
  base_stands at (tagged t) = idle_stands (tag_idle at t)
  base_stands at (struct_base t ds) = chained (checks_stand (begin_still at t)) (λ k. chained (members_stand ds []) (λ ms. checks_stand (end_still at t k ms)))

  members_stand : (ds : DeclList) (ms : Members) → Stands (members ds ms)
  members_stand no_decls ms = pure_stands _
  members_stand (decls d ds) ms = chained (member_decl_stands d ms) (λ more. members_stand ds more)

  member_decl_stands : (d : DeclData) (ms : Members) → Stands (member_decl d ms)
  member_decl_stands (decl b items section line) ms = chained (checks_stand (place_still line)) (λ at. chained (base_stands at b) (λ t. items_stand at (is_varchar b) t items ms))

  items_stand : (at : Place) (v : Bool) (t : Option TyData) (ds : DeclaratorList) (ms : Members) → Stands (member_items at v t ds ms)
  items_stand at v t no_declarators ms = pure_stands _
  items_stand at v t (declarators d ds) ms = chained (item_stands at v t d ms) (λ more. items_stand at v t ds more)

  item_stands : (at : Place) (v : Bool) (t : Option TyData) (d : DeclaratorData) (ms : Members) → Stands (member_item at v t d ms)
  item_stands at false t (declarator stars name ns init) ms = chained (lengths_stand at ns) (λ sizes. chained (init_parts_stand at init) (λ c. idle_stands (named_idle at name _ ms)))
  item_stands at true t (declarator stars name ns init) ms =
      chained (last_stands at ns) (λ n. chained (checks_stand (varchar_member_still at n)) (λ own. chained (outer_stand at ns) (λ sizes. chained (init_parts_stand at init) (λ c. idle_stands (named_idle at name _ ms)))))

  pub lengths_stand : (at : Place) (ds : DimList) → Stands (lengths at ds)
  lengths_stand at no_dims = pure_stands _
  lengths_stand at (dims d ds) = chained (length_at_stands at d) (λ n. chained (lengths_stand at ds) (λ ns. pure_stands _))

  pub last_stands : (at : Place) (ds : DimList) → Stands (last_length at ds)
  last_stands at no_dims = pure_stands _
  last_stands at (dims d no_dims) = length_at_stands at d
  last_stands at (dims d (dims e ds)) = last_stands at (dims e ds)

  pub outer_stand : (at : Place) (ds : DimList) → Stands (outer_lengths at ds)
  outer_stand at no_dims = pure_stands _
  outer_stand at (dims d no_dims) = pure_stands _
  outer_stand at (dims d (dims e ds)) = chained (length_at_stands at d) (λ n. chained (outer_stand at (dims e ds)) (λ ns. pure_stands _))

  length_at_stands : (at : Place) (d : DimData) → Stands (length_at at d)
  length_at_stands at open_dim = pure_stands _
  length_at_stands at (dim e) = chained (valued at (expr_stands at e)) (λ f. idle_stands (length_idle at f.operand))

  init_parts_stand : (at : Place) (i : InitOption) → Stands (init_parts at i)
  init_parts_stand at no_init = pure_stands _
  init_parts_stand at (some_init i) = init_exprs_stand at i

  init_exprs_stand : (at : Place) (i : InitData) → Stands (init_exprs at i)
  init_exprs_stand at (one e) = chained (valued at (expr_stands at e)) (λ f. pure_stands _)
  init_exprs_stand at (many is) = all_init_stand at is

  all_init_stand : (at : Place) (is : InitList) → Stands (all_init_exprs at is)
  all_init_stand at no_inits = pure_stands _
  all_init_stand at (inits i is) = chained (init_exprs_stand at i) (λ a. all_init_stand at is)

-- ---- initializers

stored_at_stands : (offset : ℕ) (t : Option TyData) (e : ExprData) (f : Found) → Stands (stored_at offset t e f)
unfolding stored_at
stored_at_stands offset None e f = pure_stands _
stored_at_stands offset (Some t) e f = chosen (is_text_for f.operand t) (chained (arrange_stands _ (λ s. refl)) (λ u. pure_stands _)) (ask_stands _)

init_value_stands : (at : Place) (global : Bool) (e : ExprData) → Stands (init_value at global e)
init_value_stands at global e = chained (valued at (expr_stands at e)) (λ f. chained (idle_stands (fixed_idle at global f.operand)) (λ a. pure_stands _))

mutual
  pub initializer_stands : (at : Place) (global : Bool) (t : Option TyData) (i : InitData) → Stands (initializer at global t i)
  initializer_stands at global t (one e) =
      chained (init_value_stands at global e) (λ f. chained (idle_stands (single_idle at t f.operand)) (λ ty. chained (stored_at_stands 0 t e f) (λ parts. pure_stands _)))
  initializer_stands at global t (many is) = asked _ _ (λ fs. chained (fill_stands at global _ is) (λ filled. pure_stands _))

  fill_stands : (at : Place) (global : Bool) (l : Left) (is : InitList) → Stands (fill at global l is)
  fill_stands at global l no_inits = pure_stands _
  fill_stands at global l (inits i is) = chained (fill_part_stands at global l i) (λ part. chained (fill_stands at global part.0 is) (λ more. pure_stands _))

  fill_part_stands : (at : Place) (global : Bool) (l : Left) (i : InitData) → Stands (fill_part at global l i)
  fill_part_stands at global l (one e) =
      chained (init_value_stands at global e) (λ f. asked _ _ (λ goal. chained (idle_stands (part_idle at l.frames f.operand)) (λ fs. chained (stored_at_stands _ _ e f) (λ parts. pure_stands _))))
  fill_part_stands at global l (many is) = asked _ _ (λ next. chained (idle_stands (slot_idle at l.frames)) (λ slot. asked _ _ (λ gs. chained (fill_stands at global _ is) (λ inner. pure_stands _))))
