-- Names and declarations stay as they are by expressions, and by types and declarators in them.
use Rattle.std.proofs.Common.{ℕ, Bool, true, false, [], refl, Option, Some, None}
use Rattle.ec_base.specs.declared.fault.FaultKind.TheVariants.{F10}
use Rattle.ec_ctypes.specs.declared.tree.expr.UnOp.{UnOp}
use Rattle.ec_ctypes.specs.declared.tree.expr.UnOp.TheVariants.{Addr, Deref, Plus, Minus, Not, Flip}
use Rattle.ec_ctypes.specs.trees.Types.{TyData}
use Rattle.ec_ctypes.specs.trees.Exprs.{ExprData, integer, character, string, identifier, unary, binary, assign, bump, call, call_other, index, member, arrow, cast, size_type, size_expr, ExprList, no_exprs, exprs, BaseData, words, varchar, tagged, struct_base, DimData, open_dim, dim, DimList, no_dims, dims, InitData, one, many, InitList, no_inits, inits, InitOption, no_init, some_init, DeclaratorData, declarator, DeclaratorList, no_declarators, declarators, DeclData, decl, DeclList, no_decls, decls}
use Rattle.ec_language.specs.Letters.{Text}
use Rattle.ec_typing_defs.specs.Known.{ArgumentsData, all_expressions, is_identifier, is_no_expression}
use Rattle.ec_typing_defs.specs.Operands.{OperandData, value_rule, unary_rule}
use Rattle.ec_typing_defs.specs.Worlds.{Place, MembersData, unlisted, begun, listed, StructInfo, Rule, chain, set_struct}
use Rattle.ec_typing_defs.specs.Expressions.{Members, type_or_fault, tag_type, tag_rule, tagged_struct, begin_again, begin_by, begin_struct, end_struct, member_named, is_varchar, varchar_struct, varchar_object, varchar_member, expr, args, base, members, member_decl, member_items, member_item, lengths, last_length, outer_lengths, length_at, init_parts, init_exprs, all_init_exprs}
use Rattle.ec_sim_world_laws.proofs.known_lemmas.NamesRules.{Staying, chained, pure_stays, asked, noted, fault, demand_stays, keep_stays, changed, place_stays, chosen, free_name_stays, free_tag_stays, new_struct_stays, close_stays}
use Rattle.ec_sim_world_laws.proofs.known_lemmas.NamesOperands.{elements_stays, name_stays, value_stays, address_stays, unary_stays, binary_stays, index_stays, assign_stays, compound_stays, bump_stays, call_stays, member_stays, arrow_stays, cast_stays, size_stays, length_stays, within_stays, complete_stays}

-- ---- tags

type_stays : (at : Place) (k : Option ℕ) → Staying (tag_type at k)
type_stays at (Some k) = pure_stays _
type_stays at None = fault _ _ _

tag_stays : (at : Place) (t : Text) → Staying (tag_rule at t)
unfolding tag_rule
tag_stays at t = asked _ _ (λ k. type_stays at k)

-- ---- structs

pub tagged_stays : (t : Text) (ms : MembersData) → Staying (tagged_struct t ms)
unfolding tagged_struct
tagged_stays t ms = chained (new_struct_stays _) (λ k. chained (changed _ (λ w. refl) (λ w. refl) (λ w. refl)) (λ a. pure_stays _))

set_struct_stays : (k : ℕ) (info : StructInfo) → Staying (set_struct k info)
unfolding set_struct
set_struct_stays k info = changed _ (λ w. refl) (λ w. refl) (λ w. refl)

again_stays : (at : Place) (t : Text) (k : ℕ) (ms : Option MembersData) → Staying (begin_again at t k ms)
again_stays at t k (Some unlisted) = chained (set_struct_stays k _) (λ a. pure_stays _)
again_stays at t k (Some begun) = noted at F10 _ (tagged_stays t begun)
again_stays at t k (Some (listed ms)) = noted at F10 _ (tagged_stays t begun)
again_stays at t k None = noted at F10 _ (tagged_stays t begun)

begin_by_stays : (at : Place) (t : Text) (k : Option ℕ) → Staying (begin_by at t k)
begin_by_stays at t None = tagged_stays t begun
begin_by_stays at t (Some k) = asked _ _ (λ ms. again_stays at t k ms)

struct_stays : (at : Place) (t : Option Text) → Staying (begin_struct at t)
unfolding begin_struct
struct_stays at None = new_struct_stays _
struct_stays at (Some t) = chained (free_tag_stays at t) (λ u. asked _ _ (λ k. begin_by_stays at t k))

end_stays : (at : Place) (t : Option Text) (k : ℕ) (ms : Members) → Staying (end_struct at t k ms)
unfolding end_struct
end_stays at t k ms = asked _ _ (λ shape. asked _ _ (λ info. chained (set_struct_stays k info) (λ a. chained (close_stays k) (λ b. chained (keep_stays _ _ _) (λ c. pure_stays _)))))

-- ---- members

words_stay : (at : Place) (t : Option TyData) → Staying (type_or_fault at t)
unfolding type_or_fault
words_stay at (Some t) = pure_stays _
words_stay at None = fault _ _ _

named_stays : (at : Place) (name : Text) (t : Option TyData) (ms : Members) → Staying (member_named at name t ms)
unfolding member_named
named_stays at name t ms = chained (within_stays at t) (λ a. chained (complete_stays at t) (λ b. chained (demand_stays _ _ _) (λ c. chained (free_name_stays at name) (λ d. pure_stays _))))

varchar_stays : (at : Place) (t : Option Text) (n : Option ℕ) → Staying (varchar_struct at t n)
unfolding varchar_struct
varchar_stays at t n = asked _ _ (λ info. chained (new_struct_stays _) (λ k. chained (close_stays k) (λ a. chained (keep_stays _ _ _) (λ b. pure_stays _))))

pub varchar_object_stays : (at : Place) (name : Text) (n : Option ℕ) → Staying (varchar_object at name n)
unfolding varchar_object
varchar_object_stays at name n = chained (varchar_stays at _ n) (λ k. asked _ _ (λ before. chained (changed _ (λ w. refl) (λ w. refl) (λ w. refl)) (λ a. chained (demand_stays _ _ _) (λ b. pure_stays _))))

varchar_member_stays : (at : Place) (n : Option ℕ) → Staying (varchar_member at n)
unfolding varchar_member
varchar_member_stays at n = chained (varchar_stays at _ n) (λ k. pure_stays _)

-- ---- the parts

pub valued : (at : Place) {m : Rule OperandData} → Staying m → Staying (chain m (value_rule at))
valued at h = chained h (λ o. value_stays at o)

unary_by : (at : Place) (op : UnOp) {m : Rule OperandData} → Staying m → Staying (chain (chain m (value_rule at)) (unary_rule at op))
unary_by at op h = chained (valued at h) (λ o. unary_stays at op o)

mutual
  pub expr_stays : (at : Place) (e : ExprData) → Staying (expr at e)
  expr_stays at (integer n t) = pure_stays _
  expr_stays at (character c) = pure_stays _
  expr_stays at (string s) = pure_stays _
  expr_stays at (identifier x) = name_stays at x
  expr_stays at (unary Addr e) = chained (expr_stays at e) (λ o. address_stays at o)
  expr_stays at (unary Deref e) = unary_by at Deref (expr_stays at e)
  expr_stays at (unary Plus e) = unary_by at Plus (expr_stays at e)
  expr_stays at (unary Minus e) = unary_by at Minus (expr_stays at e)
  expr_stays at (unary Not e) = unary_by at Not (expr_stays at e)
  expr_stays at (unary Flip e) = unary_by at Flip (expr_stays at e)
  expr_stays at (binary op a b) = chained (valued at (expr_stays at a)) (λ x. chained (valued at (expr_stays at b)) (λ y. binary_stays at op x y))
  expr_stays at (assign None a b) = chained (expr_stays at a) (λ x. chained (valued at (expr_stays at b)) (λ y. assign_stays at x y))
  expr_stays at (assign (Some op) a b) = chained (expr_stays at a) (λ x. chained (valued at (expr_stays at b)) (λ y. compound_stays at op x y))
  expr_stays at (bump before up e) = chained (expr_stays at e) (λ o. bump_stays at o)
  expr_stays at (call f es) = asked _ _ (λ forms. chained (args_stay at forms es) (λ os. call_stays at f es os))
  expr_stays at (call_other f es) = chained (chosen (is_identifier f) (pure_stays _) (expr_stays at f)) (λ a. chained (args_stay at all_expressions es) (λ os. fault _ _ _))
  expr_stays at (index a b) = chained (valued at (expr_stays at a)) (λ x. chained (valued at (expr_stays at b)) (λ y. index_stays at x y))
  expr_stays at (member e m) = chained (expr_stays at e) (λ o. member_stays at o m)
  expr_stays at (arrow e m) = chained (valued at (expr_stays at e)) (λ o. arrow_stays at o m)
  expr_stays at (cast b stars e) = chained (base_stays at b) (λ t. chained (expr_stays at e) (λ o. cast_stays at _ o))
  expr_stays at (size_type b stars) = chained (base_stays at b) (λ t. size_stays at _)
  expr_stays at (size_expr e) = chained (expr_stays at e) (λ o. size_stays at o.type)

  pub args_stay : (at : Place) (forms : ArgumentsData) (es : ExprList) → Staying (args at forms es)
  args_stay at forms no_exprs = pure_stays _
  args_stay at forms (exprs e es) =
      chained (chosen (is_no_expression forms e) (pure_stays _) (valued at (expr_stays at e))) (λ o. chained (args_stay at _ es) (λ os. pure_stays _))

  pub base_stays : (at : Place) (b : BaseData) → Staying (base at b)
  base_stays at (words ws) = words_stay at _
  base_stays at varchar = pure_stays _
  base_stays at (tagged t) = tag_stays at t
  base_stays at (struct_base t ds) = chained (struct_stays at t) (λ k. chained (members_stay ds []) (λ ms. end_stays at t k ms))

  members_stay : (ds : DeclList) (ms : Members) → Staying (members ds ms)
  members_stay no_decls ms = pure_stays _
  members_stay (decls d ds) ms = chained (member_decl_stays d ms) (λ more. members_stay ds more)

  member_decl_stays : (d : DeclData) (ms : Members) → Staying (member_decl d ms)
  member_decl_stays (decl b items section line) ms = chained (place_stays line) (λ at. chained (base_stays at b) (λ t. items_stay at (is_varchar b) t items ms))

  items_stay : (at : Place) (v : Bool) (t : Option TyData) (ds : DeclaratorList) (ms : Members) → Staying (member_items at v t ds ms)
  items_stay at v t no_declarators ms = pure_stays _
  items_stay at v t (declarators d ds) ms = chained (item_stays at v t d ms) (λ more. items_stay at v t ds more)

  item_stays : (at : Place) (v : Bool) (t : Option TyData) (d : DeclaratorData) (ms : Members) → Staying (member_item at v t d ms)
  item_stays at false t (declarator stars name ns init) ms =
      chained (lengths_stay at ns) (λ sizes. chained (elements_stays at t stars sizes) (λ a. chained (demand_stays _ _ _) (λ b. chained (init_parts_stay at init) (λ c. named_stays at name _ ms))))
  item_stays at true t (declarator stars name ns init) ms =
      chained (last_stays at ns) (λ n. chained (varchar_member_stays at n) (λ own. chained (outer_stay at ns) (λ sizes. chained (elements_stays at own stars sizes) (λ a. chained (demand_stays _ _ _) (λ b. chained (init_parts_stay at init) (λ c. named_stays at name _ ms))))))

  pub lengths_stay : (at : Place) (ds : DimList) → Staying (lengths at ds)
  lengths_stay at no_dims = pure_stays _
  lengths_stay at (dims d ds) = chained (length_at_stays at d) (λ n. chained (lengths_stay at ds) (λ ns. pure_stays _))

  pub last_stays : (at : Place) (ds : DimList) → Staying (last_length at ds)
  last_stays at no_dims = pure_stays _
  last_stays at (dims d no_dims) = length_at_stays at d
  last_stays at (dims d (dims e ds)) = last_stays at (dims e ds)

  pub outer_stay : (at : Place) (ds : DimList) → Staying (outer_lengths at ds)
  outer_stay at no_dims = pure_stays _
  outer_stay at (dims d no_dims) = pure_stays _
  outer_stay at (dims d (dims e ds)) = chained (length_at_stays at d) (λ n. chained (outer_stay at (dims e ds)) (λ ns. pure_stays _))

  length_at_stays : (at : Place) (d : DimData) → Staying (length_at at d)
  length_at_stays at open_dim = pure_stays _
  length_at_stays at (dim e) = chained (valued at (expr_stays at e)) (λ o. length_stays at o)

  init_parts_stay : (at : Place) (i : InitOption) → Staying (init_parts at i)
  init_parts_stay at no_init = pure_stays _
  init_parts_stay at (some_init i) = init_exprs_stay at i

  init_exprs_stay : (at : Place) (i : InitData) → Staying (init_exprs at i)
  init_exprs_stay at (one e) = chained (valued at (expr_stays at e)) (λ o. pure_stays _)
  init_exprs_stay at (many is) = all_init_stay at is

  all_init_stay : (at : Place) (is : InitList) → Staying (all_init_exprs at is)
  all_init_stay at no_inits = pure_stays _
  all_init_stay at (inits i is) = chained (init_exprs_stay at i) (λ a. all_init_stay at is)
