-- Nothing is denoted by expressions, and by types and declarators in them.
use Rattle.std.proofs.Common.{ℕ, Bool, true, false, [], refl, Option, Some, None}
use Rattle.ec_base.specs.declared.fault.FaultKind.TheVariants.{F10}
use Rattle.ec_ctypes.specs.declared.tree.expr.UnOp.{UnOp}
use Rattle.ec_ctypes.specs.declared.tree.expr.UnOp.TheVariants.{Addr, Deref, Plus, Minus, Not, Flip}
use Rattle.ec_ctypes.specs.trees.Types.{TyData}
use Rattle.ec_ctypes.specs.trees.Exprs.{ExprData, integer, character, string, identifier, unary, binary, assign, bump, call, call_other, index, member, arrow, cast, size_type, size_expr, ExprList, no_exprs, exprs, BaseData, words, varchar, tagged, struct_base, DimData, open_dim, dim, DimList, no_dims, dims, InitData, one, many, InitList, no_inits, inits, InitOption, no_init, some_init, DeclaratorData, declarator, DeclaratorList, no_declarators, declarators, DeclData, decl, DeclList, no_decls, decls}
use Rattle.ec_language.specs.Letters.{Text}
use Rattle.ec_typing_defs.specs.Known.{ArgumentsData, all_expressions, is_identifier, is_no_expression}
use Rattle.ec_typing_defs.specs.Operands.{OperandData, value_rule, unary_rule}
use Rattle.ec_typing_defs.specs.Worlds.{Place, MembersData, unlisted, begun, listed, StructInfo, Rule, chain, set_struct}
use Rattle.ec_typing_defs.specs.Expressions.{Members, type_or_fault, tag_type, tag_rule, tagged_struct, begin_again, begin_by, begin_struct, end_struct, member_named, is_varchar, varchar_struct, varchar_object, varchar_member, expr, args, base, members, member_decl, member_items, member_item, lengths, last_length, outer_lengths, length_at, init_parts, init_exprs, all_init_exprs}
use Rattle.ec_sim_program_laws.proofs.program_lemmas.DenotingRules.{DenotesNone, chained, pure_denotes, asked, noted, fault, demand_denotes, keep_denotes, changed, place_denotes, chosen, free_name_denotes, free_tag_denotes, new_struct_denotes, close_denotes}
use Rattle.ec_sim_program_laws.proofs.program_lemmas.DenotingOperands.{elements_denotes, name_denotes, value_denotes, address_denotes, unary_denotes, binary_denotes, index_denotes, assign_denotes, compound_denotes, bump_denotes, call_denotes, member_denotes, arrow_denotes, cast_denotes, size_denotes, length_denotes, within_denotes, complete_denotes}

-- ---- tags

type_denotes : (at : Place) (k : Option ℕ) → DenotesNone (tag_type at k)
type_denotes at (Some k) = pure_denotes _
type_denotes at None = fault _ _ _

tag_denotes : (at : Place) (t : Text) → DenotesNone (tag_rule at t)
unfolding tag_rule
tag_denotes at t = asked _ _ (λ k. type_denotes at k)

-- ---- structs

pub tagged_denotes : (t : Text) (ms : MembersData) → DenotesNone (tagged_struct t ms)
unfolding tagged_struct
tagged_denotes t ms = chained (new_struct_denotes _) (λ k. chained (changed _ (λ w. refl)) (λ a. pure_denotes _))

set_struct_denotes : (k : ℕ) (info : StructInfo) → DenotesNone (set_struct k info)
unfolding set_struct
set_struct_denotes k info = changed _ (λ w. refl)

again_denotes : (at : Place) (t : Text) (k : ℕ) (ms : Option MembersData) → DenotesNone (begin_again at t k ms)
again_denotes at t k (Some unlisted) = chained (set_struct_denotes k _) (λ a. pure_denotes _)
again_denotes at t k (Some begun) = noted at F10 _ (tagged_denotes t begun)
again_denotes at t k (Some (listed ms)) = noted at F10 _ (tagged_denotes t begun)
again_denotes at t k None = noted at F10 _ (tagged_denotes t begun)

begin_by_denotes : (at : Place) (t : Text) (k : Option ℕ) → DenotesNone (begin_by at t k)
begin_by_denotes at t None = tagged_denotes t begun
begin_by_denotes at t (Some k) = asked _ _ (λ ms. again_denotes at t k ms)

struct_denotes : (at : Place) (t : Option Text) → DenotesNone (begin_struct at t)
unfolding begin_struct
struct_denotes at None = new_struct_denotes _
struct_denotes at (Some t) = chained (free_tag_denotes at t) (λ u. asked _ _ (λ k. begin_by_denotes at t k))

end_denotes : (at : Place) (t : Option Text) (k : ℕ) (ms : Members) → DenotesNone (end_struct at t k ms)
unfolding end_struct
end_denotes at t k ms = asked _ _ (λ shape. asked _ _ (λ info. chained (set_struct_denotes k info) (λ a. chained (close_denotes k) (λ b. chained (keep_denotes _ _ _) (λ c. pure_denotes _)))))

-- ---- members

words_denote : (at : Place) (t : Option TyData) → DenotesNone (type_or_fault at t)
unfolding type_or_fault
words_denote at (Some t) = pure_denotes _
words_denote at None = fault _ _ _

named_denotes : (at : Place) (name : Text) (t : Option TyData) (ms : Members) → DenotesNone (member_named at name t ms)
unfolding member_named
named_denotes at name t ms = chained (within_denotes at t) (λ a. chained (complete_denotes at t) (λ b. chained (demand_denotes _ _ _) (λ c. chained (free_name_denotes at name) (λ d. pure_denotes _))))

varchar_denotes : (at : Place) (t : Option Text) (n : Option ℕ) → DenotesNone (varchar_struct at t n)
unfolding varchar_struct
varchar_denotes at t n = asked _ _ (λ info. chained (new_struct_denotes _) (λ k. chained (close_denotes k) (λ a. chained (keep_denotes _ _ _) (λ b. pure_denotes _))))

pub varchar_object_denotes : (at : Place) (name : Text) (n : Option ℕ) → DenotesNone (varchar_object at name n)
unfolding varchar_object
varchar_object_denotes at name n = chained (varchar_denotes at _ n) (λ k. asked _ _ (λ before. chained (changed _ (λ w. refl)) (λ a. chained (demand_denotes _ _ _) (λ b. pure_denotes _))))

varchar_member_denotes : (at : Place) (n : Option ℕ) → DenotesNone (varchar_member at n)
unfolding varchar_member
varchar_member_denotes at n = chained (varchar_denotes at _ n) (λ k. pure_denotes _)

-- ---- the parts

pub valued : (at : Place) {m : Rule OperandData} → DenotesNone m → DenotesNone (chain m (value_rule at))
valued at h = chained h (λ o. value_denotes at o)

unary_by : (at : Place) (op : UnOp) {m : Rule OperandData} → DenotesNone m → DenotesNone (chain (chain m (value_rule at)) (unary_rule at op))
unary_by at op h = chained (valued at h) (λ o. unary_denotes at op o)

mutual
  pub expr_denotes : (at : Place) (e : ExprData) → DenotesNone (expr at e)
  expr_denotes at (integer n t) = pure_denotes _
  expr_denotes at (character c) = pure_denotes _
  expr_denotes at (string s) = pure_denotes _
  expr_denotes at (identifier x) = name_denotes at x
  expr_denotes at (unary Addr e) = chained (expr_denotes at e) (λ o. address_denotes at o)
  expr_denotes at (unary Deref e) = unary_by at Deref (expr_denotes at e)
  expr_denotes at (unary Plus e) = unary_by at Plus (expr_denotes at e)
  expr_denotes at (unary Minus e) = unary_by at Minus (expr_denotes at e)
  expr_denotes at (unary Not e) = unary_by at Not (expr_denotes at e)
  expr_denotes at (unary Flip e) = unary_by at Flip (expr_denotes at e)
  expr_denotes at (binary op a b) = chained (valued at (expr_denotes at a)) (λ x. chained (valued at (expr_denotes at b)) (λ y. binary_denotes at op x y))
  expr_denotes at (assign None a b) = chained (expr_denotes at a) (λ x. chained (valued at (expr_denotes at b)) (λ y. assign_denotes at x y))
  expr_denotes at (assign (Some op) a b) = chained (expr_denotes at a) (λ x. chained (valued at (expr_denotes at b)) (λ y. compound_denotes at op x y))
  expr_denotes at (bump before up e) = chained (expr_denotes at e) (λ o. bump_denotes at o)
  expr_denotes at (call f es) = asked _ _ (λ forms. chained (args_denote at forms es) (λ os. call_denotes at f es os))
  expr_denotes at (call_other f es) = chained (chosen (is_identifier f) (pure_denotes _) (expr_denotes at f)) (λ a. chained (args_denote at all_expressions es) (λ os. fault _ _ _))
  expr_denotes at (index a b) = chained (valued at (expr_denotes at a)) (λ x. chained (valued at (expr_denotes at b)) (λ y. index_denotes at x y))
  expr_denotes at (member e m) = chained (expr_denotes at e) (λ o. member_denotes at o m)
  expr_denotes at (arrow e m) = chained (valued at (expr_denotes at e)) (λ o. arrow_denotes at o m)
  expr_denotes at (cast b stars e) = chained (base_denotes at b) (λ t. chained (expr_denotes at e) (λ o. cast_denotes at _ o))
  expr_denotes at (size_type b stars) = chained (base_denotes at b) (λ t. size_denotes at _)
  expr_denotes at (size_expr e) = chained (expr_denotes at e) (λ o. size_denotes at o.type)

  pub args_denote : (at : Place) (forms : ArgumentsData) (es : ExprList) → DenotesNone (args at forms es)
  args_denote at forms no_exprs = pure_denotes _
  args_denote at forms (exprs e es) =
      chained (chosen (is_no_expression forms e) (pure_denotes _) (valued at (expr_denotes at e))) (λ o. chained (args_denote at _ es) (λ os. pure_denotes _))

  pub base_denotes : (at : Place) (b : BaseData) → DenotesNone (base at b)
  base_denotes at (words ws) = words_denote at _
  base_denotes at varchar = pure_denotes _
  base_denotes at (tagged t) = tag_denotes at t
  base_denotes at (struct_base t ds) = chained (struct_denotes at t) (λ k. chained (members_denote ds []) (λ ms. end_denotes at t k ms))

  members_denote : (ds : DeclList) (ms : Members) → DenotesNone (members ds ms)
  members_denote no_decls ms = pure_denotes _
  members_denote (decls d ds) ms = chained (member_decl_denotes d ms) (λ more. members_denote ds more)

  member_decl_denotes : (d : DeclData) (ms : Members) → DenotesNone (member_decl d ms)
  member_decl_denotes (decl b items section line) ms = chained (place_denotes line) (λ at. chained (base_denotes at b) (λ t. items_denote at (is_varchar b) t items ms))

  items_denote : (at : Place) (v : Bool) (t : Option TyData) (ds : DeclaratorList) (ms : Members) → DenotesNone (member_items at v t ds ms)
  items_denote at v t no_declarators ms = pure_denotes _
  items_denote at v t (declarators d ds) ms = chained (item_denotes at v t d ms) (λ more. items_denote at v t ds more)

  item_denotes : (at : Place) (v : Bool) (t : Option TyData) (d : DeclaratorData) (ms : Members) → DenotesNone (member_item at v t d ms)
  item_denotes at false t (declarator stars name ns init) ms =
      chained (lengths_denote at ns) (λ sizes. chained (elements_denotes at t stars sizes) (λ a. chained (demand_denotes _ _ _) (λ b. chained (init_parts_denote at init) (λ c. named_denotes at name _ ms))))
  item_denotes at true t (declarator stars name ns init) ms =
      chained (last_denotes at ns) (λ n. chained (varchar_member_denotes at n) (λ own. chained (outer_denote at ns) (λ sizes. chained (elements_denotes at own stars sizes) (λ a. chained (demand_denotes _ _ _) (λ b. chained (init_parts_denote at init) (λ c. named_denotes at name _ ms))))))

  pub lengths_denote : (at : Place) (ds : DimList) → DenotesNone (lengths at ds)
  lengths_denote at no_dims = pure_denotes _
  lengths_denote at (dims d ds) = chained (length_at_denotes at d) (λ n. chained (lengths_denote at ds) (λ ns. pure_denotes _))

  pub last_denotes : (at : Place) (ds : DimList) → DenotesNone (last_length at ds)
  last_denotes at no_dims = pure_denotes _
  last_denotes at (dims d no_dims) = length_at_denotes at d
  last_denotes at (dims d (dims e ds)) = last_denotes at (dims e ds)

  pub outer_denote : (at : Place) (ds : DimList) → DenotesNone (outer_lengths at ds)
  outer_denote at no_dims = pure_denotes _
  outer_denote at (dims d no_dims) = pure_denotes _
  outer_denote at (dims d (dims e ds)) = chained (length_at_denotes at d) (λ n. chained (outer_denote at (dims e ds)) (λ ns. pure_denotes _))

  length_at_denotes : (at : Place) (d : DimData) → DenotesNone (length_at at d)
  length_at_denotes at open_dim = pure_denotes _
  length_at_denotes at (dim e) = chained (valued at (expr_denotes at e)) (λ o. length_denotes at o)

  init_parts_denote : (at : Place) (i : InitOption) → DenotesNone (init_parts at i)
  init_parts_denote at no_init = pure_denotes _
  init_parts_denote at (some_init i) = init_exprs_denote at i

  init_exprs_denote : (at : Place) (i : InitData) → DenotesNone (init_exprs at i)
  init_exprs_denote at (one e) = chained (valued at (expr_denotes at e)) (λ o. pure_denotes _)
  init_exprs_denote at (many is) = all_init_denote at is

  all_init_denote : (at : Place) (is : InitList) → DenotesNone (all_init_exprs at is)
  all_init_denote at no_inits = pure_denotes _
  all_init_denote at (inits i is) = chained (init_exprs_denote at i) (λ a. all_init_denote at is)
