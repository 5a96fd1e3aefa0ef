-- What is known grows by expressions, and by types and declarators in them.
use Rattle.std.proofs.Common.{◌≡◌, ℕ, Bool, true, false, [], ◌∷◌, refl, sym, ap, subst, ◌∙◌, Option, Some, None}
use Rattle.std.specs.Prelude.{option_map, slice_set}
use Rattle.ec_base.specs.declared.fault.FaultKind.TheVariants.{F10}
use Rattle.ec_base.specs.declared.fault.LimitKind.TheVariants.{L1}
use Rattle.ec_ctypes.specs.declared.tree.expr.UnOp.{UnOp}
use Rattle.ec_ctypes.specs.declared.tree.expr.UnOp.TheVariants.{Addr, Deref, Plus, Minus, Not, Flip}
use Rattle.ec_ctypes.specs.trees.Types.{TyData}
use Rattle.ec_ctypes.specs.trees.Exprs.{ExprData, integer, character, string, identifier, unary, binary, assign, bump, call, call_other, index, member, arrow, cast, size_type, size_expr, ExprList, no_exprs, exprs, BaseData, words, varchar, tagged, struct_base, DimData, open_dim, dim, DimList, no_dims, dims, InitData, one, many, InitList, no_inits, inits, InitOption, no_init, some_init, DeclaratorData, declarator, DeclaratorList, no_declarators, declarators, DeclData, decl, DeclList, no_decls, decls}
use Rattle.ec_language.specs.Letters.{Text}
use Rattle.ec_typing_defs.specs.Known.{ArgumentsData, all_expressions, is_identifier, is_no_expression}
use Rattle.ec_typing_defs.specs.Operands.{OperandData, value_rule, unary_rule}
use Rattle.ec_typing_defs.specs.Worlds.{Place, MembersData, unlisted, begun, listed, StructInfo, Rule, World, chain, pure, ask, change, note, set_struct, struct_named, members_of}
use Rattle.ec_typing_defs.specs.Expressions.{Members, type_or_fault, tag_type, tag_rule, tagged_struct, begin_again, begin_by, begin_struct, end_struct, member_named, is_varchar, varchar_struct, varchar_object, varchar_member, expr, args, base, members, member_decl, member_items, member_item, lengths, last_length, outer_lengths, length_at, init_parts, init_exprs, all_init_exprs}
use Rattle.ec_sim_world_laws.specs.growth.Growth.{is_unlisted, Grows}
use Rattle.ec_sim_world_laws.proofs.growth_lemmas.Rules.{Growing, begins_itself, begins_joined, set_elsewhere, grows_itself, chained, pure_grows, asked, fault, demand_grows, keep_grows, names_grow, place_grows, chosen, free_name_grows, new_struct_grows, close_grows, IsFree, GrowsBut, grows_behind, Beginning, growing_too, new_struct_begins, begins_then, asked_begins, noted_begins, begins_behind, keep_same, free_tag_same, struct_grows}
use Rattle.ec_sim_world_laws.proofs.growth_lemmas.Operands.{elements_grows, name_grows, value_grows, address_grows, unary_grows, binary_grows, index_grows, assign_grows, compound_grows, bump_grows, call_grows, member_grows, arrow_grows, cast_grows, size_grows, length_grows, within_grows, complete_grows}

-- ---- tags

type_grows : (at : Place) (k : Option ℕ) → Growing (tag_type at k)
type_grows at (Some k) = pure_grows _
type_grows at None = fault _ _ _

tag_grows : (at : Place) (t : Text) → Growing (tag_rule at t)
unfolding tag_rule
tag_grows at t = asked _ _ (λ k. type_grows at k)

-- ---- structs

tagged_begins : (t : Text) (ms : MembersData) → Beginning (tagged_struct t ms)
unfolding tagged_struct
tagged_begins t ms = begins_then (new_struct_begins _) (λ k. names_grow _ (λ w. refl))

pub tagged_grows : (t : Text) (ms : MembersData) → Growing (tagged_struct t ms)
tagged_grows t ms = growing_too (tagged_begins t ms)

-- a struct that is set to something else
set_but : (k : ℕ) (info : StructInfo) (w : World) → GrowsBut k w (record w { structs = slice_set w.structs k info })
set_but k info w = record {
  written = refl;
  defined = refl;
  types = begins_itself w.types;
  denoted = begins_itself w.denoted;
  closed = begins_itself w.closed;
  structs = λ j. set_elsewhere w.structs k j info;
}

unlisted_in : Option MembersData → Bool
unlisted_in None = true
unlisted_in (Some ms) = is_unlisted ms

is_free : (k : ℕ) (w : World) → members_of k w ≡ Some unlisted → IsFree w k
unfolding unlisted_in
is_free k w is info e = ap unlisted_in (sym (ap (option_map (λ s. s.members)) e) ∙ is)

-- the members of a struct that is unlisted so far begin
unlisted_begins : (at : Place) (t : Text) (k : ℕ) (w : World) → members_of k w ≡ Some unlisted → Grows w (begin_again at t k (Some unlisted) w).world × IsFree w (begin_again at t k (Some unlisted) w).answer
unfolding chain set_struct change pure
unlisted_begins at t k w is = (grows_behind k w w _ (is_free k w is) (grows_itself w) (set_but k (struct_named (Some t) begun) w), is_free k w is)

anew : (at : Place) (t : Text) → Beginning (chain (note at F10) (λ u. tagged_struct t begun))
anew at t = noted_begins at F10 (tagged_struct t begun) (tagged_begins t begun)

again_begins : (at : Place) (t : Text) (k : ℕ) (w : World) (ms : Option MembersData) → members_of k w ≡ ms → Grows w (begin_again at t k ms w).world × IsFree w (begin_again at t k ms w).answer
again_begins at t k w (Some unlisted) is = unlisted_begins at t k w is
again_begins at t k w (Some begun) is = (anew at t).begins w
again_begins at t k w (Some (listed ms)) is = (anew at t).begins w
again_begins at t k w None is = (anew at t).begins w

by_begins : (at : Place) (t : Text) (k : Option ℕ) → Beginning (begin_by at t k)
unfolding chain ask
by_begins at t None = tagged_begins t begun
by_begins at t (Some k) = record { begins = λ w. again_begins at t k w (members_of k w) refl }

struct_begins : (at : Place) (t : Option Text) → Beginning (begin_struct at t)
unfolding begin_struct
struct_begins at None = new_struct_begins _
struct_begins at (Some t) = begins_behind _ _ (free_tag_same at t) (λ u. asked_begins _ _ (λ k. by_begins at t k))

-- Its members are listed, and it is closed.
end_but : (at : Place) (t : Option Text) (k : ℕ) (ms : Members) (w : World) → GrowsBut k w (end_struct at t k ms w).world
unfolding end_struct chain ask set_struct change pure
end_but at t k ms w = subst (λ z. GrowsBut k w z) (sym (keep_same at L1 _ _)) (record {
  written = refl;
  defined = refl;
  types = begins_itself w.types;
  denoted = begins_itself w.denoted;
  closed = begins_joined w.closed (k ∷ []);
  structs = λ j. set_elsewhere w.structs k j _;
})

-- ---- members

words_grow : (at : Place) (t : Option TyData) → Growing (type_or_fault at t)
unfolding type_or_fault
words_grow at (Some t) = pure_grows _
words_grow at None = fault _ _ _

named_grows : (at : Place) (name : Text) (t : Option TyData) (ms : Members) → Growing (member_named at name t ms)
unfolding member_named
named_grows at name t ms = chained (within_grows at t) (λ a. chained (complete_grows at t) (λ b. chained (demand_grows _ _ _) (λ c. chained (free_name_grows at name) (λ d. pure_grows _))))

varchar_grows : (at : Place) (t : Option Text) (n : Option ℕ) → Growing (varchar_struct at t n)
unfolding varchar_struct
varchar_grows at t n = asked _ _ (λ info. chained (new_struct_grows _) (λ k. chained (close_grows k) (λ a. chained (keep_grows _ _ _) (λ b. pure_grows _))))

pub varchar_object_grows : (at : Place) (name : Text) (n : Option ℕ) → Growing (varchar_object at name n)
unfolding varchar_object
varchar_object_grows at name n = chained (varchar_grows at _ n) (λ k. asked _ _ (λ before. chained (names_grow _ (λ w. refl)) (λ a. chained (demand_grows _ _ _) (λ b. pure_grows _))))

varchar_member_grows : (at : Place) (n : Option ℕ) → Growing (varchar_member at n)
unfolding varchar_member
varchar_member_grows at n = chained (varchar_grows at _ n) (λ k. pure_grows _)

-- ---- the parts

pub valued : (at : Place) {m : Rule OperandData} → Growing m → Growing (chain m (value_rule at))
valued at h = chained h (λ o. value_grows at o)

unary_by : (at : Place) (op : UnOp) {m : Rule OperandData} → Growing m → Growing (chain (chain m (value_rule at)) (unary_rule at op))
unary_by at op h = chained (valued at h) (λ o. unary_grows at op o)

mutual
  pub expr_grows : (at : Place) (e : ExprData) → Growing (expr at e)
  expr_grows at (integer n t) = pure_grows _
  expr_grows at (character c) = pure_grows _
  expr_grows at (string s) = pure_grows _
  expr_grows at (identifier x) = name_grows at x
  expr_grows at (unary Addr e) = chained (expr_grows at e) (λ o. address_grows at o)
  expr_grows at (unary Deref e) = unary_by at Deref (expr_grows at e)
  expr_grows at (unary Plus e) = unary_by at Plus (expr_grows at e)
  expr_grows at (unary Minus e) = unary_by at Minus (expr_grows at e)
  expr_grows at (unary Not e) = unary_by at Not (expr_grows at e)
  expr_grows at (unary Flip e) = unary_by at Flip (expr_grows at e)
  expr_grows at (binary op a b) = chained (valued at (expr_grows at a)) (λ x. chained (valued at (expr_grows at b)) (λ y. binary_grows at op x y))
  expr_grows at (assign None a b) = chained (expr_grows at a) (λ x. chained (valued at (expr_grows at b)) (λ y. assign_grows at x y))
  expr_grows at (assign (Some op) a b) = chained (expr_grows at a) (λ x. chained (valued at (expr_grows at b)) (λ y. compound_grows at op x y))
  expr_grows at (bump before up e) = chained (expr_grows at e) (λ o. bump_grows at o)
  expr_grows at (call f es) = asked _ _ (λ forms. chained (args_grow at forms es) (λ os. call_grows at f es os))
  expr_grows at (call_other f es) = chained (chosen (is_identifier f) (pure_grows _) (expr_grows at f)) (λ a. chained (args_grow at all_expressions es) (λ os. fault _ _ _))
  expr_grows at (index a b) = chained (valued at (expr_grows at a)) (λ x. chained (valued at (expr_grows at b)) (λ y. index_grows at x y))
  expr_grows at (member e m) = chained (expr_grows at e) (λ o. member_grows at o m)
  expr_grows at (arrow e m) = chained (valued at (expr_grows at e)) (λ o. arrow_grows at o m)
  expr_grows at (cast b stars e) = chained (base_grows at b) (λ t. chained (expr_grows at e) (λ o. cast_grows at _ o))
  expr_grows at (size_type b stars) = chained (base_grows at b) (λ t. size_grows at _)
  expr_grows at (size_expr e) = chained (expr_grows at e) (λ o. size_grows at o.type)

  pub args_grow : (at : Place) (forms : ArgumentsData) (es : ExprList) → Growing (args at forms es)
  args_grow at forms no_exprs = pure_grows _
  args_grow at forms (exprs e es) =
      chained (chosen (is_no_expression forms e) (pure_grows _) (valued at (expr_grows at e))) (λ o. chained (args_grow at _ es) (λ os. pure_grows _))

  pub base_grows : (at : Place) (b : BaseData) → Growing (base at b)
  base_grows at (words ws) = words_grow at _
  base_grows at varchar = pure_grows _
  base_grows at (tagged t) = tag_grows at t
  base_grows at (struct_base t ds) = struct_grows _ _ _ (struct_begins at t) (λ k. members_grow ds []) (λ k ms w. end_but at t k ms w)

  members_grow : (ds : DeclList) (ms : Members) → Growing (members ds ms)
  members_grow no_decls ms = pure_grows _
  members_grow (decls d ds) ms = chained (member_decl_grows d ms) (λ more. members_grow ds more)

  member_decl_grows : (d : DeclData) (ms : Members) → Growing (member_decl d ms)
  member_decl_grows (decl b items section line) ms = chained (place_grows line) (λ at. chained (base_grows at b) (λ t. items_grow at (is_varchar b) t items ms))

  items_grow : (at : Place) (v : Bool) (t : Option TyData) (ds : DeclaratorList) (ms : Members) → Growing (member_items at v t ds ms)
  items_grow at v t no_declarators ms = pure_grows _
  items_grow at v t (declarators d ds) ms = chained (item_grows at v t d ms) (λ more. items_grow at v t ds more)

  item_grows : (at : Place) (v : Bool) (t : Option TyData) (d : DeclaratorData) (ms : Members) → Growing (member_item at v t d ms)
  item_grows at false t (declarator stars name ns init) ms =
      chained (lengths_grow at ns) (λ sizes. chained (elements_grows at t stars sizes) (λ a. chained (demand_grows _ _ _) (λ b. chained (init_parts_grow at init) (λ c. named_grows at name _ ms))))
  item_grows at true t (declarator stars name ns init) ms =
      chained (last_grows at ns) (λ n. chained (varchar_member_grows at n) (λ own. chained (outer_grow at ns) (λ sizes. chained (elements_grows at own stars sizes) (λ a. chained (demand_grows _ _ _) (λ b. chained (init_parts_grow at init) (λ c. named_grows at name _ ms))))))

  pub lengths_grow : (at : Place) (ds : DimList) → Growing (lengths at ds)
  lengths_grow at no_dims = pure_grows _
  lengths_grow at (dims d ds) = chained (length_at_grows at d) (λ n. chained (lengths_grow at ds) (λ ns. pure_grows _))

  pub last_grows : (at : Place) (ds : DimList) → Growing (last_length at ds)
  last_grows at no_dims = pure_grows _
  last_grows at (dims d no_dims) = length_at_grows at d
  last_grows at (dims d (dims e ds)) = last_grows at (dims e ds)

  pub outer_grow : (at : Place) (ds : DimList) → Growing (outer_lengths at ds)
  outer_grow at no_dims = pure_grows _
  outer_grow at (dims d no_dims) = pure_grows _
  outer_grow at (dims d (dims e ds)) = chained (length_at_grows at d) (λ n. chained (outer_grow at (dims e ds)) (λ ns. pure_grows _))

  length_at_grows : (at : Place) (d : DimData) → Growing (length_at at d)
  length_at_grows at open_dim = pure_grows _
  length_at_grows at (dim e) = chained (valued at (expr_grows at e)) (λ o. length_grows at o)

  init_parts_grow : (at : Place) (i : InitOption) → Growing (init_parts at i)
  init_parts_grow at no_init = pure_grows _
  init_parts_grow at (some_init i) = init_exprs_grow at i

  init_exprs_grow : (at : Place) (i : InitData) → Growing (init_exprs at i)
  init_exprs_grow at (one e) = chained (valued at (expr_grows at e)) (λ o. pure_grows _)
  init_exprs_grow at (many is) = all_init_grow at is

  all_init_grow : (at : Place) (is : InitList) → Growing (all_init_exprs at is)
  all_init_grow at no_inits = pure_grows _
  all_init_grow at (inits i is) = chained (init_exprs_grow at i) (λ a. all_init_grow at is)
