-- Structs stay closed in their order by expressions, and by types and declarators in them.
use Rattle.std.proofs.Common.{◌≡◌, ◌⊎◌, inl, inr, ℕ, zero, suc, Bool, true, false, not, List, [], ◌∷◌, refl, sym, ap, subst, ◌∙◌, Option, Some, None}
use Rattle.std.specs.Prelude.{is_some, option_map, slice_get, slice_set}
use Rattle.ec_base.specs.declared.fault.FaultKind.TheVariants.{F10, F14}
use Rattle.ec_base.specs.declared.fault.LimitKind.TheVariants.{L1}
use Rattle.ec_ctypes.specs.declared.tree.expr.UnOp.{UnOp}
use Rattle.ec_ctypes.specs.declared.tree.expr.UnOp.TheVariants.{Addr, Deref, Plus, Minus, Not, Flip}
use Rattle.ec_ctypes.specs.trees.Types.{TyData}
use Rattle.ec_ctypes.specs.trees.Exprs.{ExprData, integer, character, string, identifier, unary, binary, assign, bump, call, call_other, index, member, arrow, cast, size_type, size_expr, ExprList, no_exprs, exprs, BaseData, words, varchar, tagged, struct_base, DimData, open_dim, dim, DimList, no_dims, dims, InitData, one, many, InitList, no_inits, inits, InitOption, no_init, some_init, DeclaratorData, declarator, DeclaratorList, no_declarators, declarators, DeclData, decl, DeclList, no_decls, decls}
use Rattle.ec_language.specs.Letters.{Text}
use Rattle.ec_typing_defs.specs.Tables.{find, put}
use Rattle.ec_typing_defs.specs.Known.{ArgumentsData, all_expressions, is_identifier, is_no_expression}
use Rattle.ec_typing_defs.specs.Operands.{OperandData, value_rule, unary_rule, complete_rule}
use Rattle.ec_typing_defs.specs.Worlds.{Place, MembersData, unlisted, begun, listed, StructInfo, Rule, World, chain, pure, ask, change, note, demand, free_name, new_struct, set_struct, struct_named, members_of, is_complete}
use Rattle.ec_typing_defs.specs.Expressions.{Members, varchar_members, capacity, varchar_info, type_or_fault, tag_type, tag_rule, tagged_struct, begin_again, begin_by, begin_struct, end_struct, member_named, is_varchar, varchar_struct, varchar_object, varchar_member, expr, args, base, members, member_decl, member_items, member_item, lengths, last_length, outer_lengths, length_at, init_parts, init_exprs, all_init_exprs}
use Rattle.ec_sim_world_laws.specs.place.Structs.{EachStructIn, IsAmong}
use Rattle.ec_sim_world_laws.specs.closing.Closing.{IsSizedIn, members_at, AreInTheirOrder}
use Rattle.ec_sim_world_laws.proofs.closing_lemmas.Lists.{false_not, set_elsewhere, set_here, among_front}
use Rattle.ec_sim_world_laws.proofs.closing_lemmas.Names.{put_distinct, put_inside, put_sized}
use Rattle.ec_sim_world_laws.proofs.closing_lemmas.Orders.{each_struct_in, complete_structs, complete_sized}
use Rattle.ec_sim_world_laws.proofs.closing_lemmas.Rules.{Kept, Keeping, chained, pure_keeps, asked, fault, demand_keeps, names_keep, place_keeps, chosen, free_name_keeps, keep_same, free_tag_same, there, begun_front, Good, good_further, new_in_order, set_begun, set_closed, is_begun, Begins, Beginning, new_struct_keeps, new_struct_begins, begins_then, asked_begins, noted_begins, begins_behind, Gathered, Gathering, pure_gathers, gathers_behind, gathers_more, struct_keeps}
use Rattle.ec_sim_world_laws.proofs.closing_lemmas.Operands.{elements_keeps, name_keeps, value_keeps, address_keeps, unary_keeps, binary_keeps, index_keeps, assign_keeps, compound_keeps, bump_keeps, call_keeps, member_keeps, arrow_keeps, cast_keeps, size_keeps, length_keeps, within_keeps}

-- ---- tags

type_keeps : (at : Place) (k : Option ℕ) → Keeping (tag_type at k)
type_keeps at (Some k) = pure_keeps _
type_keeps at None = fault _ _ _

tag_keeps : (at : Place) (t : Text) → Keeping (tag_rule at t)
unfolding tag_rule
tag_keeps at t = asked _ _ (λ k. type_keeps at k)

-- ---- structs

tagged_begins : (t : Text) → Beginning (tagged_struct t begun)
unfolding tagged_struct
tagged_begins t = begins_then (new_struct_begins _ refl) (λ k. names_keep _ (λ w. refl))

-- a tag alone
pub tagged_keeps : (t : Text) → Keeping (tagged_struct t unlisted)
unfolding tagged_struct
tagged_keeps t = chained (new_struct_keeps _ refl) (λ k. chained (names_keep _ (λ w. refl)) (λ a. pure_keeps _))

-- the members of a struct that is unlisted so far begin
unlisted_begins : (at : Place) (t : Text) (k : ℕ) (w : World) → members_of k w ≡ Some unlisted → AreInTheirOrder w → Begins w (begin_again at t k (Some unlisted) w).world (begin_again at t k (Some unlisted) w).answer
unfolding chain set_struct change pure is_begun
unlisted_begins at t k w is order = record {
  kept = record {
    order = set_begun w.structs w.closed k (struct_named (Some t) begun) refl is order;
    being = λ j e. go j e (set_elsewhere w.structs k j (struct_named (Some t) begun));
    among = λ j e. e;
  };
  now = now;
  before = ap is_begun is;
}
  where
    now : members_at (slice_set w.structs k (struct_named (Some t) begun)) k ≡ Some begun
    now = ap (option_map (λ s. s.members)) (set_here w.structs k (struct_named (Some t) begun) (there w.structs k unlisted is).is)

    go : (j : ℕ) → members_at w.structs j ≡ Some begun → (slice_get (slice_set w.structs k (struct_named (Some t) begun)) j ≡ slice_get w.structs j) ⊎ (j ≡ k)
        → members_at (slice_set w.structs k (struct_named (Some t) begun)) j ≡ Some begun
    go j e (inl same) = ap (option_map (λ s. s.members)) same ∙ e
    go j e (inr here) = ap (λ i. members_at (slice_set w.structs k (struct_named (Some t) begun)) i) here ∙ now

anew : (at : Place) (t : Text) → Beginning (chain (note at F10) (λ u. tagged_struct t begun))
anew at t = noted_begins at F10 (tagged_struct t begun) (tagged_begins t)

again_begins : (at : Place) (t : Text) (k : ℕ) (w : World) (ms : Option MembersData) → members_of k w ≡ ms → AreInTheirOrder w → Begins w (begin_again at t k ms w).world (begin_again at t k ms w).answer
again_begins at t k w (Some unlisted) is order = unlisted_begins at t k w is order
again_begins at t k w (Some begun) is order = (anew at t).begins w order
again_begins at t k w (Some (listed ms)) is order = (anew at t).begins w order
again_begins at t k w None is order = (anew at t).begins w order

by_begins : (at : Place) (t : Text) (k : Option ℕ) → Beginning (begin_by at t k)
unfolding chain ask
by_begins at t None = tagged_begins t
by_begins at t (Some k) = record { begins = λ w order. again_begins at t k w (members_of k w) refl order }

struct_begins : (at : Place) (t : Option Text) → Beginning (begin_struct at t)
unfolding begin_struct
struct_begins at None = new_struct_begins _ refl
struct_begins at (Some t) = begins_behind _ _ (free_tag_same at t) (λ u. asked_begins _ _ (λ k. by_begins at t k))

-- Its members are listed, and it is closed.
end_kept : (at : Place) (t : Option Text) (k : ℕ) (ms : Members) (w y : World) → is_begun (members_at w.structs k) ≡ false → members_at y.structs k ≡ Some begun
    → Kept w y → Good y.closed ms → Kept w (end_struct at t k ms y).world
unfolding end_struct chain ask set_struct change pure is_begun
end_kept at t k ms w y before now p good = subst (λ z. Kept w z) (sym (keep_same at L1 _ _)) (record {
  order = set_closed y.structs y.closed k _ ms now p.order good refl refl;
  being = λ j e. go _ j e (set_elsewhere y.structs k j _);
  among = λ j e. among_front y.closed (k ∷ []) j (p.among j e);
})
  where
    go : (info : StructInfo) (j : ℕ) → members_at w.structs j ≡ Some begun → (slice_get (slice_set y.structs k info) j ≡ slice_get y.structs j) ⊎ (j ≡ k)
        → members_at (slice_set y.structs k info) j ≡ Some begun
    go info j e (inl same) = ap (option_map (λ s. s.members)) same ∙ p.being j e
    go info j e (inr is) = false_not (sym before ∙ ap is_begun (ap (λ i. members_at w.structs i) (sym is) ∙ e))

-- ---- members

words_keep : (at : Place) (t : Option TyData) → Keeping (type_or_fault at t)
unfolding type_or_fault
words_keep at (Some t) = pure_keeps _
words_keep at None = fault _ _ _

-- Behind the test of a member's type, structs that are closed lie in it, if it has one.
completed : (at : Place) (ms : Members) (t : Option TyData) (f : Option TyData → Rule Members)
    → ((s : Option TyData) (w : World) → AreInTheirOrder w → EachStructIn (IsAmong w.closed) s → IsSizedIn s → Good w.closed ms → Gathered w (f s w).world (f s w).answer)
    → Gathering ms (chain (complete_rule at t) f)
unfolding chain complete_rule pure ask note
completed at ms None f h = record { gathers = λ w order good. h None w order tt tt good }
completed at ms (Some t) f h = record { gathers = λ w order good. by_test w order good (is_complete w t) refl }
  where
    by_test : (w : World) → AreInTheirOrder w → Good w.closed ms → (b : Bool) → is_complete w t ≡ b
        → Gathered w (chain (elim b [ true ↦ pure (Some t) | false ↦ chain (note at F14) (λ u. pure None) ]) f w).world (chain (elim b [ true ↦ pure (Some t) | false ↦ chain (note at F14) (λ u. pure None) ]) f w).answer
    by_test w order good true e = h (Some t) w order (complete_structs w (IsAmong w.closed) order.listed t e) (complete_sized w t e) good
    by_test w order good false e = h None w order tt tt good

added : (at : Place) (name : Text) (ms : Members) (t : Option TyData) (w z : World) → EachStructIn (IsAmong w.closed) t → IsSizedIn t → Good w.closed ms → Kept w z → Gathered w z (put name t ms)
added at name ms t w z inside sized good kept = record {
  kept = kept;
  good = record {
    distinct = put_distinct name t ms good.distinct;
    sized = put_sized name t ms sized good.sized;
    inside = put_inside (IsAmong z.closed) name t ms (each_struct_in (IsAmong w.closed) (IsAmong z.closed) kept.among t inside) (good_further w z ms kept good).inside;
  };
}

free_keeps : (at : Place) (name : Text) (ms : Members) (b : Bool) → Keeping (chain (demand at F10 b) (λ u. chain (free_name at name) (λ v. pure ms)))
free_keeps at name ms b = chained (demand_keeps at F10 b) (λ u. chained (free_name_keeps at name) (λ v. pure_keeps ms))

named_gathers : (at : Place) (name : Text) (t : Option TyData) (ms : Members) → Gathering ms (member_named at name t ms)
unfolding member_named chain pure
named_gathers at name t ms = gathers_behind (within_keeps at t) (λ a. completed at ms t (λ s. chain (demand at F10 (not (is_some (find name ms)))) (λ u. chain (free_name at name) (λ v. pure (put name s ms)))) (λ s w order inside sized good. added at name ms s w _ inside sized good ((free_keeps at name (put name s ms) (not (is_some (find name ms)))).keeps w order)))

-- ---- VARCHAR

varchar_good : (closed : List ℕ) (n : Option ℕ) → Good closed (varchar_members (capacity n))
varchar_good closed None = record { distinct = (refl, (refl, tt)); sized = (tt, (tt, tt)); inside = (tt, (tt, tt)) }
varchar_good closed (Some zero) = record { distinct = (refl, (refl, tt)); sized = (tt, (tt, tt)); inside = (tt, (tt, tt)) }
varchar_good closed (Some (suc n)) = record { distinct = (refl, (refl, tt)); sized = (tt, (tt, tt)); inside = (tt, (tt, tt)) }

varchar_keeps : (at : Place) (t : Option Text) (n : Option ℕ) → Keeping (varchar_struct at t n)
unfolding varchar_struct chain ask new_struct change pure
varchar_keeps at t n = record {
  keeps = λ w order. subst (λ z. Kept w z) (sym (keep_same at L1 _ _)) (record {
    order = new_in_order w.structs w.closed (varchar_info t (capacity n) w) (varchar_members (capacity n)) order (varchar_good w.closed n) refl refl;
    being = λ j e. begun_front w.structs _ j e;
    among = λ j e. among_front w.closed _ j e;
  });
}

pub varchar_object_keeps : (at : Place) (name : Text) (n : Option ℕ) → Keeping (varchar_object at name n)
unfolding varchar_object
varchar_object_keeps at name n = chained (varchar_keeps at _ n) (λ k. asked _ _ (λ before. chained (names_keep _ (λ w. refl)) (λ a. chained (demand_keeps _ _ _) (λ b. pure_keeps _))))

varchar_member_keeps : (at : Place) (n : Option ℕ) → Keeping (varchar_member at n)
unfolding varchar_member
varchar_member_keeps at n = chained (varchar_keeps at _ n) (λ k. pure_keeps _)

-- ---- the parts

pub valued : (at : Place) {m : Rule OperandData} → Keeping m → Keeping (chain m (value_rule at))
valued at h = chained h (λ o. value_keeps at o)

unary_by : (at : Place) (op : UnOp) {m : Rule OperandData} → Keeping m → Keeping (chain (chain m (value_rule at)) (unary_rule at op))
unary_by at op h = chained (valued at h) (λ o. unary_keeps at op o)

mutual
  pub expr_keeps : (at : Place) (e : ExprData) → Keeping (expr at e)
  expr_keeps at (integer n t) = pure_keeps _
  expr_keeps at (character c) = pure_keeps _
  expr_keeps at (string s) = pure_keeps _
  expr_keeps at (identifier x) = name_keeps at x
  expr_keeps at (unary Addr e) = chained (expr_keeps at e) (λ o. address_keeps at o)
  expr_keeps at (unary Deref e) = unary_by at Deref (expr_keeps at e)
  expr_keeps at (unary Plus e) = unary_by at Plus (expr_keeps at e)
  expr_keeps at (unary Minus e) = unary_by at Minus (expr_keeps at e)
  expr_keeps at (unary Not e) = unary_by at Not (expr_keeps at e)
  expr_keeps at (unary Flip e) = unary_by at Flip (expr_keeps at e)
  expr_keeps at (binary op a b) = chained (valued at (expr_keeps at a)) (λ x. chained (valued at (expr_keeps at b)) (λ y. binary_keeps at op x y))
  expr_keeps at (assign None a b) = chained (expr_keeps at a) (λ x. chained (valued at (expr_keeps at b)) (λ y. assign_keeps at x y))
  expr_keeps at (assign (Some op) a b) = chained (expr_keeps at a) (λ x. chained (valued at (expr_keeps at b)) (λ y. compound_keeps at op x y))
  expr_keeps at (bump before up e) = chained (expr_keeps at e) (λ o. bump_keeps at o)
  expr_keeps at (call f es) = asked _ _ (λ forms. chained (args_keep at forms es) (λ os. call_keeps at f es os))
  expr_keeps at (call_other f es) = chained (chosen (is_identifier f) (pure_keeps _) (expr_keeps at f)) (λ a. chained (args_keep at all_expressions es) (λ os. fault _ _ _))
  expr_keeps at (index a b) = chained (valued at (expr_keeps at a)) (λ x. chained (valued at (expr_keeps at b)) (λ y. index_keeps at x y))
  expr_keeps at (member e m) = chained (expr_keeps at e) (λ o. member_keeps at o m)
  expr_keeps at (arrow e m) = chained (valued at (expr_keeps at e)) (λ o. arrow_keeps at o m)
  expr_keeps at (cast b stars e) = chained (base_keeps at b) (λ t. chained (expr_keeps at e) (λ o. cast_keeps at _ o))
  expr_keeps at (size_type b stars) = chained (base_keeps at b) (λ t. size_keeps at _)
  expr_keeps at (size_expr e) = chained (expr_keeps at e) (λ o. size_keeps at o.type)

  pub args_keep : (at : Place) (forms : ArgumentsData) (es : ExprList) → Keeping (args at forms es)
  args_keep at forms no_exprs = pure_keeps _
  args_keep at forms (exprs e es) =
      chained (chosen (is_no_expression forms e) (pure_keeps _) (valued at (expr_keeps at e))) (λ o. chained (args_keep at _ es) (λ os. pure_keeps _))

  pub base_keeps : (at : Place) (b : BaseData) → Keeping (base at b)
  base_keeps at (words ws) = words_keep at _
  base_keeps at varchar = pure_keeps _
  base_keeps at (tagged t) = tag_keeps at t
  base_keeps at (struct_base t ds) = struct_keeps _ _ _ (struct_begins at t) (members_gather ds []) (λ k ms w y. end_kept at t k ms w y)

  members_gather : (ds : DeclList) (ms : Members) → Gathering ms (members ds ms)
  members_gather no_decls ms = pure_gathers ms
  members_gather (decls d ds) ms = gathers_more (member_decl_gathers d ms) (λ more. members_gather ds more)

  member_decl_gathers : (d : DeclData) (ms : Members) → Gathering ms (member_decl d ms)
  member_decl_gathers (decl b items section line) ms = gathers_behind (place_keeps line) (λ at. gathers_behind (base_keeps at b) (λ t. items_gather at (is_varchar b) t items ms))

  items_gather : (at : Place) (v : Bool) (t : Option TyData) (ds : DeclaratorList) (ms : Members) → Gathering ms (member_items at v t ds ms)
  items_gather at v t no_declarators ms = pure_gathers ms
  items_gather at v t (declarators d ds) ms = gathers_more (item_gathers at v t d ms) (λ more. items_gather at v t ds more)

  item_gathers : (at : Place) (v : Bool) (t : Option TyData) (d : DeclaratorData) (ms : Members) → Gathering ms (member_item at v t d ms)
  item_gathers at false t (declarator stars name ns init) ms =
      gathers_behind (lengths_keep at ns) (λ sizes. gathers_behind (elements_keeps at t stars sizes) (λ a. gathers_behind (demand_keeps _ _ _) (λ b. gathers_behind (init_parts_keep at init) (λ c. named_gathers at name _ ms))))
  item_gathers at true t (declarator stars name ns init) ms =
      gathers_behind (last_keeps at ns) (λ n. gathers_behind (varchar_member_keeps at n) (λ own. gathers_behind (outer_keep at ns) (λ sizes. gathers_behind (elements_keeps at own stars sizes) (λ a. gathers_behind (demand_keeps _ _ _) (λ b. gathers_behind (init_parts_keep at init) (λ c. named_gathers at name _ ms))))))

  pub lengths_keep : (at : Place) (ds : DimList) → Keeping (lengths at ds)
  lengths_keep at no_dims = pure_keeps _
  lengths_keep at (dims d ds) = chained (length_at_keeps at d) (λ n. chained (lengths_keep at ds) (λ ns. pure_keeps _))

  pub last_keeps : (at : Place) (ds : DimList) → Keeping (last_length at ds)
  last_keeps at no_dims = pure_keeps _
  last_keeps at (dims d no_dims) = length_at_keeps at d
  last_keeps at (dims d (dims e ds)) = last_keeps at (dims e ds)

  pub outer_keep : (at : Place) (ds : DimList) → Keeping (outer_lengths at ds)
  outer_keep at no_dims = pure_keeps _
  outer_keep at (dims d no_dims) = pure_keeps _
  outer_keep at (dims d (dims e ds)) = chained (length_at_keeps at d) (λ n. chained (outer_keep at (dims e ds)) (λ ns. pure_keeps _))

  length_at_keeps : (at : Place) (d : DimData) → Keeping (length_at at d)
  length_at_keeps at open_dim = pure_keeps _
  length_at_keeps at (dim e) = chained (valued at (expr_keeps at e)) (λ o. length_keeps at o)

  init_parts_keep : (at : Place) (i : InitOption) → Keeping (init_parts at i)
  init_parts_keep at no_init = pure_keeps _
  init_parts_keep at (some_init i) = init_exprs_keep at i

  init_exprs_keep : (at : Place) (i : InitData) → Keeping (init_exprs at i)
  init_exprs_keep at (one e) = chained (valued at (expr_keeps at e)) (λ o. pure_keeps _)
  init_exprs_keep at (many is) = all_init_keep at is

  all_init_keep : (at : Place) (is : InitList) → Keeping (all_init_exprs at is)
  all_init_keep at no_inits = pure_keeps _
  all_init_keep at (inits i is) = chained (init_exprs_keep at i) (λ a. all_init_keep at is)
