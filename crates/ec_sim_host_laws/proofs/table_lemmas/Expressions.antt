-- Tables stay as they are to be by expressions, and by types and declarators in them.
use Rattle.std.proofs.Common.{◌≡◌, ℕ, zero, suc, ◌+◌, ◌-◌, ◌*◌, ◌%◌, ◌≤◌, Bool, true, false, not, List, [], ◌∷◌, ◌++◌, refl, sym, ap, subst, Option, Some, None, arith}
use Rattle.std.specs.Prelude.{is_some, option_map, length, nat_le}
use Rattle.std.specs.Int.{next_multiple_of}
use Rattle.std.proofs.lemmas.Bool.Decides.{nat_tests}
use Rattle.ec_base.specs.declared.fault.FaultKind.TheVariants.{F10, F14}
use Rattle.ec_base.specs.declared.fault.LimitKind.TheVariants.{L1}
use Rattle.ec_ctypes.specs.declared.tree.expr.UnOp.{UnOp}
use Rattle.ec_ctypes.specs.declared.tree.expr.UnOp.TheVariants.{Addr, Deref, Plus, Minus, Not, Flip}
use Rattle.ec_ctypes.specs.trees.Types.{TyData}
use Rattle.ec_ctypes.specs.trees.Exprs.{ExprData, integer, character, string, identifier, unary, binary, assign, bump, call, call_other, index, member, arrow, cast, size_type, size_expr, ExprList, no_exprs, exprs, BaseData, words, varchar, tagged, struct_base, DimData, open_dim, dim, DimList, no_dims, dims, InitData, one, many, InitList, no_inits, inits, InitOption, no_init, some_init, DeclaratorData, declarator, DeclaratorList, no_declarators, declarators, DeclData, decl, DeclList, no_decls, decls}
use Rattle.ec_language.specs.First.{Violation}
use Rattle.ec_language.specs.Letters.{Text}
use Rattle.ec_typing_defs.specs.Tables.{find, put}
use Rattle.ec_typing_defs.specs.Types.{words_type}
use Rattle.ec_typing_defs.specs.Known.{ArgumentsData, all_expressions, is_identifier, is_no_expression}
use Rattle.ec_typing_defs.specs.Operands.{OperandData, value_rule, unary_rule, within_rule, complete_rule}
use Rattle.ec_typing_defs.specs.Worlds.{Place, MembersData, unlisted, begun, listed, is_listed, StructInfo, Rule, World, chain, pure, ask, change, note, demand, keep_within, free_name, new_struct, set_struct, struct_named, members_of, is_complete, is_within, arrays_within, max_size}
use Rattle.ec_typing_defs.specs.Expressions.{Members, varchar_members, capacity, varchar_info, type_or_fault, tag_type, tag_rule, tagged_struct, begin_again, begin_by, begin_struct, end_struct, member_named, is_varchar, varchar_struct, varchar_object, varchar_member, expr, args, base, members, member_decl, member_items, member_item, lengths, last_length, outer_lengths, length_at, init_parts, init_exprs, all_init_exprs}
use Rattle.ec_sim_world_laws.specs.closing.Closing.{members_at}
use Rattle.ec_sim_world_laws.proofs.closing_lemmas.Lists.{false_not, some_is, set_here}
use Rattle.ec_sim_world_laws.proofs.closing_lemmas.Orders.{complete_sized, complete_structs}
use Rattle.ec_sim_world_laws.proofs.closing_lemmas.Rules.{keep_same, free_tag_same, there}
use Rattle.ec_sim_host_laws.specs.table.Tables.{IsVarchar}
use Rattle.ec_sim_host_laws.proofs.table_lemmas.Fitting.{IsFlatIn, IsPlainIn, words_flat, declared_plain, Listed, IsFitIn, AreFit, plain_fit, are_fit_stay, put_fit}
use Rattle.ec_sim_host_laws.proofs.table_lemmas.Rules.{OnlyIf, if_then, if_both, Nothing, nothing_before, Sound, Kept, stay_itself, listed_stay, Keeping, chained, pure_keeps, asked, fault, demand_keeps, change_keeps, kept_itself, place_keeps, chosen, free_name_keeps, is_fresh, new_changed, set_changed, changed_sound, stay_behind, IsBlank, blank_kept, fresh_at_end, Begins, Beginning, new_struct_keeps, new_struct_begins, begins_then, asked_begins, noted_begins, begins_behind, Gathering, pure_gathers, gathers_from, gathers_behind, gathers_more, struct_keeps}
use Rattle.ec_sim_host_laws.proofs.table_lemmas.Operands.{elements_keeps, name_keeps, value_keeps, address_keeps, unary_keeps, binary_keeps, index_keeps, assign_keeps, compound_keeps, bump_keeps, call_keeps, member_keeps, arrow_keeps, cast_keeps, size_keeps, length_keeps, within_keeps, complete_keeps}

-- ---- tags

type_keeps : {quiet : Bool} (at : Place) (k : Option ℕ) → Keeping quiet (tag_type at k)
type_keeps at (Some k) = pure_keeps _
type_keeps at None = fault _ _ _

tag_keeps : {quiet : Bool} (at : Place) (t : Text) → Keeping quiet (tag_rule at t)
unfolding tag_rule
tag_keeps at t = asked _ _ (λ k. type_keeps at k)

-- ---- structs

blank : (t : Option Text) (ms : MembersData) → is_listed (Some ms) ≡ false → IsBlank (struct_named t ms)
blank t ms e = record { varchar = refl; shape = refl; members = e }

tagged_begins : {quiet : Bool} (t : Text) → Beginning quiet (tagged_struct t begun)
unfolding tagged_struct
tagged_begins t = begins_then (new_struct_begins _ (blank (Some t) begun refl) refl) (λ k. change_keeps _ (λ w s. kept_itself s))

-- a tag alone
pub tagged_keeps : {quiet : Bool} (t : Text) → Keeping quiet (tagged_struct t unlisted)
unfolding tagged_struct
tagged_keeps t = chained (new_struct_keeps _ (blank (Some t) unlisted refl)) (λ k. chained (change_keeps _ (λ w s. kept_itself s)) (λ a. pure_keeps _))

-- the members of a struct that is unlisted so far begin
unlisted_begins : {quiet : Bool} (at : Place) (t : Text) (k : ℕ) (w : World) → members_of k w ≡ Some unlisted → Sound quiet w.structs w.types
    → Begins quiet w.structs (begin_again at t k (Some unlisted) w).world.structs (begin_again at t k (Some unlisted) w).world.types (begin_again at t k (Some unlisted) w).answer
unfolding chain set_struct change pure
unlisted_begins at t k w is s = record {
  kept = blank_kept k (struct_named (Some t) begun) (blank (Some t) begun refl) (set_changed w.structs k (struct_named (Some t) begun) is refl) (ap is_fresh is) s;
  now = ap (option_map (λ s. s.members)) (set_here w.structs k (struct_named (Some t) begun) (there w.structs k unlisted is).is);
  fresh = ap is_fresh is;
}

anew : {quiet : Bool} (at : Place) (t : Text) → Beginning quiet (chain (note at F10) (λ u. tagged_struct t begun))
anew at t = noted_begins at F10 (tagged_struct t begun) (tagged_begins t)

again_begins : {quiet : Bool} (at : Place) (t : Text) (k : ℕ) (w : World) (ms : Option MembersData) → members_of k w ≡ ms → Sound quiet w.structs w.types
    → OnlyIf quiet (Nothing (begin_again at t k ms w).found) → Begins quiet w.structs (begin_again at t k ms w).world.structs (begin_again at t k ms w).world.types (begin_again at t k ms w).answer
again_begins at t k w (Some unlisted) is s e = unlisted_begins at t k w is s
again_begins at t k w (Some begun) is s e = (anew at t).begins w s e
again_begins at t k w (Some (listed ms)) is s e = (anew at t).begins w s e
again_begins at t k w None is s e = (anew at t).begins w s e

by_begins : {quiet : Bool} (at : Place) (t : Text) (k : Option ℕ) → Beginning quiet (begin_by at t k)
unfolding chain ask
by_begins at t None = tagged_begins t
by_begins at t (Some k) = record { begins = λ w s e. again_begins at t k w (members_of k w) refl s e }

struct_begins : {quiet : Bool} (at : Place) (t : Option Text) → Beginning quiet (begin_struct at t)
unfolding begin_struct
struct_begins at None = new_struct_begins _ (blank None begun refl) refl
struct_begins at (Some t) = begins_behind _ _ (free_tag_same at t) (λ u. asked_begins _ _ (λ k. by_begins at t k))

some_found : {v : Violation} {vs : List Violation} → v ∷ vs ≡ [] → ⊥
some_found e = cc

pub keep_small : (at : Place) (b : Bool) (w : World) → Nothing (keep_within at L1 b w).found → b ≡ true
unfolding keep_within
keep_small at true w e = refl
keep_small at false w e = absurd (some_found e)

small_if : (quiet : Bool) (at : Place) (b : Bool) (w : World) → OnlyIf quiet (Nothing ((keep_within at L1 b w).found ++ [])) → OnlyIf quiet (b ≡ true)
small_if quiet at b w e = if_then quiet (keep_small at b w) (nothing_before quiet (keep_within at L1 b w).found [] e)

pub listed_is : {ms ns : Members} → listed ms ≡ listed ns → ms ≡ ns
listed_is {ms} {ns} e = λ j. members_or (e j)
  where
    members_or : MembersData → Members
    members_or unlisted = ms
    members_or begun = ms
    members_or (listed os) = os

-- what is known of a struct with these members
own_fit : (quiet : Bool) (ss : List StructInfo) (ms : Members) (b : Bool) → OnlyIf quiet (b ≡ true) → OnlyIf quiet (AreFit ss ms)
    → OnlyIf quiet ((b ≡ true) × ((ns : Members) → Some (listed ms) ≡ Some (listed ns) → AreFit ss ns))
own_fit quiet ss ms b small f = if_both quiet (λ x y. (x, λ ns e. subst (AreFit ss) (listed_is (some_is e)) y)) small f

-- Its members are listed, and it is closed.
end_kept : {quiet : Bool} (at : Place) (t : Option Text) (k : ℕ) (ms : Members) (ss : List StructInfo) (y : World) → is_fresh (members_at ss k) ≡ true → members_at y.structs k ≡ Some begun
    → Kept quiet ss y.structs y.types → OnlyIf quiet (AreFit y.structs ms) → OnlyIf quiet (Nothing (end_struct at t k ms y).found)
    → Kept quiet ss (end_struct at t k ms y).world.structs (end_struct at t k ms y).world.types
unfolding end_struct chain ask set_struct change pure
end_kept {quiet = quiet} at t k ms ss y fresh now p f e = subst (λ z. Kept quiet ss z.structs z.types) (sym (keep_same at L1 _ _)) (record {
  sound = changed_sound y.structs _ k _ (set_changed y.structs k _ now refl) (λ e. false_not e) (own_fit quiet y.structs ms _ (small_if quiet at _ _ e) f) p.sound;
  stay = stay_behind y.structs _ k _ (set_changed y.structs k _ now refl) ss fresh p.stay;
})

-- ---- types behind their tests

-- Behind the tests of its arrays and of its completeness a type is as it was, and fits.
pub record Tested {A : Type 0} (w : World) (t : Option TyData) (whole rest : Rule A) : Type 0 where
  pub fit : IsFitIn w.structs t
  pub answer : (whole w).answer ≡ (rest w).answer
  pub world : (whole w).world ≡ (rest w).world

module _ {A : Type 0} (at : Place) (w : World) (t : TyData) (plain : IsPlainIn (Some t)) (f : Option TyData → Rule A) where
  abbrev by_complete : Bool → Rule A
  by_complete whole = chain (elim whole [ true ↦ pure (Some t) | false ↦ chain (note at F14) (λ u. pure None) ]) f

  complete_tested : arrays_within w t ≡ true → (whole : Bool) → is_complete w t ≡ whole → Nothing (by_complete whole w).found → Tested w (Some t) (by_complete whole) (f (Some t))
  unfolding chain pure note
  complete_tested small true is e = record { fit = plain_fit w t plain (complete_sized w t is) (complete_structs w (Listed w.structs) (λ k e. e) t is) small; answer = refl; world = refl }
  complete_tested small false is e = absurd (some_found e)

  abbrev by_within : Bool → Rule A
  by_within small = chain (keep_within at L1 small) (λ u. chain (complete_rule at (Some t)) f)

  within_tested : (small : Bool) → arrays_within w t ≡ small → Nothing (by_within small w).found → Tested w (Some t) (by_within small) (f (Some t))
  unfolding chain pure note ask keep_within complete_rule
  within_tested true is e =
      let p = complete_tested is (is_complete w t) refl e in
      record { fit = p.fit; answer = p.answer; world = p.world }
  within_tested false is e = absurd (some_found e)

pub tested : {A : Type 0} (at : Place) (w : World) (t : Option TyData) → IsPlainIn t → (f : Option TyData → Rule A)
    → Nothing (chain (within_rule at t) (λ u. chain (complete_rule at t) f) w).found → Tested w t (chain (within_rule at t) (λ u. chain (complete_rule at t) f)) (f t)
unfolding chain pure ask within_rule complete_rule
tested at w None plain f e = record { fit = tt; answer = refl; world = refl }
tested at w (Some t) plain f e =
    let p = within_tested at w t plain f (arrays_within w t) refl e in
    record { fit = p.fit; answer = p.answer; world = p.world }

-- ---- members

words_keep : {quiet : Bool} (at : Place) (t : Option TyData) → Keeping quiet (type_or_fault at t)
unfolding type_or_fault
words_keep at (Some t) = pure_keeps _
words_keep at None = fault _ _ _

named_keeps : {quiet : Bool} (at : Place) (name : Text) (t : Option TyData) (ms : Members) → Keeping quiet (member_named at name t ms)
unfolding member_named
named_keeps at name t ms = chained (within_keeps at t) (λ a. chained (complete_keeps at t) (λ s. chained (demand_keeps _ _ _) (λ b. chained (free_name_keeps at name) (λ c. pure_keeps _))))

named_fit : (at : Place) (name : Text) (t : Option TyData) (ms : Members) → IsPlainIn t → (w : World) → AreFit w.structs ms → Nothing (member_named at name t ms w).found → AreFit w.structs (member_named at name t ms w).answer
unfolding member_named chain pure
named_fit at name t ms plain w g e =
    let p = tested at w t plain (λ s. chain (demand at F10 (not (is_some (find name ms)))) (λ u. chain (free_name at name) (λ v. pure (put name s ms)))) e in
    subst (AreFit w.structs) (sym p.answer) (put_fit w.structs name t ms p.fit g)

named_gathers : {quiet : Bool} (at : Place) (name : Text) (t : Option TyData) (ms : Members) → IsPlainIn t → Gathering quiet ms (member_named at name t ms)
named_gathers {quiet = quiet} at name t ms plain = record {
  gathers = λ w s g e.
      let p = (named_keeps at name t ms).keeps w s e in
      record {
        kept = p;
        fit = if_both quiet (λ f n. are_fit_stay w.structs (member_named at name t ms w).world.structs (listed_stay _ _ p.stay) (member_named at name t ms w).answer (named_fit at name t ms plain w f n)) g e;
      };
}

-- ---- VARCHAR

abbrev whole_size : ℕ → ℕ
whole_size c = next_multiple_of (4 + suc c * 1) 4

up_to : (a b m : ℕ) → a ≤ b → nat_le b m ≡ true → nat_le a m ≡ true
up_to a b m p h = grind (arith, nat_tests)

part_of : (a r : ℕ) → a ≤ (4 + a) + r
part_of a r = omega arith

-- its characters are within the limit where it is
text_small : (c : ℕ) → nat_le (whole_size c) max_size ≡ true → nat_le (suc c * 1) max_size ≡ true
text_small c h = up_to (suc c * 1) (whole_size c) max_size (part_of (suc c * 1) ((4 - (4 + suc c * 1) % 4) % 4)) h

text_fit : (t : Option Text) (n : Option ℕ) (w : World) → is_within (varchar_info t (capacity n) w).shape ≡ true → AreFit w.structs (varchar_members (capacity n))
text_fit t None w e = (tt, (tt, tt))
text_fit t (Some zero) w e = (tt, (tt, tt))
text_fit t (Some (suc c)) w e = (tt, ((text_small c e, (tt, tt)), tt))

varchar_kept : (quiet : Bool) (w : World) (info : StructInfo) → info.varchar ≡ true → IsVarchar info → OnlyIf quiet ((is_within info.shape ≡ true) × ((ns : Members) → Some info.members ≡ Some (listed ns) → AreFit w.structs ns))
    → Sound quiet w.structs w.types → Kept quiet w.structs (w.structs ++ info ∷ []) w.types
varchar_kept quiet w info v is fits s = record {
  sound = changed_sound w.structs _ (length w.structs) info (new_changed w.structs info) (λ e. is) fits s;
  stay = stay_behind w.structs _ (length w.structs) info (new_changed w.structs info) w.structs (fresh_at_end w.structs) (stay_itself w.structs);
}

varchar_keeps : {quiet : Bool} (at : Place) (t : Option Text) (n : Option ℕ) → Keeping quiet (varchar_struct at t n)
unfolding varchar_struct chain ask new_struct change pure
varchar_keeps {quiet = quiet} at t n = record {
  keeps = λ w s e.
      let small = small_if quiet at (is_within (varchar_info t (capacity n) w).shape) _ e in
      subst (λ z. Kept quiet w.structs z.structs z.types) (sym (keep_same at L1 _ _))
      (varchar_kept quiet w (varchar_info t (capacity n) w) refl (record { length = capacity n; is = refl })
      (own_fit quiet w.structs (varchar_members (capacity n)) _ small (if_then quiet (text_fit t n w) small)) s);
}

pub varchar_object_keeps : {quiet : Bool} (at : Place) (name : Text) (n : Option ℕ) → Keeping quiet (varchar_object at name n)
unfolding varchar_object
varchar_object_keeps at name n = chained (varchar_keeps at _ n) (λ k. asked _ _ (λ before. chained (change_keeps _ (λ w s. kept_itself s)) (λ a. chained (demand_keeps _ _ _) (λ b. pure_keeps _))))

pub varchar_object_flat : (at : Place) (name : Text) (n : Option ℕ) (w : World) → IsFlatIn (varchar_object at name n w).answer
unfolding varchar_object chain pure
varchar_object_flat at name n w = refl

varchar_member_keeps : {quiet : Bool} (at : Place) (n : Option ℕ) → Keeping quiet (varchar_member at n)
unfolding varchar_member
varchar_member_keeps at n = chained (varchar_keeps at _ n) (λ k. pure_keeps _)

varchar_member_flat : (at : Place) (n : Option ℕ) (w : World) → IsFlatIn (varchar_member at n w).answer
unfolding varchar_member chain pure
varchar_member_flat at n w = refl

-- ---- the type that a declaration begins with has no arrays

fault_flat : (at : Place) (t : Option TyData) → IsFlatIn t → (w : World) → IsFlatIn (type_or_fault at t w).answer
unfolding type_or_fault chain pure
fault_flat at (Some t) p w = p
fault_flat at None p w = tt

tag_type_flat : (at : Place) (k : Option ℕ) (w : World) → IsFlatIn (tag_type at k w).answer
unfolding chain pure
tag_type_flat at (Some k) w = refl
tag_type_flat at None w = tt

tag_flat : (at : Place) (t : Text) (w : World) → IsFlatIn (tag_rule at t w).answer
unfolding tag_rule chain ask
tag_flat at t w = tag_type_flat at _ w

end_flat : (at : Place) (t : Option Text) (k : ℕ) (ms : Members) (w : World) → IsFlatIn (end_struct at t k ms w).answer
unfolding end_struct chain pure
end_flat at t k ms w = refl

pub base_flat : (at : Place) (b : BaseData) (w : World) → IsFlatIn (base at b w).answer
unfolding chain pure
base_flat at (words ws) w = fault_flat at (words_type ws) (words_flat ws) w
base_flat at varchar w = tt
base_flat at (tagged t) w = tag_flat at t w
base_flat at (struct_base t ds) w = end_flat at t _ _ _

-- ---- the parts

pub valued : {quiet : Bool} (at : Place) {m : Rule OperandData} → Keeping quiet m → Keeping quiet (chain m (value_rule at))
valued at h = chained h (λ o. value_keeps at o)

unary_by : {quiet : Bool} (at : Place) (op : UnOp) {m : Rule OperandData} → Keeping quiet m → Keeping quiet (chain (chain m (value_rule at)) (unary_rule at op))
unary_by at op h = chained (valued at h) (λ o. unary_keeps at op o)

mutual
  pub expr_keeps : {quiet : Bool} (at : Place) (e : ExprData) → Keeping quiet (expr at e)
  expr_keeps at (integer n t) = pure_keeps _
  expr_keeps at (character c) = pure_keeps _
  expr_keeps at (string s) = pure_keeps _
  expr_keeps at (identifier x) = name_keeps at x
  expr_keeps at (unary Addr e) = chained (expr_keeps at e) (λ o. address_keeps at o)
  expr_keeps at (unary Deref e) = unary_by at Deref (expr_keeps at e)
  expr_keeps at (unary Plus e) = unary_by at Plus (expr_keeps at e)
  expr_keeps at (unary Minus e) = unary_by at Minus (expr_keeps at e)
  expr_keeps at (unary Not e) = unary_by at Not (expr_keeps at e)
  expr_keeps at (unary Flip e) = unary_by at Flip (expr_keeps at e)
  expr_keeps at (binary op a b) = chained (valued at (expr_keeps at a)) (λ x. chained (valued at (expr_keeps at b)) (λ y. binary_keeps at op x y))
  expr_keeps at (assign None a b) = chained (expr_keeps at a) (λ x. chained (valued at (expr_keeps at b)) (λ y. assign_keeps at x y))
  expr_keeps at (assign (Some op) a b) = chained (expr_keeps at a) (λ x. chained (valued at (expr_keeps at b)) (λ y. compound_keeps at op x y))
  expr_keeps at (bump before up e) = chained (expr_keeps at e) (λ o. bump_keeps at o)
  expr_keeps at (call f es) = asked _ _ (λ forms. chained (args_keep at forms es) (λ os. call_keeps at f es os))
  expr_keeps at (call_other f es) = chained (chosen (is_identifier f) (pure_keeps _) (expr_keeps at f)) (λ a. chained (args_keep at all_expressions es) (λ os. fault _ _ _))
  expr_keeps at (index a b) = chained (valued at (expr_keeps at a)) (λ x. chained (valued at (expr_keeps at b)) (λ y. index_keeps at x y))
  expr_keeps at (member e m) = chained (expr_keeps at e) (λ o. member_keeps at o m)
  expr_keeps at (arrow e m) = chained (valued at (expr_keeps at e)) (λ o. arrow_keeps at o m)
  expr_keeps at (cast b stars e) = chained (base_keeps at b) (λ t. chained (expr_keeps at e) (λ o. cast_keeps at _ o))
  expr_keeps at (size_type b stars) = chained (base_keeps at b) (λ t. size_keeps at _)
  expr_keeps at (size_expr e) = chained (expr_keeps at e) (λ o. size_keeps at o.type)

  pub args_keep : {quiet : Bool} (at : Place) (forms : ArgumentsData) (es : ExprList) → Keeping quiet (args at forms es)
  args_keep at forms no_exprs = pure_keeps _
  args_keep at forms (exprs e es) =
      chained (chosen (is_no_expression forms e) (pure_keeps _) (valued at (expr_keeps at e))) (λ o. chained (args_keep at _ es) (λ os. pure_keeps _))

  pub base_keeps : {quiet : Bool} (at : Place) (b : BaseData) → Keeping quiet (base at b)
  base_keeps at (words ws) = words_keep at _
  base_keeps at varchar = pure_keeps _
  base_keeps at (tagged t) = tag_keeps at t
  base_keeps at (struct_base t ds) = struct_keeps _ _ _ (struct_begins at t) (members_gather ds []) (λ k ms ss y. end_kept at t k ms ss y)

  members_gather : {quiet : Bool} (ds : DeclList) (ms : Members) → Gathering quiet ms (members ds ms)
  members_gather no_decls ms = pure_gathers ms
  members_gather (decls d ds) ms = gathers_more (member_decl_gathers d ms) (λ more. members_gather ds more)

  member_decl_gathers : {quiet : Bool} (d : DeclData) (ms : Members) → Gathering quiet ms (member_decl d ms)
  member_decl_gathers (decl b items section line) ms = gathers_behind (place_keeps line) (λ at. gathers_from IsFlatIn (base_keeps at b) (base_flat at b) (λ t flat. items_gather at (is_varchar b) t items ms flat))

  items_gather : {quiet : Bool} (at : Place) (v : Bool) (t : Option TyData) (ds : DeclaratorList) (ms : Members) → IsFlatIn t → Gathering quiet ms (member_items at v t ds ms)
  items_gather at v t no_declarators ms flat = pure_gathers ms
  items_gather at v t (declarators d ds) ms flat = gathers_more (item_gathers at v t d ms flat) (λ more. items_gather at v t ds more flat)

  item_gathers : {quiet : Bool} (at : Place) (v : Bool) (t : Option TyData) (d : DeclaratorData) (ms : Members) → IsFlatIn t → Gathering quiet ms (member_item at v t d ms)
  item_gathers at false t (declarator stars name ns init) ms flat =
      gathers_behind (lengths_keep at ns) (λ sizes. gathers_behind (elements_keeps at t stars sizes) (λ a. gathers_behind (demand_keeps _ _ _) (λ b. gathers_behind (init_parts_keep at init) (λ c. named_gathers at name _ ms (declared_plain t stars sizes flat)))))
  item_gathers at true t (declarator stars name ns init) ms flat =
      gathers_behind (last_keeps at ns) (λ n. gathers_from IsFlatIn (varchar_member_keeps at n) (varchar_member_flat at n) (λ own own_flat. gathers_behind (outer_keep at ns) (λ sizes. gathers_behind (elements_keeps at own stars sizes) (λ a. gathers_behind (demand_keeps _ _ _) (λ b. gathers_behind (init_parts_keep at init) (λ c. named_gathers at name _ ms (declared_plain own stars sizes own_flat)))))))

  pub lengths_keep : {quiet : Bool} (at : Place) (ds : DimList) → Keeping quiet (lengths at ds)
  lengths_keep at no_dims = pure_keeps _
  lengths_keep at (dims d ds) = chained (length_at_keeps at d) (λ n. chained (lengths_keep at ds) (λ ns. pure_keeps _))

  pub last_keeps : {quiet : Bool} (at : Place) (ds : DimList) → Keeping quiet (last_length at ds)
  last_keeps at no_dims = pure_keeps _
  last_keeps at (dims d no_dims) = length_at_keeps at d
  last_keeps at (dims d (dims e ds)) = last_keeps at (dims e ds)

  pub outer_keep : {quiet : Bool} (at : Place) (ds : DimList) → Keeping quiet (outer_lengths at ds)
  outer_keep at no_dims = pure_keeps _
  outer_keep at (dims d no_dims) = pure_keeps _
  outer_keep at (dims d (dims e ds)) = chained (length_at_keeps at d) (λ n. chained (outer_keep at (dims e ds)) (λ ns. pure_keeps _))

  length_at_keeps : {quiet : Bool} (at : Place) (d : DimData) → Keeping quiet (length_at at d)
  length_at_keeps at open_dim = pure_keeps _
  length_at_keeps at (dim e) = chained (valued at (expr_keeps at e)) (λ o. length_keeps at o)

  init_parts_keep : {quiet : Bool} (at : Place) (i : InitOption) → Keeping quiet (init_parts at i)
  init_parts_keep at no_init = pure_keeps _
  init_parts_keep at (some_init i) = init_exprs_keep at i

  init_exprs_keep : {quiet : Bool} (at : Place) (i : InitData) → Keeping quiet (init_exprs at i)
  init_exprs_keep at (one e) = chained (valued at (expr_keeps at e)) (λ o. pure_keeps _)
  init_exprs_keep at (many is) = all_init_keep at is

  all_init_keep : {quiet : Bool} (at : Place) (is : InitList) → Keeping quiet (all_init_exprs at is)
  all_init_keep at no_inits = pure_keeps _
  all_init_keep at (inits i is) = chained (init_exprs_keep at i) (λ a. all_init_keep at is)
