-- Expressions, types and members of a source, in which the rules find nothing.
use Rattle.std.proofs.Common.{◌≡◌, ℕ, Bool, true, false, not, ◌&&◌, ◌||◌, List, [], ◌∷◌, refl, Option, Some, None}
use Rattle.std.specs.Prelude.{codes}
use Rattle.std.proofs.lemmas.Bool.{false≢true}
use Rattle.ec_ctypes.specs.declared.tree.expr.UnOp.{UnOp}
use Rattle.ec_ctypes.specs.declared.tree.expr.UnOp.TheVariants.{Addr, Deref, Plus, Minus, Not, Flip}
use Rattle.ec_ctypes.specs.trees.Types.{TyData}
use Rattle.ec_ctypes.specs.trees.Exprs.{ExprData, integer, character, string, identifier, unary, binary, assign, bump, call, call_other, index, member, arrow, cast, size_type, size_expr, ExprList, no_exprs, exprs, BaseData, words, varchar, tagged, struct_base, DimData, open_dim, dim, DimList, no_dims, dims, InitData, one, many, InitList, no_inits, inits, InitOption, no_init, some_init, DeclaratorData, declarator, DeclaratorList, no_declarators, declarators, DeclData, decl, DeclList, no_decls, decls}
use Rattle.ec_language.specs.Letters.{Text}
use Rattle.ec_language.proofs.Ends.{both}
use Rattle.ec_typing_defs.specs.Known.{ArgumentsData, all_expressions, is_identifier, is_no_expression}
use Rattle.ec_typing_defs.specs.Operands.{OperandData, value_rule, unary_rule}
use Rattle.ec_typing_defs.specs.Worlds.{Place, MembersData, unlisted, begun, listed, Rule, World, chain, free_tag, tag_up}
use Rattle.ec_typing_defs.specs.Expressions.{Members, type_or_fault, tag_type, tag_rule, tagged_struct, begin_again, begin_by, begin_struct, end_struct, member_named, is_varchar, varchar_tag, varchar_struct, varchar_object, varchar_member, expr, args, base, members, member_decl, member_items, member_item, lengths, last_length, outer_lengths, length_at, init_parts, init_exprs, all_init_exprs}
use Rattle.ec_writing_defs.specs.Shapes.{is_plain_name, is_free_name, is_assignable, is_line, is_written_name}
use Rattle.ec_written_laws.specs.source.SourceShape.{is_source_expr, are_source_exprs, is_source_base, are_source_members, is_source_member, is_source_dim, are_source_dims, is_source_init, are_some_source_inits, are_source_inits, is_source_initializer, is_source_declarator, are_source_declarators}
use Rattle.ec_written_laws.proofs.bound_lemmas.Rules.{PlainMembers, HasPlainMembers, put_plain, Holds, Quiet, quiet_of, chained, gives, asked, pure_holds, fault, demand_quiet, keep_quiet, change_holds, place_quiet, chosen, new_struct_quiet, set_struct_quiet, free_name_quiet}
use Rattle.ec_written_laws.proofs.bound_lemmas.Operands.{elements_quiet, name_free, value_quiet, address_quiet, unary_quiet, binary_quiet, index_quiet, assign_quiet, compound_quiet, bump_quiet, call_holds, member_quiet, arrow_quiet, cast_quiet, size_quiet, length_quiet, within_quiet, complete_quiet}

-- ---- tags

pub free_tag_quiet : (at : Place) (t : Text) → Quiet (free_tag at t)
unfolding free_tag
free_tag_quiet at t = asked _ _ (λ w c. demand_quiet _ _ _)

tag_quiet : (at : Place) (t : Text) → Quiet (tag_rule at t)
unfolding tag_rule
tag_quiet at t = asked _ _ (λ w c. go (tag_up t w))
  where
    go : (x : Option ℕ) → Quiet (tag_type at x)
    go (Some k) = pure_holds _ tt
    go None = fault _ _ _

-- ---- structs

pub tagged_quiet : (t : Text) (ms : MembersData) → HasPlainMembers ms → Quiet (tagged_struct t ms)
unfolding tagged_struct
tagged_quiet t ms h = chained (new_struct_quiet _ h) (λ k p. chained (change_holds _ (λ w c. c)) (λ a q. pure_holds _ tt))

again_quiet : (at : Place) (t : Text) (k : ℕ) (ms : Option MembersData) → Quiet (begin_again at t k ms)
again_quiet at t k (Some unlisted) = chained (set_struct_quiet _ _ tt) (λ a p. pure_holds _ tt)
again_quiet at t k (Some begun) = fault _ _ _
again_quiet at t k (Some (listed ms)) = fault _ _ _
again_quiet at t k None = fault _ _ _

by_quiet : (at : Place) (t : Text) (k : Option ℕ) → Quiet (begin_by at t k)
by_quiet at t None = tagged_quiet t begun tt
by_quiet at t (Some k) = asked _ _ (λ w c. again_quiet at t k _)

begin_quiet : (at : Place) (t : Option Text) → Quiet (begin_struct at t)
unfolding begin_struct
begin_quiet at None = new_struct_quiet _ tt
begin_quiet at (Some t) = chained (free_tag_quiet at t) (λ a h. asked _ _ (λ w c. by_quiet at t _))

end_quiet : (at : Place) (t : Option Text) (k : ℕ) (ms : Members) → PlainMembers ms → Quiet (end_struct at t k ms)
unfolding end_struct
end_quiet at t k ms h = asked _ _ (λ w c. asked _ _ (λ v d. chained (set_struct_quiet _ _ h) (λ a p. chained (change_holds _ (λ x y. y)) (λ b q. chained (keep_quiet _ _ _) (λ e r. pure_holds _ tt)))))

words_quiet : (at : Place) (t : Option TyData) → Quiet (type_or_fault at t)
unfolding type_or_fault
words_quiet at (Some t) = pure_holds _ tt
words_quiet at None = fault _ _ _

named_plain : (at : Place) (name : Text) (t : Option TyData) (ms : Members) → is_plain_name name ≡ true → PlainMembers ms → Holds (member_named at name t ms) PlainMembers
unfolding member_named
named_plain at name t ms h k =
    chained (within_quiet at t) (λ a p. chained (complete_quiet at t) (λ b q. chained (demand_quiet _ _ _) (λ c r. chained (free_name_quiet at name) (λ d s. pure_holds _ (put_plain name b ms h k)))))

varchar_quiet : (at : Place) (t : Option Text) (n : Option ℕ) → Quiet (varchar_struct at t n)
unfolding varchar_struct
varchar_quiet at t n = asked _ _ (λ w c. chained (new_struct_quiet _ (refl, (refl, tt))) (λ k p. chained (change_holds _ (λ x y. y)) (λ a q. chained (keep_quiet _ _ _) (λ b r. pure_holds _ tt))))

pub varchar_object_quiet : (at : Place) (name : Text) (n : Option ℕ) → Quiet (varchar_object at name n)
unfolding varchar_object
varchar_object_quiet at name n = chained (varchar_quiet at _ n) (λ k p. asked _ _ (λ w c. chained (change_holds _ (λ x y. y)) (λ a q. chained (demand_quiet _ _ _) (λ b r. pure_holds _ tt))))

varchar_member_quiet : (at : Place) (n : Option ℕ) → Quiet (varchar_member at n)
unfolding varchar_member
varchar_member_quiet at n = chained (varchar_quiet at _ n) (λ k p. pure_holds _ tt)

-- ---- the parts

pub valued : (at : Place) {m : Rule OperandData} {Q : Type 0} → Holds m (λ o. Q) → Holds (chain m (value_rule at)) (λ o. Q)
valued at h = chained h (λ o q. gives (value_quiet at o) (λ a u. q))

unary_by : (at : Place) (op : UnOp) {m : Rule OperandData} → Quiet m → Quiet (chain (chain m (value_rule at)) (unary_rule at op))
unary_by at op h = chained (valued at h) (λ o q. unary_quiet at op o)

mutual
  pub expr_quiet : (at : Place) (e : ExprData) → is_source_expr e ≡ true → Quiet (expr at e)
  expr_quiet at (integer n t) s = pure_holds _ tt
  expr_quiet at (character c) s = pure_holds _ tt
  expr_quiet at (string t) s = pure_holds _ tt
  expr_quiet at (identifier x) s = quiet_of (name_free at x)
  expr_quiet at (unary Addr e) s = chained (expr_quiet at e s) (λ o h. address_quiet at o)
  expr_quiet at (unary Deref e) s = unary_by at Deref (expr_quiet at e s)
  expr_quiet at (unary Plus e) s = unary_by at Plus (expr_quiet at e s)
  expr_quiet at (unary Minus e) s = unary_by at Minus (expr_quiet at e s)
  expr_quiet at (unary Not e) s = unary_by at Not (expr_quiet at e s)
  expr_quiet at (unary Flip e) s = unary_by at Flip (expr_quiet at e s)
  expr_quiet at (binary op a b) s = let p = both (is_source_expr a) (is_source_expr b) s in chained (valued at (expr_quiet at a p.0)) (λ x h. chained (valued at (expr_quiet at b p.1)) (λ y k. binary_quiet at op x y))
  expr_quiet at (assign None a b) s =
      let p = both (is_source_expr a) (is_source_expr b) s in
      chained (expr_quiet at a p.0) (λ x h. chained (valued at (expr_quiet at b p.1)) (λ y k. assign_quiet at x y))
  expr_quiet at (assign (Some op) a b) s =
      let p = both (is_source_expr a) (is_source_expr b) (both (is_assignable (Some op)) (is_source_expr a && is_source_expr b) s).1 in
      chained (expr_quiet at a p.0) (λ x h. chained (valued at (expr_quiet at b p.1)) (λ y k. compound_quiet at op x y))
  expr_quiet at (bump before up e) s = chained (expr_quiet at e s) (λ o h. bump_quiet at o)
  expr_quiet at (call f es) s = let p = both (is_free_name f) (are_source_exprs es) s in asked _ _ (λ w c. chained (args_quiet at _ es p.1) (λ os h. quiet_of (call_holds at f es os)))
  expr_quiet at (call_other f es) s =
      let p = both (is_source_expr f) (are_source_exprs es) s in
      chained (chosen (is_identifier f) (pure_holds _ tt) (quiet_of (expr_quiet at f p.0))) (λ a q. chained (args_quiet at all_expressions es p.1) (λ os h. fault _ _ _))
  expr_quiet at (index a b) s = let p = both (is_source_expr a) (is_source_expr b) s in chained (valued at (expr_quiet at a p.0)) (λ x h. chained (valued at (expr_quiet at b p.1)) (λ y k. index_quiet at x y))
  expr_quiet at (member e m) s = chained (expr_quiet at e (both (is_plain_name m) (is_source_expr e) s).1) (λ o h. member_quiet at o m)
  expr_quiet at (arrow e m) s = chained (valued at (expr_quiet at e (both (is_plain_name m) (is_source_expr e) s).1)) (λ o h. arrow_quiet at o m)
  expr_quiet at (cast b stars e) s = let p = both (is_source_base b) (is_source_expr e) s in chained (base_quiet at b p.0) (λ t h. chained (expr_quiet at e p.1) (λ o k. cast_quiet at _ o))
  expr_quiet at (size_type b stars) s = chained (base_quiet at b s) (λ t h. size_quiet at _)
  expr_quiet at (size_expr e) s = chained (expr_quiet at e s) (λ o h. size_quiet at o.type)

  args_quiet : (at : Place) (forms : ArgumentsData) (es : ExprList) → are_source_exprs es ≡ true → Quiet (args at forms es)
  args_quiet at forms no_exprs s = pure_holds _ tt
  args_quiet at forms (exprs e es) s =
      let p = both (is_source_expr e) (are_source_exprs es) s in
      chained (chosen (is_no_expression forms e) (pure_holds _ tt) (valued at (expr_quiet at e p.0))) (λ o h. chained (args_quiet at _ es p.1) (λ os k. pure_holds _ tt))

  pub base_quiet : (at : Place) (b : BaseData) → is_source_base b ≡ true → Quiet (base at b)
  base_quiet at (words ws) s = words_quiet at _
  base_quiet at varchar s = pure_holds _ tt
  base_quiet at (tagged t) s = tag_quiet at t
  base_quiet at (struct_base t no_decls) s = absurd (false≢true s)
  base_quiet at (struct_base t (decls d ds)) s =
      let p = both (is_written_name t) (is_source_member d && are_source_members ds) s in
      chained (begin_quiet at t) (λ k h. chained (members_plain (decls d ds) [] p.1 tt) (λ ms g. end_quiet at t k ms g))

  members_plain : (ds : DeclList) (ms : Members) → are_source_members ds ≡ true → PlainMembers ms → Holds (members ds ms) PlainMembers
  members_plain no_decls ms s h = pure_holds _ h
  members_plain (decls d ds) ms s h = let p = both (is_source_member d) (are_source_members ds) s in chained (member_plain d ms p.0 h) (λ more k. members_plain ds more p.1 k)

  member_plain : (d : DeclData) (ms : Members) → is_source_member d ≡ true → PlainMembers ms → Holds (member_decl d ms) PlainMembers
  member_plain (decl b no_declarators section line) ms s h = absurd (false≢true s)
  member_plain (decl b (declarators d ds) section line) ms s h =
      let p = both (is_line line.0) (is_source_base b && (is_source_declarator d && are_source_declarators ds)) s in
      let q = both (is_source_base b) (is_source_declarator d && are_source_declarators ds) p.1 in
      chained (place_quiet line) (λ at r. chained (base_quiet at b q.0) (λ t k. items_plain at (is_varchar b) t (declarators d ds) ms q.1 h))

  items_plain : (at : Place) (v : Bool) (t : Option TyData) (ds : DeclaratorList) (ms : Members) → are_source_declarators ds ≡ true → PlainMembers ms → Holds (member_items at v t ds ms) PlainMembers
  items_plain at v t no_declarators ms s h = pure_holds _ h
  items_plain at v t (declarators d ds) ms s h =
      let p = both (is_source_declarator d) (are_source_declarators ds) s in
      chained (item_plain at v t d ms p.0 h) (λ more k. items_plain at v t ds more p.1 k)

  item_plain : (at : Place) (v : Bool) (t : Option TyData) (d : DeclaratorData) (ms : Members) → is_source_declarator d ≡ true → PlainMembers ms → Holds (member_item at v t d ms) PlainMembers
  item_plain at false t (declarator stars name ns init) ms s h =
      let p = both (is_plain_name name) (are_source_dims ns && is_source_initializer init) s in
      let q = both (are_source_dims ns) (is_source_initializer init) p.1 in
      chained (lengths_quiet at ns q.0) (λ sizes k. chained (elements_quiet at t stars sizes) (λ e r. chained (demand_quiet _ _ _) (λ a u. chained (init_parts_quiet at init q.1) (λ b v. named_plain at name _ ms p.0 h))))
  item_plain at true t (declarator stars name ns init) ms s h =
      let p = both (is_plain_name name) (are_source_dims ns && is_source_initializer init) s in
      let q = both (are_source_dims ns) (is_source_initializer init) p.1 in
      chained (last_quiet at ns q.0) (λ n k. chained (varchar_member_quiet at n) (λ own l. chained (outer_quiet at ns q.0) (λ sizes g. chained (elements_quiet at own stars sizes) (λ e r. chained (demand_quiet _ _ _) (λ a u. chained (init_parts_quiet at init q.1) (λ b v. named_plain at name _ ms p.0 h))))))

  pub lengths_quiet : (at : Place) (ds : DimList) → are_source_dims ds ≡ true → Quiet (lengths at ds)
  lengths_quiet at no_dims s = pure_holds _ tt
  lengths_quiet at (dims d ds) s = let p = both (is_source_dim d) (are_source_dims ds) s in chained (length_at_quiet at d p.0) (λ n h. chained (lengths_quiet at ds p.1) (λ ns k. pure_holds _ tt))

  pub last_quiet : (at : Place) (ds : DimList) → are_source_dims ds ≡ true → Quiet (last_length at ds)
  last_quiet at no_dims s = pure_holds _ tt
  last_quiet at (dims d no_dims) s = length_at_quiet at d (both (is_source_dim d) true s).0
  last_quiet at (dims d (dims e ds)) s = last_quiet at (dims e ds) (both (is_source_dim d) (are_source_dims (dims e ds)) s).1

  pub outer_quiet : (at : Place) (ds : DimList) → are_source_dims ds ≡ true → Quiet (outer_lengths at ds)
  outer_quiet at no_dims s = pure_holds _ tt
  outer_quiet at (dims d no_dims) s = pure_holds _ tt
  outer_quiet at (dims d (dims e ds)) s = let p = both (is_source_dim d) (are_source_dims (dims e ds)) s in chained (length_at_quiet at d p.0) (λ n h. chained (outer_quiet at (dims e ds) p.1) (λ ns k. pure_holds _ tt))

  length_at_quiet : (at : Place) (d : DimData) → is_source_dim d ≡ true → Quiet (length_at at d)
  length_at_quiet at open_dim s = pure_holds _ tt
  length_at_quiet at (dim e) s = chained (valued at (expr_quiet at e s)) (λ o h. length_quiet at o)

  init_parts_quiet : (at : Place) (i : InitOption) → is_source_initializer i ≡ true → Quiet (init_parts at i)
  init_parts_quiet at no_init s = pure_holds _ tt
  init_parts_quiet at (some_init i) s = init_exprs_quiet at i s

  init_exprs_quiet : (at : Place) (i : InitData) → is_source_init i ≡ true → Quiet (init_exprs at i)
  init_exprs_quiet at (one e) s = chained (valued at (expr_quiet at e s)) (λ o h. pure_holds _ tt)
  init_exprs_quiet at (many no_inits) s = absurd (false≢true s)
  init_exprs_quiet at (many (inits i is)) s = all_init_quiet at (inits i is) s

  all_init_quiet : (at : Place) (is : InitList) → are_source_inits is ≡ true → Quiet (all_init_exprs at is)
  all_init_quiet at no_inits s = pure_holds _ tt
  all_init_quiet at (inits i is) s = let p = both (is_source_init i) (are_source_inits is) s in chained (init_exprs_quiet at i p.0) (λ a h. all_init_quiet at is p.1)
