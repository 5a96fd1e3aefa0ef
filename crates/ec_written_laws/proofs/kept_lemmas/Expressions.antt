-- Expressions, types and members in which the rules find nothing.
use Rattle.std.proofs.Common.{◌≡◌, ℕ, Bool, true, false, not, ◌&&◌, ◌||◌, [], ◌∷◌, map, refl, sym, ◌∙◌, Option, Some, None, arith}
use Rattle.std.specs.Prelude.{codes, nat_le, nat_eq, ◌+◌, ◌-◌, if◌then◌else◌}
use Rattle.std.proofs.lemmas.Bool.{false≢true}
use Rattle.std.proofs.lemmas.Bool.Decides.{nat_tests}
use Rattle.ec_ctypes.specs.declared.tree.expr.UnOp.{UnOp}
use Rattle.ec_ctypes.specs.declared.tree.expr.UnOp.TheVariants.{Addr, Deref, Plus, Minus, Not, Flip}
use Rattle.ec_ctypes.specs.trees.Types.{TyData}
use Rattle.ec_ctypes.specs.trees.Exprs.{ExprData, integer, character, string, identifier, unary, binary, assign, bump, call, call_other, index, member, arrow, cast, size_type, size_expr, ExprList, no_exprs, exprs, BaseData, words, varchar, tagged, struct_base, DimData, open_dim, dim, DimList, no_dims, dims, InitData, one, many, InitList, no_inits, inits, InitOption, no_init, some_init, DeclaratorData, declarator, DeclaratorList, no_declarators, declarators, DeclData, decl, DeclList, no_decls, decls}
use Rattle.ec_language.specs.Letters.{Text, each, same_text, same_word, is_upper, lower}
use Rattle.ec_language.proofs.Classes.{neither, turn_not}
use Rattle.ec_language.proofs.Ends.{both}
use Rattle.ec_typing_defs.specs.Known.{ArgumentsData, all_expressions, stream_first, with_symbols, is_identifier, is_no_expression, raised, reserved_words, names_in, known_functions, begins_with, is_reserved_tag}
use Rattle.ec_typing_defs.specs.Operands.{OperandData, value_rule, unary_rule}
use Rattle.ec_typing_defs.specs.Tables.{is_one_of}
use Rattle.ec_typing_defs.specs.Worlds.{Place, MembersData, unlisted, begun, listed, Rule, World, chain, free_tag, tag_up, with_tag}
use Rattle.ec_typing_defs.specs.Expressions.{Members, type_or_fault, tag_type, tag_rule, tagged_struct, begin_again, begin_by, begin_struct, end_struct, member_named, is_varchar, varchar_tag, varchar_struct, varchar_object, varchar_member, expr, args, base, members, member_decl, member_items, member_item, lengths, last_length, outer_lengths, length_at, init_parts, init_exprs, all_init_exprs}
use Rattle.ec_written_laws.specs.source.Kept.{keeps_tag, keeps_expr, keeps_exprs, keeps_type, keeps_base, keeps_members, keeps_decl, keeps_dim, keeps_dims, keeps_init, keeps_inits, keeps_initializer, keeps_declarator, keeps_declarators}
use Rattle.ec_written_laws.specs.kept.Phases.{by_checks}
use Rattle.ec_written_laws.proofs.kept_lemmas.Rules.{join, may_be_tag, clean_tags, clean_scopes, is_clean, put_clean, tag_up_is, Holds, Quiet, quiet_of, chained, gives, asked, pure_holds, fault, demand_holds, demand_quiet, keep_quiet, change_holds, place_quiet, chosen, new_struct_quiet, set_struct_quiet, free_name_quiet}
use Rattle.ec_written_laws.proofs.kept_lemmas.Operands.{elements_quiet, name_quiet, value_quiet, address_quiet, unary_quiet, binary_quiet, index_quiet, assign_quiet, compound_quiet, bump_quiet, call_quiet, member_quiet, arrow_quiet, cast_quiet, size_quiet, length_quiet, within_quiet, complete_quiet}

-- ---- tags

raised_byte : (b c : ℕ) → is_upper c ≡ true → nat_eq (lower b) (lower c) ≡ true → nat_eq (raised b) c ≡ true
raised_byte b c u h = go (is_upper b) refl (sym there ∙ h)
  where
    there : nat_eq (lower b) (lower c) ≡ nat_eq (lower b) (c + 32)
    there i = nat_eq (lower b) (if u i then c + 32 else c)

    range : (nat_le 65 c ≡ true) × (nat_le c 90 ≡ true)
    range = both (nat_le 65 c) (nat_le c 90) u

    go : (x : Bool) → is_upper b ≡ x → nat_eq (if x then b + 32 else b) (c + 32) ≡ true → nat_eq (if nat_le 97 b && nat_le b 122 then b - 32 else b) c ≡ true
    go true e k =
        let l = range.0 in
        let m = range.1 in
        let low : nat_le 97 b ≡ false = grind (arith, nat_tests) in
        let same : nat_eq b c ≡ true = grind (arith, nat_tests) in
        (λ i. nat_eq (if low i && nat_le b 122 then b - 32 else b) c) ∙ same
    go false e k =
        let l = range.0 in
        let m = range.1 in
        let low : nat_le 97 b ≡ true = grind (arith, nat_tests) in
        let high : nat_le b 122 ≡ true = grind (arith, nat_tests) in
        let same : nat_eq (b - 32) c ≡ true = grind (arith, nat_tests) in
        (λ i. nat_eq (if low i && high i then b - 32 else b) c) ∙ same

raised_word : (t u : Text) → each is_upper u ≡ true → same_text (map lower t) (map lower u) ≡ true → same_text (map raised t) u ≡ true
raised_word [] [] e h = refl
raised_word [] (c ∷ u) e h = absurd (false≢true h)
raised_word (b ∷ t) [] e h = absurd (false≢true h)
raised_word (b ∷ t) (c ∷ u) e h =
    let p = both (is_upper c) (each is_upper u) e in
    let q = both (nat_eq (lower b) (lower c)) (same_text (map lower t) (map lower u)) h in
    join (raised_byte b c p.0 q.0) (raised_word t u p.1 q.1)

not_exec : (written : Bool) (t : Text) → not (is_reserved_tag written t) ≡ true → may_be_tag t ≡ true
not_exec written t h = go (same_word t (codes "EXEC")) refl
  where
    last : same_text (map raised t) (codes "EXEC") ≡ false
    last =
        (neither
        (is_one_of reserved_words t || is_one_of (names_in known_functions) t || begins_with (codes "ECPG") t || (not written && begins_with (codes "varchar_") t))
        (same_text (map raised t) (codes "EXEC")) (turn_not _ h)).1

    go : (b : Bool) → same_word t (codes "EXEC") ≡ b → not b ≡ true
    go true e = absurd (false≢true (sym last ∙ raised_word t (codes "EXEC") refl e))
    go false e = refl

pub free_tag_holds : (at : Place) (t : Text) → Holds (free_tag at t) (may_be_tag t ≡ true)
unfolding free_tag
free_tag_holds at t = asked _ _ (λ w c. gives (demand_holds _ _ _) (λ e. not_exec w.written t e))

tag_holds : (at : Place) (t : Text) → Holds (tag_rule at t) (may_be_tag t ≡ true)
unfolding tag_rule
tag_holds at t = asked _ _ (λ w c. go w c (tag_up t w) refl)
  where
    go : (w : World) → is_clean w ≡ true → (x : Option ℕ) → tag_up t w ≡ x → Holds (tag_type at x) (may_be_tag t ≡ true)
    go w c (Some k) e = pure_holds _ (tag_up_is t k w c e)
    go w c None e = fault _ _ _

-- ---- structs

with_tag_clean : (t : Text) (k : ℕ) (w : World) → may_be_tag t ≡ true → is_clean w ≡ true → is_clean (with_tag t k w) ≡ true
with_tag_clean t k w h c = let p = both (clean_tags w.here.tags) (clean_scopes w.outer) c in join (put_clean t k w.here.tags h p.0) p.1

pub tagged_quiet : (t : Text) (ms : MembersData) → may_be_tag t ≡ true → Quiet (tagged_struct t ms)
unfolding tagged_struct
tagged_quiet t ms h = chained (new_struct_quiet _) (λ k p. chained (change_holds _ (λ w c. with_tag_clean t k w h c)) (λ a q. pure_holds _ tt))

again_quiet : (at : Place) (t : Text) (k : ℕ) (ms : Option MembersData) → may_be_tag t ≡ true → Quiet (begin_again at t k ms)
again_quiet at t k (Some unlisted) h = chained (set_struct_quiet _ _) (λ a p. pure_holds _ tt)
again_quiet at t k (Some begun) h = fault _ _ _
again_quiet at t k (Some (listed ms)) h = fault _ _ _
again_quiet at t k None h = fault _ _ _

by_quiet : (at : Place) (t : Text) (k : Option ℕ) → may_be_tag t ≡ true → Quiet (begin_by at t k)
by_quiet at t None h = tagged_quiet t begun h
by_quiet at t (Some k) h = asked _ _ (λ w c. again_quiet at t k _ h)

begin_holds : (at : Place) (t : Option Text) → Holds (begin_struct at t) (keeps_tag by_checks t ≡ true)
unfolding begin_struct
begin_holds at None = gives (new_struct_quiet _) (λ u. refl)
begin_holds at (Some t) = chained (free_tag_holds at t) (λ a h. asked _ _ (λ w c. gives (by_quiet at t _ h) (λ u. h)))

end_quiet : (at : Place) (t : Option Text) (k : ℕ) (ms : Members) → Quiet (end_struct at t k ms)
unfolding end_struct
end_quiet at t k ms = asked _ _ (λ w c. asked _ _ (λ v d. chained (set_struct_quiet _ _) (λ a p. chained (change_holds _ (λ x y. y)) (λ b q. chained (keep_quiet _ _ _) (λ e r. pure_holds _ tt)))))

words_quiet : (at : Place) (t : Option TyData) → Quiet (type_or_fault at t)
unfolding type_or_fault
words_quiet at (Some t) = pure_holds _ tt
words_quiet at None = fault _ _ _

named_quiet : (at : Place) (name : Text) (t : Option TyData) (ms : Members) → Quiet (member_named at name t ms)
unfolding member_named
named_quiet at name t ms = chained (within_quiet at t) (λ a p. chained (complete_quiet at t) (λ b q. chained (demand_quiet _ _ _) (λ c r. chained (free_name_quiet at name) (λ d s. pure_holds _ tt))))

varchar_quiet : (at : Place) (t : Option Text) (n : Option ℕ) → Quiet (varchar_struct at t n)
unfolding varchar_struct
varchar_quiet at t n = asked _ _ (λ w c. chained (new_struct_quiet _) (λ k p. chained (change_holds _ (λ x y. y)) (λ a q. chained (keep_quiet _ _ _) (λ b r. pure_holds _ tt))))

pub varchar_object_quiet : (at : Place) (name : Text) (n : Option ℕ) → Quiet (varchar_object at name n)
unfolding varchar_object
varchar_object_quiet at name n = chained (varchar_quiet at _ n) (λ k p. asked _ _ (λ w c. chained (change_holds _ (λ x y. with_tag_clean (varchar_tag name) k x refl y)) (λ a q. chained (demand_quiet _ _ _) (λ b r. pure_holds _ tt))))

varchar_member_quiet : (at : Place) (n : Option ℕ) → Quiet (varchar_member at n)
unfolding varchar_member
varchar_member_quiet at n = chained (varchar_quiet at _ n) (λ k p. pure_holds _ tt)

-- ---- the parts

pub valued : (at : Place) {m : Rule OperandData} {Q : Type 0} → Holds m Q → Holds (chain m (value_rule at)) Q
valued at h = chained h (λ o q. gives (value_quiet at o) (λ u. q))

unary_by : (at : Place) (op : UnOp) {m : Rule OperandData} {Q : Type 0} → Holds m Q → Holds (chain (chain m (value_rule at)) (unary_rule at op)) Q
unary_by at op h = chained (valued at h) (λ o q. gives (unary_quiet at op o) (λ u. q))

pub as_type : (b : BaseData) → keeps_base by_checks b ≡ true → keeps_type by_checks b ≡ true
as_type varchar h = refl
as_type (words ws) h = refl
as_type (tagged t) h = h
as_type (struct_base t ms) h = h

no_expression : (forms : ArgumentsData) (e : ExprData) → is_no_expression forms e ≡ true → keeps_expr by_checks e ≡ true
no_expression all_expressions e h = absurd (false≢true h)
no_expression stream_first (identifier x) h = refl
no_expression stream_first _ h = absurd (false≢true h)
no_expression with_symbols (identifier x) h = refl
no_expression with_symbols _ h = absurd (false≢true h)

chosen_by : {A : Type 0} (b : Bool) {x y : Rule A} {Q : Type 0} → (b ≡ true → Holds x Q) → Holds y Q → Holds (elim b [ true ↦ x | false ↦ y ]) Q
chosen_by true h k = h refl
chosen_by false h k = k

abbrev keeps_last : DimList → Bool
keeps_last no_dims = true
keeps_last (dims d no_dims) = keeps_dim by_checks d
keeps_last (dims d (dims e ds)) = keeps_last (dims e ds)

abbrev keeps_outer : DimList → Bool
keeps_outer no_dims = true
keeps_outer (dims d no_dims) = true
keeps_outer (dims d (dims e ds)) = keeps_dim by_checks d && keeps_outer (dims e ds)

pub all_dims : (ds : DimList) → keeps_last ds ≡ true → keeps_outer ds ≡ true → keeps_dims by_checks ds ≡ true
all_dims no_dims h k = refl
all_dims (dims d no_dims) h k = join h refl
all_dims (dims d (dims e ds)) h k = let p = both (keeps_dim by_checks d) (keeps_outer (dims e ds)) k in join p.0 (all_dims (dims e ds) h p.1)

mutual
  pub expr_kept : (at : Place) (e : ExprData) → Holds (expr at e) (keeps_expr by_checks e ≡ true)
  expr_kept at (integer n t) = pure_holds _ refl
  expr_kept at (character c) = pure_holds _ refl
  expr_kept at (string s) = pure_holds _ refl
  expr_kept at (identifier x) = gives (name_quiet at x) (λ u. refl)
  expr_kept at (unary Addr e) = chained (expr_kept at e) (λ o h. gives (address_quiet at o) (λ u. h))
  expr_kept at (unary Deref e) = unary_by at Deref (expr_kept at e)
  expr_kept at (unary Plus e) = unary_by at Plus (expr_kept at e)
  expr_kept at (unary Minus e) = unary_by at Minus (expr_kept at e)
  expr_kept at (unary Not e) = unary_by at Not (expr_kept at e)
  expr_kept at (unary Flip e) = unary_by at Flip (expr_kept at e)
  expr_kept at (binary op a b) = chained (valued at (expr_kept at a)) (λ x h. chained (valued at (expr_kept at b)) (λ y k. gives (binary_quiet at op x y) (λ u. join h k)))
  expr_kept at (assign None a b) = chained (expr_kept at a) (λ x h. chained (valued at (expr_kept at b)) (λ y k. gives (assign_quiet at x y) (λ u. join h k)))
  expr_kept at (assign (Some op) a b) = chained (expr_kept at a) (λ x h. chained (valued at (expr_kept at b)) (λ y k. gives (compound_quiet at op x y) (λ u. join h k)))
  expr_kept at (bump before up e) = chained (expr_kept at e) (λ o h. gives (bump_quiet at o) (λ u. h))
  expr_kept at (call f es) = asked _ _ (λ w c. chained (args_kept at _ es) (λ os h. gives (call_quiet at f es os) (λ u. h)))
  expr_kept at (call_other f es) = chained (chosen (is_identifier f) (pure_holds _ tt) (quiet_of (expr_kept at f))) (λ a p. chained (args_kept at all_expressions es) (λ os h. fault _ _ _))
  expr_kept at (index a b) = chained (valued at (expr_kept at a)) (λ x h. chained (valued at (expr_kept at b)) (λ y k. gives (index_quiet at x y) (λ u. join h k)))
  expr_kept at (member e m) = chained (expr_kept at e) (λ o h. gives (member_quiet at o m) (λ u. h))
  expr_kept at (arrow e m) = chained (valued at (expr_kept at e)) (λ o h. gives (arrow_quiet at o m) (λ u. h))
  expr_kept at (cast b stars e) = chained (base_kept at b) (λ t h. chained (expr_kept at e) (λ o k. gives (cast_quiet at _ o) (λ u. join (as_type b h) k)))
  expr_kept at (size_type b stars) = chained (base_kept at b) (λ t h. gives (size_quiet at _) (λ u. as_type b h))
  expr_kept at (size_expr e) = chained (expr_kept at e) (λ o h. gives (size_quiet at o.type) (λ u. h))

  args_kept : (at : Place) (forms : ArgumentsData) (es : ExprList) → Holds (args at forms es) (keeps_exprs by_checks es ≡ true)
  args_kept at forms no_exprs = pure_holds _ refl
  args_kept at forms (exprs e es) =
      chained (chosen_by (is_no_expression forms e) (λ i. pure_holds _ (no_expression forms e i)) (valued at (expr_kept at e))) (λ o h. chained (args_kept at _ es) (λ os k. pure_holds _ (join h k)))

  pub base_kept : (at : Place) (b : BaseData) → Holds (base at b) (keeps_base by_checks b ≡ true)
  base_kept at (words ws) = gives (words_quiet at _) (λ u. refl)
  base_kept at varchar = pure_holds _ refl
  base_kept at (tagged t) = tag_holds at t
  base_kept at (struct_base t ds) = chained (begin_holds at t) (λ k h. chained (members_kept ds []) (λ ms g. gives (end_quiet at t k ms) (λ u. join h g)))

  members_kept : (ds : DeclList) (ms : Members) → Holds (members ds ms) (keeps_members by_checks ds ≡ true)
  members_kept no_decls ms = pure_holds _ refl
  members_kept (decls d ds) ms = chained (member_decl_kept d ms) (λ more h. gives (members_kept ds more) (λ k. join h k))

  member_decl_kept : (d : DeclData) (ms : Members) → Holds (member_decl d ms) (keeps_decl by_checks d ≡ true)
  member_decl_kept (decl b items section line) ms = chained (place_quiet line) (λ at p. chained (base_kept at b) (λ t h. gives (items_kept at (is_varchar b) t items ms) (λ k. join h k)))

  items_kept : (at : Place) (v : Bool) (t : Option TyData) (ds : DeclaratorList) (ms : Members) → Holds (member_items at v t ds ms) (keeps_declarators by_checks ds ≡ true)
  items_kept at v t no_declarators ms = pure_holds _ refl
  items_kept at v t (declarators d ds) ms = chained (item_kept at v t d ms) (λ more h. gives (items_kept at v t ds more) (λ k. join h k))

  item_kept : (at : Place) (v : Bool) (t : Option TyData) (d : DeclaratorData) (ms : Members) → Holds (member_item at v t d ms) (keeps_declarator by_checks d ≡ true)
  item_kept at false t (declarator stars name ns init) ms =
      chained (lengths_kept at ns) (λ sizes h. chained (elements_quiet at t stars sizes) (λ e r. chained (demand_quiet _ _ _) (λ a p. chained (init_parts_kept at init) (λ b k. gives (named_quiet at name _ ms) (λ u. join h k)))))
  item_kept at true t (declarator stars name ns init) ms =
      chained (last_kept at ns) (λ n h. chained (varchar_member_quiet at n) (λ own p. chained (outer_kept at ns) (λ sizes g. chained (elements_quiet at own stars sizes) (λ e r. chained (demand_quiet _ _ _) (λ a q. chained (init_parts_kept at init) (λ b k. gives (named_quiet at name _ ms) (λ u. join (all_dims ns h g) k)))))))

  pub lengths_kept : (at : Place) (ds : DimList) → Holds (lengths at ds) (keeps_dims by_checks ds ≡ true)
  lengths_kept at no_dims = pure_holds _ refl
  lengths_kept at (dims d ds) = chained (length_kept at d) (λ n h. chained (lengths_kept at ds) (λ ns k. pure_holds _ (join h k)))

  pub last_kept : (at : Place) (ds : DimList) → Holds (last_length at ds) (keeps_last ds ≡ true)
  last_kept at no_dims = pure_holds _ refl
  last_kept at (dims d no_dims) = length_kept at d
  last_kept at (dims d (dims e ds)) = last_kept at (dims e ds)

  pub outer_kept : (at : Place) (ds : DimList) → Holds (outer_lengths at ds) (keeps_outer ds ≡ true)
  outer_kept at no_dims = pure_holds _ refl
  outer_kept at (dims d no_dims) = pure_holds _ refl
  outer_kept at (dims d (dims e ds)) = chained (length_kept at d) (λ n h. chained (outer_kept at (dims e ds)) (λ ns k. pure_holds _ (join h k)))

  length_kept : (at : Place) (d : DimData) → Holds (length_at at d) (keeps_dim by_checks d ≡ true)
  length_kept at open_dim = pure_holds _ refl
  length_kept at (dim e) = chained (valued at (expr_kept at e)) (λ o h. gives (length_quiet at o) (λ u. h))

  init_parts_kept : (at : Place) (i : InitOption) → Holds (init_parts at i) (keeps_initializer by_checks i ≡ true)
  init_parts_kept at no_init = pure_holds _ refl
  init_parts_kept at (some_init i) = init_exprs_kept at i

  init_exprs_kept : (at : Place) (i : InitData) → Holds (init_exprs at i) (keeps_init by_checks i ≡ true)
  init_exprs_kept at (one e) = chained (valued at (expr_kept at e)) (λ o h. pure_holds _ h)
  init_exprs_kept at (many is) = all_init_kept at is

  all_init_kept : (at : Place) (is : InitList) → Holds (all_init_exprs at is) (keeps_inits by_checks is ≡ true)
  all_init_kept at no_inits = pure_holds _ refl
  all_init_kept at (inits i is) = chained (init_exprs_kept at i) (λ a h. gives (all_init_kept at is) (λ k. join h k))
