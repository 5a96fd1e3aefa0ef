-- How many first types structs have behind expressions, and types and declarators in them.
use Rattle.std.proofs.Common.{◌≡◌, ◌≤◌, ℕ, suc, ◌+◌, ◌*◌, Bool, true, false, [], length, refl, Option, Some, None, arith}
use Rattle.ec_base.specs.declared.fault.FaultKind.TheVariants.{F10}
use Rattle.ec_ctypes.specs.declared.tree.expr.UnOp.{UnOp}
use Rattle.ec_ctypes.specs.declared.tree.expr.UnOp.TheVariants.{Addr, Deref, Plus, Minus, Not, Flip}
use Rattle.ec_ctypes.specs.trees.Types.{TyData}
use Rattle.ec_ctypes.specs.trees.Exprs.{ExprData, integer, character, string, identifier, unary, binary, assign, bump, call, call_other, index, member, arrow, cast, size_type, size_expr, ExprList, no_exprs, exprs, BaseData, words, varchar, tagged, struct_base, DimData, open_dim, dim, DimList, no_dims, dims, InitData, one, many, InitList, no_inits, inits, InitOption, no_init, some_init, DeclaratorData, declarator, DeclaratorList, no_declarators, declarators, DeclData, decl, DeclList, no_decls, decls}
use Rattle.ec_language.specs.Letters.{Text}
use Rattle.ec_typing_defs.specs.Known.{ArgumentsData, all_expressions, is_identifier, is_no_expression}
use Rattle.ec_typing_defs.specs.Operands.{OperandData, value_rule, unary_rule}
use Rattle.ec_typing_defs.specs.Worlds.{Place, MembersData, unlisted, begun, listed, StructInfo, Rule, chain, struct_named}
use Rattle.ec_typing_defs.specs.Expressions.{Members, tagged_struct, closed_struct, begin_again, begin_by, begin_struct, end_struct, is_varchar, varchar_struct, varchar_object, varchar_member, expr, args, base, members, member_decl, member_items, member_item, lengths, last_length, outer_lengths, length_at, init_parts, init_exprs, all_init_exprs}
use Rattle.ec_sim_world_laws.proofs.known_lemmas.SitesIdle.{fault, demand_idle, keep_idle, free_tag_idle}
use Rattle.ec_sim_world_laws.proofs.known_lemmas.SitesChecks.{words_idle, tag_idle, named_idle}
use Rattle.ec_sim_world_laws.proofs.known_lemmas.SitesOperands.{elements_idle, name_idle, value_idle, address_idle, unary_idle, binary_idle, index_idle, assign_idle, compound_idle, bump_idle, call_idle, member_idle, arrow_idle, cast_idle, size_idle, length_idle}
use Rattle.ec_sim_program_laws.specs.types.Flat.{IsFlat, AreFlat, BaseIsFlat, MembersAreFlat, DeclIsFlat, ItemsAreFlat, ItemIsFlat, DimsAreFlat, DimIsFlat, InitIsFlat, PartIsFlat, PartsAreFlat}
use Rattle.ec_sim_program_laws.proofs.flat_lemmas.Counts.{expr_structs, exprs_structs, base_structs, members_structs, decl_structs, items_structs, item_structs, dims_structs, dim_structs, init_structs, part_structs, parts_structs, last_structs, outer_structs, all_dims}
use Rattle.ec_sim_program_laws.proofs.flat_lemmas.FirstRules.{AreShort, members_first, Adds, chained, chained_with, within, nothing, idle, then_idle, pure_adds, asked, asked_with, noted, same_adds, place_adds, chosen, close_adds, new_struct_adds, set_struct_adds}
use Rattle.ec_sim_program_laws.proofs.flat_lemmas.FirstMembers.{members_short}

-- ---- structs

pub tagged_adds : (n : ℕ) (t : Text) (ms : MembersData) → Adds n n (tagged_struct t ms)
unfolding tagged_struct
tagged_adds n t ms = chained (new_struct_adds {n = n} {m = n} (struct_named (Some t) ms) (omega arith) (omega arith)) (λ k. chained (same_adds _ (λ w. refl)) (λ a. pure_adds k))

again_adds : (n : ℕ) (at : Place) (t : Text) (k : ℕ) (ms : Option MembersData) → Adds n n (begin_again at t k ms)
again_adds n at t k (Some unlisted) = chained (set_struct_adds {n = n} {m = n} k (struct_named (Some t) begun) (omega arith) (omega arith)) (λ a. pure_adds k)
again_adds n at t k (Some begun) = noted at F10 _ (tagged_adds n t begun)
again_adds n at t k (Some (listed ms)) = noted at F10 _ (tagged_adds n t begun)
again_adds n at t k None = noted at F10 _ (tagged_adds n t begun)

by_adds : (n : ℕ) (at : Place) (t : Text) (k : Option ℕ) → Adds n n (begin_by at t k)
by_adds n at t None = tagged_adds n t begun
by_adds n at t (Some k) = asked _ _ (λ ms. again_adds n at t k ms)

begin_adds : (n : ℕ) (at : Place) (t : Option Text) → Adds n n (begin_struct at t)
unfolding begin_struct
begin_adds n at None = new_struct_adds {n = n} {m = n} (struct_named None begun) (omega arith) (omega arith)
begin_adds n at (Some t) = chained (idle (free_tag_idle at t)) (λ a. asked _ _ (λ before. by_adds n at t before))

-- the first types of the struct are so many at most
abbrev BeginsUpTo : ℕ → StructInfo → Type 0
BeginsUpTo n info = length info.first ≤ 66 * n

end_adds : (n : ℕ) (at : Place) (t : Option Text) (k : ℕ) (ms : Members) → AreShort ms → Adds n (suc n) (end_struct at t k ms)
unfolding end_struct
end_adds n at t k ms s =
    asked _ _ (λ shape. asked_with (BeginsUpTo (suc n)) (closed_struct t ms shape) _ (λ w u. members_first n w.structs ms u s) (λ info q.
    chained (set_struct_adds {n = n} {m = suc n} k info (omega arith) q) (λ a. chained (close_adds k) (λ b. chained (idle (keep_idle _ _ _)) (λ c. pure_adds _)))))

varchar_adds : (n : ℕ) (at : Place) (t : Option Text) (m : Option ℕ) → Adds n (suc n) (varchar_struct at t m)
unfolding varchar_struct
varchar_adds n at t m =
    asked_with (BeginsUpTo (suc n)) _ _ (λ w u. omega arith) (λ info q. chained (new_struct_adds {n = n} {m = suc n} info (omega arith) q) (λ k. chained (close_adds k) (λ a. chained (idle (keep_idle _ _ _)) (λ b. pure_adds k))))

pub varchar_object_adds : (n : ℕ) (at : Place) (name : Text) (m : Option ℕ) → Adds n (suc n) (varchar_object at name m)
unfolding varchar_object
varchar_object_adds n at name m = chained (varchar_adds n at _ m) (λ k. asked _ _ (λ before. chained (same_adds _ (λ w. refl)) (λ a. chained (idle (demand_idle _ _ _)) (λ b. pure_adds _))))

varchar_member_adds : (n : ℕ) (at : Place) (m : Option ℕ) → Adds n (suc n) (varchar_member at m)
unfolding varchar_member
varchar_member_adds n at m = chained (varchar_adds n at _ m) (λ k. pure_adds _)

-- ---- the parts

pub valued : {a b : ℕ} (at : Place) {m : Rule OperandData} → Adds a b m → Adds a b (chain m (value_rule at))
valued at h = then_idle h (λ o. value_idle at o)

unary_by : {a b : ℕ} (at : Place) (op : UnOp) {m : Rule OperandData} → Adds a b m → Adds a b (chain (chain m (value_rule at)) (unary_rule at op))
unary_by at op h = then_idle (valued at h) (λ o. unary_idle at op o)

-- the two parts, one after the other
pub two : (n a b : ℕ) → (n + a) + b ≤ n + (a + b)
two n a b = omega arith

further : (n a : ℕ) → n ≤ n + a
further n a = omega arith

-- a VARCHAR: its last length, its struct, the other lengths and what stands behind them
all_parts : (n last outer all init : ℕ) → last + outer ≡ all → (suc (n + last) + outer) + init ≤ n + suc (all + init)
all_parts n last outer all init e = omega (arith, e)

one_less : (n a b : ℕ) → (n + a) + b ≤ n + suc (a + b)
one_less n a b = omega arith

one_more : (n a : ℕ) → suc (n + a) ≤ n + suc a
one_more n a = omega arith

mutual
  pub expr_adds : (n : ℕ) (at : Place) (e : ExprData) → IsFlat e → Adds n (n + expr_structs e) (expr at e)
  expr_adds n at (integer k t) f = nothing (pure_adds _)
  expr_adds n at (character c) f = nothing (pure_adds _)
  expr_adds n at (string s) f = nothing (pure_adds _)
  expr_adds n at (identifier x) f = nothing (idle (name_idle at x))
  expr_adds n at (unary Addr e) f = then_idle (expr_adds n at e f) (λ o. address_idle at o)
  expr_adds n at (unary Deref e) f = unary_by at Deref (expr_adds n at e f)
  expr_adds n at (unary Plus e) f = unary_by at Plus (expr_adds n at e f)
  expr_adds n at (unary Minus e) f = unary_by at Minus (expr_adds n at e f)
  expr_adds n at (unary Not e) f = unary_by at Not (expr_adds n at e f)
  expr_adds n at (unary Flip e) f = unary_by at Flip (expr_adds n at e f)
  expr_adds n at (binary op a b) f =
      within (chained (valued at (expr_adds n at a f.0)) (λ x. then_idle (valued at (expr_adds (n + expr_structs a) at b f.1)) (λ y. binary_idle at op x y))) (two n (expr_structs a) (expr_structs b))
  expr_adds n at (assign None a b) f =
      within (chained (expr_adds n at a f.0) (λ x. then_idle (valued at (expr_adds (n + expr_structs a) at b f.1)) (λ y. assign_idle at x y))) (two n (expr_structs a) (expr_structs b))
  expr_adds n at (assign (Some op) a b) f =
      within (chained (expr_adds n at a f.0) (λ x. then_idle (valued at (expr_adds (n + expr_structs a) at b f.1)) (λ y. compound_idle at op x y))) (two n (expr_structs a) (expr_structs b))
  expr_adds n at (bump before up e) f = then_idle (expr_adds n at e f) (λ o. bump_idle at o)
  expr_adds n at (call g es) f = asked _ _ (λ forms. then_idle (args_add n at forms es f) (λ os. call_idle at g es os))
  expr_adds n at (call_other g es) f =
      within
      (chained (chosen (is_identifier g) (within (pure_adds _) (further n (expr_structs g))) (expr_adds n at g f.0)) (λ a. then_idle (args_add (n + expr_structs g) at all_expressions es f.1) (λ os. fault _ _ _)))
      (two n (expr_structs g) (exprs_structs es))
  expr_adds n at (index a b) f =
      within (chained (valued at (expr_adds n at a f.0)) (λ x. then_idle (valued at (expr_adds (n + expr_structs a) at b f.1)) (λ y. index_idle at x y))) (two n (expr_structs a) (expr_structs b))
  expr_adds n at (member e m) f = then_idle (expr_adds n at e f) (λ o. member_idle at o m)
  expr_adds n at (arrow e m) f = then_idle (valued at (expr_adds n at e f)) (λ o. arrow_idle at o m)
  expr_adds n at (cast b stars e) f = within (chained (base_adds n at b f.0) (λ t. then_idle (expr_adds (n + base_structs b) at e f.1) (λ o. cast_idle at _ o))) (two n (base_structs b) (expr_structs e))
  expr_adds n at (size_type b stars) f = then_idle (base_adds n at b f) (λ t. size_idle at _)
  expr_adds n at (size_expr e) f = then_idle (expr_adds n at e f) (λ o. size_idle at o.type)

  pub args_add : (n : ℕ) (at : Place) (forms : ArgumentsData) (es : ExprList) → AreFlat es → Adds n (n + exprs_structs es) (args at forms es)
  args_add n at forms no_exprs f = nothing (pure_adds _)
  args_add n at forms (exprs e es) f =
      within
      (chained (chosen (is_no_expression forms e) (within (pure_adds _) (further n (expr_structs e))) (valued at (expr_adds n at e f.0))) (λ o. chained (args_add (n + expr_structs e) at _ es f.1) (λ os. pure_adds _)))
      (two n (expr_structs e) (exprs_structs es))

  pub base_adds : (n : ℕ) (at : Place) (b : BaseData) → BaseIsFlat b → Adds n (n + base_structs b) (base at b)
  base_adds n at (words ws) f = nothing (idle (words_idle at _))
  base_adds n at varchar f = nothing (pure_adds _)
  base_adds n at (tagged t) f = nothing (idle (tag_idle at t))
  base_adds n at (struct_base t ds) f =
      within (chained (begin_adds n at t) (λ k. chained_with AreShort (members_add n ds [] f) (λ w. members_short ds [] w f tt) (λ ms s. end_adds (n + members_structs ds) at t k ms s))) (one_more n (members_structs ds))

  members_add : (n : ℕ) (ds : DeclList) (ms : Members) → MembersAreFlat ds → Adds n (n + members_structs ds) (members ds ms)
  members_add n no_decls ms f = nothing (pure_adds _)
  members_add n (decls d ds) ms f = within (chained (member_decl_adds n d ms f.0) (λ more. members_add (n + decl_structs d) ds more f.1)) (two n (decl_structs d) (members_structs ds))

  member_decl_adds : (n : ℕ) (d : DeclData) (ms : Members) → DeclIsFlat d → Adds n (n + decl_structs d) (member_decl d ms)
  member_decl_adds n (decl b items section line) ms f =
      within (chained (place_adds line) (λ at. chained (base_adds n at b f.0) (λ t. items_add (n + base_structs b) at (is_varchar b) t items ms f.1))) (two n (base_structs b) (items_structs items))

  items_add : (n : ℕ) (at : Place) (v : Bool) (t : Option TyData) (ds : DeclaratorList) (ms : Members) → ItemsAreFlat ds → Adds n (n + items_structs ds) (member_items at v t ds ms)
  items_add n at v t no_declarators ms f = nothing (pure_adds _)
  items_add n at v t (declarators d ds) ms f = within (chained (item_adds n at v t d ms f.0) (λ more. items_add (n + item_structs d) at v t ds more f.1)) (two n (item_structs d) (items_structs ds))

  item_adds : (n : ℕ) (at : Place) (v : Bool) (t : Option TyData) (d : DeclaratorData) (ms : Members) → ItemIsFlat d → Adds n (n + item_structs d) (member_item at v t d ms)
  item_adds n at false t (declarator stars name ns init) ms f =
      within
      (chained (lengths_add n at ns f.1) (λ sizes. chained (idle (elements_idle at t stars sizes)) (λ a. chained (idle (demand_idle _ _ _)) (λ b. then_idle (init_parts_add (n + dims_structs ns) at init f.2) (λ c. named_idle at name _ ms)))))
      (one_less n (dims_structs ns) (init_structs init))
  item_adds n at true t (declarator stars name ns init) ms f =
      within
      (chained (last_adds n at ns f.1) (λ m. chained (varchar_member_adds (n + last_structs ns) at m) (λ own. chained (outer_add (suc (n + last_structs ns)) at ns f.1) (λ sizes. chained (idle (elements_idle at own stars sizes)) (λ a. chained (idle (demand_idle _ _ _)) (λ b.
      then_idle (init_parts_add (suc (n + last_structs ns) + outer_structs ns) at init f.2) (λ c. named_idle at name _ ms)))))))
      (all_parts n (last_structs ns) (outer_structs ns) (dims_structs ns) (init_structs init) (all_dims ns))

  pub lengths_add : (n : ℕ) (at : Place) (ds : DimList) → DimsAreFlat ds → Adds n (n + dims_structs ds) (lengths at ds)
  lengths_add n at no_dims f = nothing (pure_adds _)
  lengths_add n at (dims d ds) f = within (chained (length_at_adds n at d f.0) (λ m. chained (lengths_add (n + dim_structs d) at ds f.1) (λ ns. pure_adds _))) (two n (dim_structs d) (dims_structs ds))

  pub last_adds : (n : ℕ) (at : Place) (ds : DimList) → DimsAreFlat ds → Adds n (n + last_structs ds) (last_length at ds)
  last_adds n at no_dims f = nothing (pure_adds _)
  last_adds n at (dims d no_dims) f = length_at_adds n at d f.0
  last_adds n at (dims d (dims e ds)) f = last_adds n at (dims e ds) f.1

  pub outer_add : (n : ℕ) (at : Place) (ds : DimList) → DimsAreFlat ds → Adds n (n + outer_structs ds) (outer_lengths at ds)
  outer_add n at no_dims f = nothing (pure_adds _)
  outer_add n at (dims d no_dims) f = nothing (pure_adds _)
  outer_add n at (dims d (dims e ds)) f =
      within (chained (length_at_adds n at d f.0) (λ m. chained (outer_add (n + dim_structs d) at (dims e ds) f.1) (λ ns. pure_adds _))) (two n (dim_structs d) (outer_structs (dims e ds)))

  length_at_adds : (n : ℕ) (at : Place) (d : DimData) → DimIsFlat d → Adds n (n + dim_structs d) (length_at at d)
  length_at_adds n at open_dim f = nothing (pure_adds _)
  length_at_adds n at (dim e) f = then_idle (valued at (expr_adds n at e f)) (λ o. length_idle at o)

  init_parts_add : (n : ℕ) (at : Place) (i : InitOption) → InitIsFlat i → Adds n (n + init_structs i) (init_parts at i)
  init_parts_add n at no_init f = nothing (pure_adds _)
  init_parts_add n at (some_init i) f = init_exprs_add n at i f

  init_exprs_add : (n : ℕ) (at : Place) (i : InitData) → PartIsFlat i → Adds n (n + part_structs i) (init_exprs at i)
  init_exprs_add n at (one e) f = chained (valued at (expr_adds n at e f)) (λ o. pure_adds _)
  init_exprs_add n at (many is) f = all_init_add n at is f

  all_init_add : (n : ℕ) (at : Place) (is : InitList) → PartsAreFlat is → Adds n (n + parts_structs is) (all_init_exprs at is)
  all_init_add n at no_inits f = nothing (pure_adds _)
  all_init_add n at (inits i is) f = within (chained (init_exprs_add n at i f.0) (λ a. all_init_add (n + part_structs i) at is f.1)) (two n (part_structs i) (parts_structs is))
