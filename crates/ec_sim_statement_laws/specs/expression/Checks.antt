-- The rules of the checks over operands, types and declarators find the same in what is written: they ask for what is the same in both.
use Rattle.std.specs.Prelude.{◌≡◌, ℕ, Bool, true, false, not, ◌&&◌, ◌||◌, List, [], ◌∷◌, map, Option, Some, None, is_some, option_map, option_and_then, codes}
use Rattle.std.proofs.Common.{◌∙◌, refl, sym}
use Rattle.std.proofs.lemmas.Bool.{true≢false}
use Rattle.ec_base.specs.declared.fault.FaultKind.TheVariants.{F12, F15}
use Rattle.ec_ctypes.specs.Layout.{struct_shape}
use Rattle.ec_ctypes.specs.declared.tree.expr.BinOp.{BinOp}
use Rattle.ec_ctypes.specs.declared.tree.expr.UnOp.{UnOp}
use Rattle.ec_ctypes.specs.declared.tree.expr.UnOp.TheVariants.{Addr, Deref, Plus, Minus, Not, Flip}
use Rattle.ec_ctypes.specs.trees.Types.{TyData}
use Rattle.ec_language.specs.Letters.{Text, same_text}
use Rattle.ec_typing_defs.specs.Tables.{find, is_one_of}
use Rattle.ec_typing_defs.specs.Types.{is_void, is_structure, is_array, binary_type, element_type, is_compound, is_counter, is_assignable, may_be_cast, struct_number, pointed_to}
use Rattle.ec_typing_defs.specs.Known.{known_functions, known_function, names_in, reserved_words, begins_with, raised, is_reserved_tag}
use Rattle.ec_typing_defs.specs.Worlds.{pure as check_pure, Place, EntryData, object, function, MembersData, unlisted, begun, listed, StructInfo, free_name, free_tag, new_struct, set_struct}
use Rattle.ec_typing_defs.specs.Operands.{OperandData, typed, allowed, predefined, named_by, name_rule, value_rule, address_rule, target, found_or_types, target_rule, unary_type, sign_rule, unary_rule, is_null, binary_rule, element_by, index_rule, may_be_set, assigned, assign_rule, compound_rule, bump_rule, arguments_rule, member_by, member_in, member_rule, arrow_rule, scalar_cast, cast_to, cast_rule, size_rule, has_complete_elements, pointers, elements_rule, positive, length_by, length_rule, within_rule, complete_rule}
use Rattle.ec_typing_defs.specs.Expressions.{Members, type_or_fault, tag_type, tag_rule, tagged_struct, begin_again, begin_by, begin_struct, typed_members, end_struct, member_named}
use Rattle.ec_sim_statement_laws.specs.expression.Worlds.{SameStruct}
use Rattle.ec_sim_statement_laws.specs.expression.Known.{next_struct_same, with_structs, with_closed, with_tags, joined_same, set_same, same_struct, look_up_same, tag_up_same, members_same, shapes_same, shape_same, complete_same, completes_same, within_same, member_type_same, first_same}
use Rattle.ec_sim_statement_laws.specs.expression.Rules.{CheckAlike, asked_alike, check_chain_alike, check_pure_alike, check_ask_alike, change_alike, noted_first, demand_alike, within_alike, check_choice, check_either, given_alike, QuietAlike, asked_quietly, demand_quietly, pure_quietly}

module _ (at there : Place) where
  -- ---- types and names

  pub typed_alike : (t : Option TyData) → CheckAlike (typed at t) (typed there t)
  unfolding typed
  typed_alike (Some t) = check_pure_alike _
  typed_alike None = noted_first _ _ _ _

  pub predefined_alike : (name : Text) → CheckAlike (predefined at name) (predefined there name)
  predefined_alike name =
      check_choice (same_text name (codes "sqlca")) _ _ _ _ (check_pure_alike _)
      (check_choice (same_text name (codes "NULL")) _ _ _ _ (check_pure_alike _)
      (check_choice (same_text name (codes "true")) _ _ _ _ (check_pure_alike _)
      (check_choice (same_text name (codes "false")) _ _ _ _ (check_pure_alike _)
      (check_choice (is_some (known_function name)) _ _ _ _
      (noted_first _ _ _ _) (noted_first _ _ _ _)))))

  pub named_alike : (name : Text) (entry : Option EntryData)
      → CheckAlike (named_by at name entry) (named_by there name entry)
  unfolding named_by
  named_alike name (Some (object k global t)) = check_pure_alike _
  named_alike name (Some (function k done r ps)) = noted_first _ _ _ _
  named_alike name None = predefined_alike name

  pub name_alike : (name : Text) → CheckAlike (name_rule at name) (name_rule there name)
  unfolding name_rule
  name_alike name = check_chain_alike _ _ _ _
      (check_ask_alike _ _ (λ w v alike. look_up_same w v alike name))
      (λ entry. named_alike name entry)

  -- ---- operands

  pub value_alike : (o : OperandData) → CheckAlike (value_rule at o) (value_rule there o)
  unfolding value_rule
  value_alike o = given_alike o.type _ _ (λ t. check_chain_alike _ _ _ _
      (check_ask_alike _ _ (λ w v alike. complete_same w v alike t))
      (λ complete. check_either (is_structure t && not complete) _ _ _ _
      (noted_first _ _ _ _) (check_pure_alike _)))

  pub address_alike : (o : OperandData) → CheckAlike (address_rule at o) (address_rule there o)
  unfolding address_rule
  address_alike o = given_alike o.type _ _ (λ t. check_either (o.is_place || o.is_target) _ _ _ _
      (check_pure_alike _) (noted_first _ _ _ _))

  found_alike : (o : Option OperandData)
      → CheckAlike (found_or_types at o) (found_or_types there o)
  found_alike (Some o) = check_pure_alike _
  found_alike None = noted_first _ _ _ _

  target_alike : (o : OperandData) → CheckAlike (target_rule at o) (target_rule there o)
  unfolding target_rule
  target_alike o = given_alike o.type _ _ (λ t. found_alike (option_map (target o.is_fixed) (pointed_to t)))

  sign_alike : (op : UnOp) (o : OperandData) → CheckAlike (sign_rule at op o) (sign_rule there op o)
  unfolding sign_rule
  sign_alike op o = given_alike o.type _ _ (λ t. check_chain_alike _ _ _ _
      (typed_alike (unary_type op t)) (λ answer. check_pure_alike _))

  pub unary_alike : (op : UnOp) (o : OperandData)
      → CheckAlike (unary_rule at op o) (unary_rule there op o)
  unary_alike Addr o = sign_alike Addr o
  unary_alike Deref o = target_alike o
  unary_alike Plus o = sign_alike Plus o
  unary_alike Minus o = sign_alike Minus o
  unary_alike Not o = sign_alike Not o
  unary_alike Flip o = sign_alike Flip o

  pub binary_alike : (op : BinOp) (a b : OperandData)
      → CheckAlike (binary_rule at op a b) (binary_rule there op a b)
  unfolding binary_rule
  binary_alike op a b = given_alike a.type _ _ (λ s. given_alike b.type _ _ (λ t.
      check_chain_alike _ _ _ _ (check_ask_alike _ _ (λ w v alike. λ i.
      binary_type (completes_same w v alike i) op s (is_null a) t (is_null b)))
      (λ ty. check_chain_alike _ _ _ _ (typed_alike ty) (λ answer. check_pure_alike _))))

  element_alike : (t : Option TyData) → CheckAlike (element_by at t) (element_by there t)
  element_alike (Some t) = check_pure_alike _
  element_alike None = noted_first _ _ _ _

  pub index_alike : (a b : OperandData) → CheckAlike (index_rule at a b) (index_rule there a b)
  unfolding index_rule
  index_alike a b = given_alike a.type _ _ (λ s. given_alike b.type _ _ (λ t.
      check_chain_alike _ _ _ _ (check_ask_alike _ _ (λ w v alike. λ i.
      element_type (completes_same w v alike i) s t)) (λ ty. element_alike ty)))

  assigned_alike : (allows : Bool) (s : TyData)
      → CheckAlike (assigned at allows s) (assigned there allows s)
  assigned_alike allows s = check_either (is_array s) _ _ _ _ (check_pure_alike _)
      (typed_alike (allowed allows s))

  pub assign_alike : (a b : OperandData) → CheckAlike (assign_rule at a b) (assign_rule there a b)
  unfolding assign_rule
  assign_alike a b = given_alike a.type _ _ (λ s. check_chain_alike _ _ _ _
      (demand_alike at there F15 (may_be_set a s) (may_be_set a s) (λ e. e))
      (λ _. given_alike b.type _ _ (λ t. assigned_alike (is_assignable s t (is_null b)) s)))

  pub compound_alike : (op : BinOp) (a b : OperandData)
      → CheckAlike (compound_rule at op a b) (compound_rule there op a b)
  unfolding compound_rule
  compound_alike op a b = given_alike a.type _ _ (λ s. check_chain_alike _ _ _ _
      (demand_alike at there F15 (may_be_set a s) (may_be_set a s) (λ e. e))
      (λ _. given_alike b.type _ _ (λ t. check_chain_alike _ _ _ _
      (check_ask_alike _ _ (λ w v alike. λ i. is_compound (completes_same w v alike i) op s t))
      (λ allows. assigned_alike allows s))))

  pub bump_alike : (o : OperandData) → CheckAlike (bump_rule at o) (bump_rule there o)
  unfolding bump_rule
  bump_alike o = given_alike o.type _ _ (λ t. check_chain_alike _ _ _ _
      (demand_alike at there F15 (may_be_set o t) (may_be_set o t) (λ e. e))
      (λ _. check_chain_alike _ _ _ _
      (check_ask_alike _ _ (λ w v alike. λ i. is_counter (completes_same w v alike i) t))
      (λ allows. assigned_alike allows t)))

  pub arguments_alike : (ps : Option (List (Option TyData))) (os : List OperandData)
      → CheckAlike (arguments_rule at ps os) (arguments_rule there ps os)
  arguments_alike None os = check_pure_alike tt
  arguments_alike (Some ps) os = check_chain_alike _ _ _ _ (demand_alike at there _ _ _ (λ e. e))
      (λ _. demand_alike at there _ _ _ (λ e. e))

  -- ---- members

  member_by_alike : (of_place : Bool) (t : Option (Option TyData))
      → CheckAlike (member_by at of_place t) (member_by there of_place t)
  member_by_alike of_place (Some t) = check_pure_alike _
  member_by_alike of_place None = noted_first _ _ _ _

  member_in_alike : (of_place : Bool) (m : Text) (k : Option ℕ)
      → CheckAlike (member_in at of_place m k) (member_in there of_place m k)
  member_in_alike of_place m None = noted_first _ _ _ _
  member_in_alike of_place m (Some k) = check_chain_alike _ _ _ _
      (check_ask_alike _ _ (λ w v alike. member_type_same w v alike m k))
      (λ t. member_by_alike of_place t)

  pub member_alike : (o : OperandData) (m : Text)
      → CheckAlike (member_rule at o m) (member_rule there o m)
  unfolding member_rule
  member_alike o m = given_alike o.type _ _ (λ t. member_in_alike o.is_place m (struct_number t))

  pub arrow_alike : (o : OperandData) (m : Text)
      → CheckAlike (arrow_rule at o m) (arrow_rule there o m)
  unfolding arrow_rule
  arrow_alike o m = given_alike o.type _ _ (λ t.
      member_in_alike true m (option_and_then struct_number (pointed_to t)))

  -- ---- casts and sizes

  scalar_cast_alike : (s : TyData) (o : OperandData)
      → CheckAlike (scalar_cast at s o) (scalar_cast there s o)
  unfolding scalar_cast
  scalar_cast_alike s o = given_alike o.type _ _ (λ t. check_chain_alike _ _ _ _
      (typed_alike (allowed (may_be_cast s t) s)) (λ answer. check_pure_alike _))

  cast_to_alike : (o : OperandData) (s : TyData) → CheckAlike (cast_to at o s) (cast_to there o s)
  cast_to_alike o s = check_either (is_void s) _ _ _ _
      (given_alike o.type _ _ (λ t. check_pure_alike _))
      (check_chain_alike _ _ _ _ (value_alike o) (λ x. scalar_cast_alike s x))

  pub cast_alike : (to : Option TyData) (o : OperandData)
      → CheckAlike (cast_rule at to o) (cast_rule there to o)
  unfolding cast_rule
  cast_alike to o = given_alike to _ _ (λ s. cast_to_alike o s)

  pub size_alike : (ty : Option TyData) → CheckAlike (size_rule at ty) (size_rule there ty)
  unfolding size_rule
  size_alike ty = given_alike ty _ _ (λ t. check_chain_alike _ _ _ _
      (check_ask_alike _ _ (λ w v alike. complete_same w v alike t))
      (λ complete. check_chain_alike _ _ _ _
      (check_ask_alike _ _ (λ w v alike. shape_same w v alike t))
      (λ shape. check_either complete _ _ _ _ (check_pure_alike _) (noted_first _ _ _ _))))

  -- ---- declarators

  pub elements_alike : (t : Option TyData) (stars : ℕ) (ns : List (Option ℕ))
      → CheckAlike (elements_rule at t stars ns) (elements_rule there t stars ns)
  elements_alike None stars ns = check_pure_alike tt
  elements_alike (Some t) stars ns = check_chain_alike _ _ _ _
      (check_ask_alike _ _ (λ w v alike. λ i.
      has_complete_elements (completes_same w v alike i) (pointers stars t) ns))
      (λ complete. demand_alike at there _ _ _ (λ e. e))

  pub elements_quietly : (t : Option TyData) (stars : ℕ) (ns : List (Option ℕ))
      → QuietAlike (elements_rule at t stars ns) (elements_rule there t stars ns)
  elements_quietly None stars ns = pure_quietly
  elements_quietly (Some t) stars ns = asked_quietly _ _ _ _ (λ w v alike. λ i.
      has_complete_elements (completes_same w v alike i) (pointers stars t) ns)
      (λ complete. demand_quietly at there _ _ _ (λ e. e))

  length_by_alike : (n : Option ℕ) → CheckAlike (length_by at n) (length_by there n)
  length_by_alike None = noted_first _ _ _ _
  length_by_alike (Some n) = check_pure_alike _

  pub length_alike : (o : OperandData) → CheckAlike (length_rule at o) (length_rule there o)
  unfolding length_rule
  length_alike o = of_type o.type
    where
      of_type : (t : Option TyData) → CheckAlike {A = Option ℕ}
          (elim t [ None ↦ check_pure None | Some t ↦ length_by at (positive o.constant) ])
          (elim t [ None ↦ check_pure None | Some t ↦ length_by there (positive o.constant) ])
      of_type None = check_pure_alike None
      of_type (Some t) = length_by_alike (positive o.constant)

  pub within_limit_alike : (t : Option TyData) → CheckAlike (within_rule at t) (within_rule there t)
  unfolding within_rule
  within_limit_alike None = check_pure_alike tt
  within_limit_alike (Some t) = check_chain_alike _ _ _ _
      (check_ask_alike _ _ (λ w v alike. within_same w v alike t))
      (λ small. within_alike at there _ _ _ (λ e. e))

  pub complete_alike : (t : Option TyData) → CheckAlike (complete_rule at t) (complete_rule there t)
  unfolding complete_rule
  complete_alike None = check_pure_alike _
  complete_alike (Some t) = check_chain_alike _ _ _ _
      (check_ask_alike _ _ (λ w v alike. complete_same w v alike t))
      (λ complete. check_either complete _ _ _ _ (check_pure_alike _) (noted_first _ _ _ _))

  -- ---- types by words and tags

  pub words_alike : (t : Option TyData) → CheckAlike (type_or_fault at t) (type_or_fault there t)
  unfolding type_or_fault
  words_alike (Some t) = check_pure_alike _
  words_alike None = noted_first _ _ _ _

  tag_type_alike : (k : Option ℕ) → CheckAlike (tag_type at k) (tag_type there k)
  tag_type_alike (Some k) = check_pure_alike _
  tag_type_alike None = noted_first _ _ _ _

  pub tag_alike : (tag : Text) → CheckAlike (tag_rule at tag) (tag_rule there tag)
  unfolding tag_rule
  tag_alike tag = check_chain_alike _ _ _ _
      (check_ask_alike _ _ (λ w v alike. tag_up_same w v alike tag)) (λ k. tag_type_alike k)

  -- ---- structs

  -- fewer tags are reserved in what is written
  fewer : (x d e : Bool) → not (x || (true && d) || e) ≡ true → not (x || (false && d) || e) ≡ true
  fewer true d e p = p
  fewer false true e p = absurd (true≢false (sym p))
  fewer false false e p = p

  pub free_tag_alike : (tag : Text) → CheckAlike (free_tag at tag) (free_tag there tag)
  unfolding free_tag
  free_tag_alike tag = asked_alike _ _ _ _ (λ w v alike. demand_alike at there F12 _ _
      (λ e. (λ i. not (is_reserved_tag (alike.is_written i) tag))
      ∙ fewer (is_one_of reserved_words tag || is_one_of (names_in known_functions) tag
      || begins_with (codes "ECPG") tag) (begins_with (codes "varchar_") tag)
      (same_text (map raised tag) (codes "EXEC"))
      (sym (λ i. not (is_reserved_tag (alike.is_source i) tag)) ∙ e)))

new_struct_alike : (a b : StructInfo) → SameStruct a b → CheckAlike (new_struct a) (new_struct b)
unfolding new_struct
new_struct_alike a b same = record {
  finds = λ w v alike e. record {
    answer = next_struct_same w v alike;
    without_fault = refl;
    worlds = with_structs w v alike _ _
        (joined_same w.structs v.structs (a ∷ []) (b ∷ []) alike.structs (same, tt));
  };
}

set_struct_alike : (k : ℕ) (a b : StructInfo) → SameStruct a b
    → CheckAlike (set_struct k a) (set_struct k b)
unfolding set_struct
set_struct_alike k a b same = change_alike _ _ (λ w v alike. with_structs w v alike _ _
    (set_same w.structs v.structs k a b alike.structs same))

tagged_alike : (tag : Text) (ms : MembersData)
    → CheckAlike (tagged_struct tag ms) (tagged_struct tag ms)
unfolding tagged_struct
tagged_alike tag ms = check_chain_alike _ _ _ _ (new_struct_alike _ _ (same_struct _))
    (λ k. check_chain_alike _ _ _ _ (change_alike _ _ (λ w v alike. with_tags w v alike tag k))
    (λ _. check_pure_alike k))

module _ (at there : Place) where
  again_alike : (tag : Text) (k : ℕ) (ms : Option MembersData)
      → CheckAlike (begin_again at tag k ms) (begin_again there tag k ms)
  again_alike tag k (Some unlisted) = check_chain_alike _ _ _ _
      (set_struct_alike k _ _ (same_struct _)) (λ _. check_pure_alike k)
  again_alike tag k (Some begun) = noted_first _ _ _ _
  again_alike tag k (Some (listed ms)) = noted_first _ _ _ _
  again_alike tag k None = noted_first _ _ _ _

  begin_by_alike : (tag : Text) (k : Option ℕ)
      → CheckAlike (begin_by at tag k) (begin_by there tag k)
  begin_by_alike tag None = tagged_alike tag begun
  begin_by_alike tag (Some k) = check_chain_alike _ _ _ _
      (check_ask_alike _ _ (λ w v alike. members_same w v alike k)) (λ ms. again_alike tag k ms)

  pub begin_alike : (tag : Option Text) → CheckAlike (begin_struct at tag) (begin_struct there tag)
  unfolding begin_struct
  begin_alike None = new_struct_alike _ _ (same_struct _)
  begin_alike (Some tag) = check_chain_alike _ _ _ _ (free_tag_alike at there tag)
      (λ _. check_chain_alike _ _ _ _
      (check_ask_alike _ _ (λ w v alike. λ i. find tag (alike.here i).tags))
      (λ before. begin_by_alike tag before))

  pub end_alike : (tag : Option Text) (k : ℕ) (ms : Members)
      → CheckAlike (end_struct at tag k ms) (end_struct there tag k ms)
  unfolding end_struct
  end_alike tag k ms = check_chain_alike _ _ _ _
      (check_ask_alike _ _ (λ w v alike. λ i.
      option_and_then (struct_shape (shapes_same w v alike i)) (typed_members ms)))
      (λ shape. asked_alike _ _ _ _ (λ w v alike. check_chain_alike _ _ _ _
      (set_struct_alike k _ _ (record {
        tag = refl;
        members = refl;
        shape = refl;
        first = first_same w v alike ms;
      }))
      (λ _. check_chain_alike _ _ _ _ (change_alike _ _ (λ w v alike. with_closed w v alike k))
      (λ _. check_chain_alike _ _ _ _ (within_alike at there _ _ _ (λ e. e))
      (λ _. check_pure_alike _)))))

  pub free_name_alike : (name : Text) → CheckAlike (free_name at name) (free_name there name)
  unfolding free_name
  free_name_alike name = demand_alike at there _ _ _ (λ e. e)

  pub member_named_alike : (name : Text) (ty : Option TyData) (ms : Members)
      → CheckAlike (member_named at name ty ms) (member_named there name ty ms)
  unfolding member_named
  member_named_alike name ty ms = check_chain_alike _ _ _ _ (within_limit_alike at there ty)
      (λ _. check_chain_alike _ _ _ _ (complete_alike at there ty)
      (λ t. check_chain_alike _ _ _ _ (demand_alike at there _ _ _ (λ e. e))
      (λ _. check_chain_alike _ _ _ _ (free_name_alike name) (λ _. check_pure_alike _))))
