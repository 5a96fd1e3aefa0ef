-- References are found again where more is known.
use Rattle.std.proofs.Common.{◌≡◌, ◌∙◌, Bool, true, false, not, ◌||◌, nat_le, List, [], ◌∷◌, Option, Some, None, refl, sym}
use Rattle.ec_base.specs.declared.fault.LimitKind.TheVariants.{L5}
use Rattle.ec_ctypes.specs.trees.Exprs.{ExprData, integer, identifier, index, member, arrow}
use Rattle.ec_ctypes.specs.trees.Types.{TyData, void, arithmetic, pointer, array, structure}
use Rattle.ec_ctypes.specs.trees.Units.{UnitData}
use Rattle.ec_language.specs.Letters.{Text}
use Rattle.ec_typing_defs.specs.statement_parts.References.{References, names_in, all_names}
use Rattle.ec_typing_defs.specs.Embedded as checked
use Rattle.ec_typing_defs.specs.Embedded.{is_function_name, max_members, members_in, members_rule}
use Rattle.ec_typing_defs.specs.Expressions as checked_parts
use Rattle.ec_typing_defs.specs.Expressions.{stands_for}
use Rattle.ec_typing_defs.specs.Operands.{OperandData, unknown, value_rule as check_value, index_rule as check_index, member_rule as check_member, arrow_rule as check_arrow}
use Rattle.ec_typing_defs.specs.Worlds.{Place, World, out, Rule, keep_within, followed as check_followed, chain as check_chain, pure as check_pure, ask as check_ask}
use Rattle.ec_meaning_defs.specs.resolved.Resolved.{Exp, faulty}
use Rattle.ec_resolving_defs.specs.Embedded.{reference_rule, reference_of, references_rule}
use Rattle.ec_resolving_defs.specs.Expressions.{expr}
use Rattle.ec_resolving_defs.specs.Operands.{found, no_expression, value_rule, index_rule, member_rule, arrow_rule}
use Rattle.ec_resolving_defs.specs.Storage.{Storage, reached, chain, pure}
use Rattle.ec_meaning_defs.specs.observed.Run.{IsFront}
use Rattle.ec_sim_world_laws.specs.growth.Growth.{Grows}
use Rattle.ec_sim_world_laws.specs.place.References.{IsIndex, IsReference}
use Rattle.ec_sim_world_laws.specs.place.Structs.{IsListed, EachStructIn, ClosedAreListed}
use Rattle.ec_sim_world_laws.specs.known.Known.{IsKnown}
use Rattle.ec_sim_host_laws.specs.reference.Found.{AreReferences}
use Rattle.ec_sim_host_laws.proofs.reference_lemmas.Finding.{rule_checked, rule_resolved, checked_by, resolved_by}
use Rattle.ec_sim_host_laws.proofs.reference_lemmas.Parts.{full_not, first_clean, rest_clean}
use Rattle.ec_sim_host_laws.proofs.reference_lemmas.ReferencesLie.{this_clean, more_clean, forms_are}
use Rattle.ec_sim_host_laws.proofs.reference_lemmas.Staying.{reference_stays}
use Rattle.ec_sim_host_laws.specs.cursor.Cursors.{FoundAgain, ReferencesAreFoundAgain}
use Rattle.ec_sim_host_laws.proofs.cursor_lemmas.Both.{seen, StructsSame, Both, both_chain, number_both, value_both, index_both, member_both, arrow_both}
use Rattle.ec_sim_host_laws.proofs.cursor_lemmas.Growing.{info_stays, members_stay as struct_stays, complete_stays, size_stays, member_inside, offset_stays}
use Rattle.ec_sim_host_laws.proofs.cursor_lemmas.Names.{name_both, name_alone, NamesStay, front_stay, back_stay, names_stay}

module _ (u : UnitData) (before at : Place) (s t : Storage) (w v : World) (known : IsKnown u s w) (known_there : IsKnown u t v) (here : ClosedAreListed w)
    (there : ClosedAreListed v) (g : Grows w v) (sites : IsFront s.sites t.sites) where
  same : StructsSame w v
  same = record {
    members = struct_stays w v g here there;
    complete = complete_stays w v g here there;
    size = size_stays w v g here there;
    inside = member_inside w v g here there;
    offset = offset_stays w v g here there;
  }

  abbrev Names : List Text → Type 0
  Names xs = NamesStay u s t w v known known_there g sites before at xs

  abbrev ExprBoth : ExprData → Type 0
  ExprBoth e = Both s t w v (expr before e) (checked_parts.expr before e) (expr at e) (checked_parts.expr at e)

  abbrev ValueBoth : ExprData → Type 0
  ValueBoth e = Both s t w v (chain (expr before e) (value_rule before)) (check_chain (checked_parts.expr before e) (check_value before))
      (chain (expr at e) (value_rule at)) (check_chain (checked_parts.expr at e) (check_value at))

  -- ---- expressions

  as_value : (e : ExprData) → ExprBoth e → (check_chain (checked_parts.expr before e) (check_value before) w).found ≡ [] → ValueBoth e
  as_value e h clean = both_chain s t w v (value_rule before) (value_rule at) (check_value before) (check_value at) h
      (λ o p ty b e a listed clean. value_both s t w v before at same o p ty b e a listed clean) clean

  part_both : (b : ExprData) → IsIndex b → Names (names_in b) → (checked_parts.expr before b w).found ≡ [] → ExprBoth b
  part_both (integer n (arithmetic a)) h names clean = number_both s t w v n a
  part_both (identifier x) h names clean = name_both u s t w v known known_there g sites before at x names.0 clean
  part_both _ h names clean = absurd h

  pub expr_both : (e : ExprData) → IsReference e → Names (names_in e) → (checked_parts.expr before e w).found ≡ [] → ExprBoth e
  expr_both (identifier x) h names clean = name_both u s t w v known known_there g sites before at x names.0 clean
  expr_both (index a b) h names clean = both_chain s t w v (λ x. chain (chain (expr before b) (value_rule before)) (λ y. index_rule before x y))
      (λ x. chain (chain (expr at b) (value_rule at)) (λ y. index_rule at x y))
      (λ x. check_chain value_b (λ y. check_index before x y))
      (λ x. check_chain (check_chain (checked_parts.expr at b) (check_value at)) (λ y. check_index at x y))
      (as_value a (expr_both a h.0 (front_stay u s t w v known known_there g sites before at (names_in a) (names_in b) names)
      (first_clean (checked_parts.expr before a) (check_value before) w clean_a)) clean_a)
      (λ o p x c e d listed clean. second o p x c e d clean) clean
    where
      value_a : Rule OperandData
      value_a = check_chain (checked_parts.expr before a) (check_value before)

      value_b : Rule OperandData
      value_b = check_chain (checked_parts.expr before b) (check_value before)

      clean_a : (value_a w).found ≡ []
      clean_a = first_clean value_a (λ x. check_chain value_b (λ y. check_index before x y)) w clean

      second : (o p : OperandData) (x : Option TyData) (c : Bool) (e : Exp) (d : Bool) → (check_chain value_b (λ y. check_index before (seen o x c) y) w).found ≡ []
          → Both s t w v (chain (chain (expr before b) (value_rule before)) (λ y. index_rule before (found (seen o x c) e d) y))
          (check_chain value_b (λ y. check_index before (seen o x c) y))
          (chain (chain (expr at b) (value_rule at)) (λ y. index_rule at (found (seen p x c) e d) y))
          (check_chain (check_chain (checked_parts.expr at b) (check_value at)) (λ y. check_index at (seen p x c) y))
      second o p x c e d clean = both_chain s t w v (λ y. index_rule before (found (seen o x c) e d) y) (λ y. index_rule at (found (seen p x c) e d) y)
          (λ y. check_index before (seen o x c) y) (λ y. check_index at (seen p x c) y)
          (as_value b (part_both b h.1 (back_stay u s t w v known known_there g sites before at (names_in a) (names_in b) names)
          (first_clean (checked_parts.expr before b) (check_value before) w clean_b)) clean_b)
          (λ q r y i f l listed clean. index_both s t w v before at same o p x c e d q r y i f l clean) clean
        where
          clean_b : (value_b w).found ≡ []
          clean_b = first_clean value_b (λ y. check_index before (seen o x c) y) w clean
  expr_both (member e m) h names clean = both_chain s t w v (λ f. member_rule before f m) (λ f. member_rule at f m) (λ o. check_member before o m) (λ o. check_member at o m)
      (expr_both e h names (first_clean (checked_parts.expr before e) (λ o. check_member before o m) w clean))
      (λ o p x b e a listed clean. member_both s t w v before at same o p x b e a m listed clean) clean
  expr_both (arrow e m) h names clean = both_chain s t w v (λ f. arrow_rule before f m) (λ f. arrow_rule at f m) (λ o. check_arrow before o m) (λ o. check_arrow at o m)
      (as_value e (expr_both e h names (first_clean (checked_parts.expr before e) (check_value before) w clean_e)) clean_e)
      (λ o p x b e a listed clean. arrow_both s t w v before at same o p x b e a m clean) clean
    where
      clean_e : (check_chain (checked_parts.expr before e) (check_value before) w).found ≡ []
      clean_e = first_clean (check_chain (checked_parts.expr before e) (check_value before)) (λ o. check_arrow before o m) w clean
  expr_both _ h names clean = absurd h

  -- ---- references

  abbrev ReferenceBoth : ExprData → Type 0
  ReferenceBoth e = Both s t w v (reference_rule before e) (checked.reference_rule before e) (reference_rule at e) (checked.reference_rule at e)

  alone_same : (e : ExprData) → IsReference e → Names (names_in e) → is_function_name v e ≡ is_function_name w e
  alone_same (identifier x) h names = name_alone u s t w v known known_there g sites before at x names.0
  alone_same (index a b) h names = refl
  alone_same (member e m) h names = refl
  alone_same (arrow e m) h names = refl
  alone_same _ h names = absurd h

  nothing_checked : (at : Place) (e : ExprData) (z : World) → checked_by at e true z ≡ out unknown [] z
  unfolding check_pure
  nothing_checked at e z = refl

  nothing_resolved : (at : Place) (e : ExprData) (s : Storage) (z : World) → resolved_by at e true s z ≡ reached no_expression s z
  unfolding pure
  nothing_resolved at e s z = refl

  reference_both : (e : ExprData) → IsReference e → Names (names_in e) → (checked.reference_rule before e w).found ≡ [] → ReferenceBoth e
  reference_both e h names clean = by_alone (is_function_name w e) refl
    where
      with_expr : is_function_name w e ≡ false → ExprBoth e → ReferenceBoth e
      with_expr is q = record {
        type = q.type;
        is_place = q.is_place;
        exp = q.exp;
        is_address = q.is_address;
        one = q.one;
        other = q.other;
        here = rule_resolved before e s w false is ∙ q.here;
        there = rule_resolved at e t v false (alone_same e h names ∙ is) ∙ q.there;
        checked_here = rule_checked before e w false is ∙ q.checked_here;
        checked_there = rule_checked at e v false (alone_same e h names ∙ is) ∙ q.checked_there;
        are_listed = q.are_listed;
      }

      by_alone : (b : Bool) → is_function_name w e ≡ b → ReferenceBoth e
      by_alone true is = record {
        type = None;
        is_place = false;
        exp = faulty;
        is_address = false;
        one = unknown;
        other = unknown;
        here = rule_resolved before e s w true is ∙ nothing_resolved before e s w;
        there = rule_resolved at e t v true (alone_same e h names ∙ is) ∙ nothing_resolved at e t v;
        checked_here = rule_checked before e w true is ∙ nothing_checked before e w;
        checked_there = rule_checked at e v true (alone_same e h names ∙ is) ∙ nothing_checked at e v;
        are_listed = tt;
      }
      by_alone false is = with_expr is (expr_both e h names (sym (λ j. (rule_checked before e w false is j).found) ∙ clean))

  -- ---- how many members a host stands for

  stands_same : (ty : TyData) → EachStructIn (IsListed w) (Some ty) → stands_for v.structs ty ≡ stands_for w.structs ty
  stands_same void h = refl
  stands_same (arithmetic a) h = refl
  stands_same (pointer ty) h = refl
  stands_same (array ty n) h = refl
  stands_same (structure k) h = λ j. elim (info_stays w v g here there k h j) [ None ↦ 0 | Some i ↦ i.stands_for ]

  members_same : (ty : Option TyData) → EachStructIn (IsListed w) ty → members_in v ty ≡ members_in w ty
  members_same None h = refl
  members_same (Some void) h = refl
  members_same (Some (arithmetic a)) h = refl
  members_same (Some (pointer ty)) h = refl
  members_same (Some (array ty n)) h = stands_same ty h
  members_same (Some (structure k)) h = stands_same (structure k) h

  members_formed : (at : Place) (is_host : Bool) (ty : Option TyData) (z : World)
      → members_rule at is_host ty z ≡ keep_within at L5 (not is_host || nat_le (members_in z ty) max_members) z
  unfolding members_rule check_chain check_ask
  members_formed at is_host ty z = refl

  keeps : (b : Bool) → (keep_within before L5 b w).found ≡ [] → b ≡ true
  unfolding keep_within check_pure
  keeps true clean = refl
  keeps false clean = full_not clean

  kept : keep_within at L5 true v ≡ out tt [] v
  unfolding keep_within check_pure
  kept = refl

  members_there : (is_host : Bool) (ty : Option TyData) → EachStructIn (IsListed w) ty → (members_rule before is_host ty w).found ≡ []
      → members_rule at is_host ty v ≡ out tt [] v
  members_there is_host ty h clean =
      members_formed at is_host ty v
      ∙ (λ j. keep_within at L5 (not is_host || nat_le (members_same ty h j) max_members) v)
      ∙ (λ j. keep_within at L5 (keeps (not is_host || nat_le (members_in w ty) max_members) (sym (λ j. (members_formed before is_host ty w j).found) ∙ clean) j) v)
      ∙ kept

  -- ---- one behind the other

  -- what is found by rules, of which the first finds this
  found_by : {A B : Type 0} (m : Rule A) (f : A → Rule B) {a : A} → m v ≡ out a [] v → (f a v).found ≡ [] → (check_chain m f v).found ≡ []
  unfolding check_chain
  found_by m f is clean = (λ j. (check_followed (is j) f).found) ∙ clean

  none_found : FoundAgain at before s t w v []
  unfolding check_pure pure
  none_found = record { without_fault = refl; same = refl }

  pub all_again : (rs : References) → AreReferences rs → Names (all_names rs) → (checked.references_rule before rs w).found ≡ [] → FoundAgain at before s t w v rs
  all_again [] h names clean = none_found
  all_again (r ∷ rs) h names clean = further
      (reference_both r.value h.0 (front_stay u s t w v known known_there g sites before at (names_in r.value) (all_names rs) names) (this_clean before w r rs h clean))
      (all_again rs h.1 (back_stay u s t w v known known_there g sites before at (names_in r.value) (all_names rs) names) (more_clean before w r rs h clean))
    where
      others : Place → OperandData → Rule (Unit {0})
      others at o = check_chain (members_rule at r.is_host o.type) (λ _. checked.references_rule at rs)

      clean_members : (members_rule before r.is_host (checked.reference_rule before r.value w).answer.type w).found ≡ []
      clean_members = first_clean (members_rule before r.is_host (checked.reference_rule before r.value w).answer.type) (λ _. checked.references_rule before rs) w
          (rest_clean (checked.reference_rule before r.value) (others before) w (reference_stays before r.value h.0) clean)

      further : ReferenceBoth r.value → FoundAgain at before s t w v rs → FoundAgain at before s t w v (r ∷ rs)
      further b more = record {
        without_fault =
            found_by (checked.reference_rule at r.value) (others at) b.checked_there
            (found_by (members_rule at r.is_host b.type) (λ _. checked.references_rule at rs)
            (members_there r.is_host b.type b.are_listed (sym (λ j. (members_rule before r.is_host (b.checked_here j).answer.type w).found) ∙ clean_members))
            more.without_fault);
        same =
            forms_are at t v r rs h
            ∙ (λ j. reference_of (b.there j).answer ∷ more.same j)
            ∙ sym (λ j. reference_of (b.here j).answer ∷ (references_rule before rs s w).answer)
            ∙ sym (forms_are before s w r rs h);
      }

pub found_again : ReferencesAreFoundAgain
found_again u before at s t w v known known_there here there g sites rs h clean denoted none =
    all_again u before at s t w v known known_there here there g sites rs h
    (names_stay u s t w v known known_there g sites before at (all_names rs) denoted none) clean
