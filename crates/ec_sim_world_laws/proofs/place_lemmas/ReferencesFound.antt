-- References are places of the types that the tables give.
use Rattle.std.proofs.Common.{◌≡◌, ◌∙◌, ℕ, zero, suc, ◌+◌, pos, Bool, true, false, not, ◌&&◌, List, [], ◌∷◌, ◌++◌, Option, Some, None, refl, sym, subst, slice_get, option_map, codes, if◌then◌else◌}
use Rattle.std.specs.Prelude.{option_and_then, is_some}
use Rattle.ec_ctypes.specs.declared.types.arith.Arith.{Arith}
use Rattle.ec_ctypes.specs.trees.Exprs.{ExprData, integer, identifier, index, member, arrow}
use Rattle.ec_ctypes.specs.trees.Types.{TyData, void, arithmetic, pointer, array, structure, StructData}
use Rattle.ec_language.specs.Letters.{Text, same_text}
use Rattle.ec_base.specs.declared.fault.FaultKind.TheVariants.{F11, F14}
use Rattle.ec_host_defs.specs.Programs as tables
use Rattle.ec_host_defs.specs.Programs.{ProgramData, Denoted, variable_of, variable_type, declared_type, reference_type, type_along, element_of, is_among}
use Rattle.ec_typing_defs.specs.Statements.{type_or_void}
use Rattle.ec_typing_defs.specs.Types.{int_type, is_void, is_structure, struct_number, decayed, element_type, only_if}
use Rattle.ec_typing_defs.specs.Known.{known_function}
use Rattle.ec_typing_defs.specs.Operands as checked
use Rattle.ec_typing_defs.specs.Operands.{name_rule as check_name, named_by as check_named, value_rule as check_value, index_rule as check_index, member_rule as check_member, arrow_rule as check_arrow, OperandData, unknown, object_operand, null_operand, integer_operand, valued, element_by, member_type, predefined}
use Rattle.ec_typing_defs.specs.Worlds.{Place, EntryData, object, function, World, Out, out, Rule, look_up, members_of, is_listed, is_complete, listed, unlisted, begun, MembersData, StructInfo, note, followed as check_followed, chain as check_chain, pure as check_pure, ask as check_ask}
use Rattle.ec_typing_defs.specs.Expressions as checked_parts
use Rattle.ec_typing_defs.specs.Embedded as checked_embedded
use Rattle.ec_typing_defs.specs.Embedded.{is_function_entry, is_function_name, denoted_by}
use Rattle.ec_typing_defs.specs.Answers.{struct_order, renumbered, structs_of, numbered_from}
use Rattle.ec_memory_defs.specs.Memory.{number, pointer_type}
use Rattle.ec_meaning_defs.specs.resolved.Resolved.{Exp, load, constant}
use Rattle.ec_resolving_defs.specs.Agreement.{Finds, operand_of}
use Rattle.ec_resolving_defs.specs.Storage.{Storage, Resolving, Reached, reached, followed, chain, pure, checks, ask, stored}
use Rattle.ec_resolving_defs.specs.Operands.{Found, found, named_exp, value_exp, value_rule, no_expression}
use Rattle.ec_resolving_defs.specs.Expressions.{expr}
use Rattle.ec_resolving_defs.specs.Embedded.{reference_rule}
use Rattle.ec_resolving_defs.proofs.Agreeing.{chain_finds, value_finds, expr_finds}
use Rattle.ec_sim_statement_laws.specs.argument.Pointers.{value_of, IsPlace, IsPointer}
use Rattle.ec_sim_statement_laws.proofs.argument_lemmas.Pointers.{member_of_place}
use Rattle.ec_sim_world_laws.specs.place.Structs.{IsListed, AreListed, IsWithin}
use Rattle.ec_sim_world_laws.specs.place.Places.{IsMember}
use Rattle.ec_sim_world_laws.specs.place.References.{IsIndex, IsReference, IsTypedEntry, IndexHasType, IndexesHaveTypes, variable_in, IsDeclared, NamesAreDeclared, tables_of, IsPlaceOf}
use Rattle.ec_sim_world_laws.proofs.place_lemmas.Lists.{none_not, false_not, some_is, Follows, follows}
use Rattle.ec_sim_world_laws.proofs.place_lemmas.MembersSame.{member_known}
use Rattle.ec_sim_world_laws.proofs.place_lemmas.PlacesFound.{pointer_value, array_value, element_place, arrow_place}

-- ---- what is found without a fault

full_not : {A : Type 0} {x : A} {xs : List A} {C : Type 0} → x ∷ xs ≡ [] → C
full_not {A} {x} {xs} {C} e = absurd (subst by_case (sym e) tt)
  where
    by_case : List A → Type 0
    by_case [] = Unit {0}
    by_case (x ∷ xs) = ⊥

front_empty : {A : Type 0} (xs ys : List A) → xs ++ ys ≡ [] → xs ≡ []
front_empty [] ys e = refl
front_empty (x ∷ xs) ys e = full_not e

-- in the first of two rules
first_clean : {A B : Type 0} (m : Rule A) (f : A → Rule B) (w : World) → (check_chain m f w).found ≡ [] → (m w).found ≡ []
unfolding check_chain
first_clean m f w e = front_empty (m w).found (f (m w).answer (m w).world).found e

-- and in the second, where the first finds this
second_clean : {A B : Type 0} (m : Rule A) (f : A → Rule B) (w : World) {a : A} → m w ≡ out a [] w → (check_chain m f w).found ≡ [] → (f a w).found ≡ []
unfolding check_chain
second_clean m f w {a} is e = sym (λ j. (check_followed (is j) f).found) ∙ e

-- the checks find what is resolved
checked_is : (m : World → Out OperandData) (o : OperandData) (w : World) → (m w).answer ≡ o → (m w).world ≡ w → (m w).found ≡ [] → m w ≡ out o [] w
checked_is m o w answer world clean = λ j. out (answer j) (clean j) (world j)

-- ---- tables

names_from : (n : ℕ) (order : List ℕ) (ts : List TyData) (k : ℕ) → option_map (λ (x : ℕ × TyData). x.1) (slice_get (numbered_from n order ts) k) ≡ option_map (renumbered order) (slice_get ts k)
names_from n order [] k = refl
names_from n order (t ∷ ts) zero = refl
names_from n order (t ∷ ts) (suc k) = names_from (n + 1) order ts k

-- ---- complete types have listed structs

listed_by : (w : World) (k : ℕ) (o : Option StructInfo) → slice_get w.structs k ≡ o → is_listed (option_map (λ s. s.members) o) ≡ true → IsListed w k
listed_by w k None is e = false_not e
listed_by w k (Some info) is e = by_members info.members refl e
  where
    by_members : (ms : MembersData) → info.members ≡ ms → is_listed (Some ms) ≡ true → IsListed w k
    by_members unlisted are e = false_not e
    by_members begun are e = false_not e
    by_members (listed ms) are e = record { info = info; is = is; members = ms; are = are }

complete_listed : (w : World) (t : TyData) → is_complete w t ≡ true → AreListed w t
complete_listed w void e = tt
complete_listed w (arithmetic a) e = tt
complete_listed w (pointer t) e = tt
complete_listed w (array t zero) e = false_not e
complete_listed w (array t (suc n)) e = complete_listed w t e
complete_listed w (structure k) e = listed_by w k (slice_get w.structs k) refl e

module _ (at : Place) (s : Storage) (w : World) where
  -- ---- the value of a name, where there is no fault

  record NameIs (x : Text) : Type 0 where
    operand : OperandData
    exp : Exp
    is_address : Bool
    type : TyData
    is : expr at (identifier x) s w ≡ reached (found operand exp is_address) s w
    checked_name : checked_parts.expr at (identifier x) w ≡ out operand [] w
    has_type : operand.type ≡ Some type

  record IsKnown (m : Rule OperandData) : Type 0 where
    operand : OperandData
    type : TyData
    is : m w ≡ out operand [] w
    has_type : operand.type ≡ Some type

  abbrev known_by : Bool → Bool → Bool → Bool → Bool → Rule OperandData
  known_by a b c d e =
      if a then check_pure (object_operand true (Some (structure 1)))
      else (if b then check_pure null_operand
      else (if c then check_pure (integer_operand int_type (pos 1))
      else (if d then check_pure (integer_operand int_type (pos 0))
      else (if e then check_chain (note at F14) (λ _. check_pure unknown) else check_chain (note at F11) (λ _. check_pure unknown)))))

  known_typed : (a b c d e : Bool) → (known_by a b c d e w).found ≡ [] → IsKnown (known_by a b c d e)
  unfolding check_chain check_pure note
  known_typed true b c d e f = record { operand = object_operand true (Some (structure 1)); type = structure 1; is = refl; has_type = refl }
  known_typed false true c d e f = record { operand = null_operand; type = pointer void; is = refl; has_type = refl }
  known_typed false false true d e f = record { operand = integer_operand int_type (pos 1); type = int_type; is = refl; has_type = refl }
  known_typed false false false true e f = record { operand = integer_operand int_type (pos 0); type = int_type; is = refl; has_type = refl }
  known_typed false false false false true f = full_not f
  known_typed false false false false false f = full_not f

  abbrev with_entry : Text → Option EntryData → Out OperandData
  with_entry x entry = check_followed (out entry [] w) (check_named at x)

  abbrev formed : Text → Option EntryData → Out OperandData → Reached Found
  formed x entry o = reached (found o.answer (named_exp s.sites x entry) o.answer.is_place) s o.world

  name_checked : (x : Text) → checked_parts.expr at (identifier x) w ≡ with_entry x (look_up x w)
  unfolding check_chain check_ask check_name
  name_checked x = refl

  name_formed : (x : Text) → expr at (identifier x) s w ≡ formed x (look_up x w) (with_entry x (look_up x w))
  unfolding chain pure checks ask stored check_chain check_ask check_name
  name_formed x = refl

  module _ (functions : List ℕ) (names : NamesAreDeclared w functions) where
    name_by : (x : Text) (entry : Option EntryData) → look_up x w ≡ entry → IsTypedEntry entry → (with_entry x entry).found ≡ [] → NameIs x
    unfolding check_pure check_chain check_named note
    name_by x None is typed clean = of_known (known_typed (same_text x (codes "sqlca")) (same_text x (codes "NULL")) (same_text x (codes "true"))
        (same_text x (codes "false")) (is_some (known_function x)) clean)
      where
        of_known : IsKnown (predefined at x) → NameIs x
        of_known k = record {
          operand = k.operand;
          exp = named_exp s.sites x None;
          is_address = k.operand.is_place;
          type = k.type;
          is = name_formed x ∙ (λ j. formed x (is j) (with_entry x (is j))) ∙ (λ j. formed x None (k.is j));
          checked_name = name_checked x ∙ (λ j. with_entry x (is j)) ∙ k.is;
          has_type = k.has_type;
        }
    name_by x (Some (object k global None)) is typed clean = absurd typed
    name_by x (Some (object k global (Some t))) is typed clean = record {
      operand = object_operand global (Some t);
      exp = named_exp s.sites x (Some (object k global (Some t)));
      is_address = true;
      type = t;
      is = name_formed x ∙ (λ j. formed x (is j) (with_entry x (is j)));
      checked_name = name_checked x ∙ (λ j. with_entry x (is j));
      has_type = refl;
    }
    name_by x (Some (function k done r ps)) is typed clean = full_not clean

    name_is : (x : Text) → IsTypedEntry (look_up x w) → (checked_parts.expr at (identifier x) w).found ≡ [] → NameIs x
    name_is x typed clean = name_by x (look_up x w) refl typed (sym (λ j. (name_checked x j).found) ∙ clean)

    -- ---- the value of an index

    record IndexIs (b : ExprData) : Type 0 where
      operand : OperandData
      value : Exp
      type : TyData
      is : value_of at b s w ≡ reached (found operand value false) s w
      checked_value : check_chain (checked_parts.expr at b) (check_value at) w ≡ out operand [] w
      has_type : operand.type ≡ Some type

    abbrev value_form : Bool → OperandData → TyData → Rule OperandData
    value_form b o t = elim b [
      | true ↦ check_chain (note at F14) (λ _. check_pure unknown)
      | false ↦ check_pure (valued o t)
    ]

    value_formed : (o : OperandData) (t : TyData) → o.type ≡ Some t
        → check_value at o w ≡ value_form (is_structure t && not (is_complete w t)) (record o { type = Some t }) t w
    unfolding check_value check_chain check_ask
    value_formed o t has_type = λ j. check_value at (record o { type = has_type j }) w

    value_clean : (b : Bool) (o : OperandData) (t : TyData) → (value_form b o t w).found ≡ [] → value_form b o t w ≡ out (valued o t) [] w
    unfolding check_chain check_pure note
    value_clean true o t clean = full_not clean
    value_clean false o t clean = refl

    name_valued : (x : Text) (n : NameIs x) → (check_value at n.operand w).found ≡ [] → IndexIs (identifier x)
    unfolding chain pure checks check_chain
    name_valued x n clean = record {
      operand = valued (record n.operand { type = Some n.type }) n.type;
      value = value_exp (found n.operand n.exp n.is_address);
      type = decayed n.type;
      is =
          (λ j. followed (n.is j) (value_rule at))
          ∙ (λ j. reached (found (as_valued j).answer (value_exp (found n.operand n.exp n.is_address)) false) s (as_valued j).world);
      checked_value = (λ j. check_followed (n.checked_name j) (check_value at)) ∙ as_valued;
      has_type = refl;
    }
      where
        formed_so : check_value at n.operand w ≡ value_form (is_structure n.type && not (is_complete w n.type)) (record n.operand { type = Some n.type }) n.type w
        formed_so = value_formed n.operand n.type n.has_type

        as_valued : check_value at n.operand w ≡ out (valued (record n.operand { type = Some n.type }) n.type) [] w
        as_valued = formed_so ∙ value_clean (is_structure n.type && not (is_complete w n.type)) (record n.operand { type = Some n.type }) n.type
            (sym (λ j. (formed_so j).found) ∙ clean)

    name_value : (x : Text) → IsTypedEntry (look_up x w) → (check_chain (checked_parts.expr at (identifier x)) (check_value at) w).found ≡ [] → IndexIs (identifier x)
    name_value x typed clean = of_name (name_is x typed (first_clean (checked_parts.expr at (identifier x)) (check_value at) w clean))
      where
        of_name : NameIs x → IndexIs (identifier x)
        of_name n = name_valued x n (second_clean (checked_parts.expr at (identifier x)) (check_value at) w n.checked_name clean)

    number_value : (n : ℕ) (a : Arith) → IndexIs (integer n (arithmetic a))
    unfolding chain pure checks check_chain check_pure check_ask check_value
    number_value n a = record {
      operand = valued (integer_operand (arithmetic a) (pos n)) (arithmetic a);
      value = constant (number (pos n));
      type = arithmetic a;
      is = refl;
      checked_value = refl;
      has_type = refl;
    }

    index_value : (b : ExprData) → IsIndex b → IndexHasType w b → (check_chain (checked_parts.expr at b) (check_value at) w).found ≡ [] → IndexIs b
    index_value (integer n (arithmetic a)) h typed clean = number_value n a
    index_value (identifier x) h typed clean = name_value x typed clean
    index_value _ h typed clean = absurd h

    -- ---- elements

    record IsElement (u t : TyData) : Type 0 where
      arith : Arith
      is : t ≡ arithmetic arith
      complete : is_complete w u ≡ true

    element_of_complete : (u : TyData) (a : Arith) (b : Bool) → is_complete w u ≡ b → (element_by at (only_if b u) w).found ≡ [] → IsElement u (arithmetic a)
    unfolding check_chain check_pure note
    element_of_complete u a true is clean = record { arith = a; is = refl; complete = is }
    element_of_complete u a false is clean = full_not clean

    element_is : (u t : TyData) → (element_by at (element_type (is_complete w) (pointer u) t) w).found ≡ [] → IsElement u t
    unfolding check_chain check_pure note
    element_is u void clean = full_not clean
    element_is u (arithmetic a) clean = element_of_complete u a (is_complete w u) refl clean
    element_is u (pointer t) clean = full_not clean
    element_is u (array t n) clean = full_not clean
    element_is u (structure k) clean = full_not clean

    index_formed : (a b : OperandData) (u t : TyData) → a.type ≡ Some (pointer u) → b.type ≡ Some t
        → check_index at a b w ≡ element_by at (element_type (is_complete w) (pointer u) t) w
    unfolding check_index check_chain check_ask
    index_formed a b u t of_a of_b = λ j. check_index at (record a { type = of_a j }) (record b { type = of_b j }) w

    module _ (z : World) (r : IsWithin w z) (hosts : List ℕ) where
      abbrev order : List ℕ
      order = struct_order z

      abbrev structs : List StructData
      structs = structs_of z

      abbrev p : ProgramData
      p = tables_of z hosts functions

      record Placed (e : ExprData) (there : TyData) : Type 0 where
        type : TyData
        address : Exp
        is : IsPlace at s w e type address
        same : there ≡ renumbered order type
        are_listed : AreListed w type

      -- ---- the type of a variable

      declared_in_table : (k : ℕ) {t : Option TyData} (d : IsDeclared w k t) {there : TyData} → variable_type p (Some k) ≡ Some there → there ≡ renumbered order (type_or_void t)
      declared_in_table k {t} d {there} e = by_among (is_among k functions) e
        where
          by_among : (b : Bool) → elim b [ true ↦ None | false ↦ declared_type p k ] ≡ Some there → there ≡ renumbered order (type_or_void t)
          by_among true e = none_not e
          by_among false e = some_is (sym e ∙ names_from 0 order z.types k ∙ (λ j. option_map (renumbered order) (r.types k (type_or_void t) d.in_table j)))

      function_is_none : (k : ℕ) → is_among k functions ≡ true → variable_type p (Some k) ≡ None
      function_is_none k e = λ j. elim (e j) [ true ↦ None | false ↦ declared_type p k ]

      variable_by : (x : Text) (entry : Option EntryData) → look_up x w ≡ entry → (there : TyData) → variable_type p (denoted_by entry) ≡ Some there
          → is_void there ≡ false → Placed (identifier x) there
      unfolding check_named check_pure
      variable_by x None is there e solid = none_not e
      variable_by x (Some (object k global None)) is there e solid = false_not (sym solid ∙ (λ j. is_void (declared_in_table k (names.objects x k global None is) e j)))
      variable_by x (Some (object k global (Some t))) is there e solid = record {
        type = t;
        address = named_exp s.sites x (Some (object k global (Some t)));
        is = record {
          operand = object_operand global (Some t);
          is = name_formed x ∙ (λ j. formed x (is j) (with_entry x (is j)));
          type = refl;
          place = refl;
        };
        same = declared_in_table k (names.objects x k global (Some t) is) e;
        are_listed = (names.objects x k global (Some t) is).are_listed;
      }
      variable_by x (Some (function k done f ps)) is there e solid = none_not (sym (function_is_none k (names.are_functions x k done f ps is)) ∙ e)

      -- ---- a pointer's or an array's elements

      record Points (e : ExprData) (there : TyData) : Type 0 where
        type : TyData
        address : Exp
        is : IsPointer at s w e type address
        same : there ≡ renumbered order type

      points_by : (e : ExprData) (t : TyData) (x : Exp) → IsPlace at s w e t x → (there : TyData) → element_of (renumbered order t) ≡ Some there → Points e there
      points_by e void x h there g = none_not g
      points_by e (arithmetic a) x h there g = none_not g
      points_by e (pointer u) x h there g = record { type = u; address = load pointer_type x; is = pointer_value at s w h; same = sym (some_is g) }
      points_by e (array u n) x h there g = record { type = u; address = x; is = array_value at s w h; same = sym (some_is g) }
      points_by e (structure k) x h there g = none_not g

      points : (e : ExprData) {whole : TyData} → Placed e whole → {there : TyData} → element_of whole ≡ Some there → Points e there
      points e q {there} g = points_by e q.type q.address q.is there (sym (λ j. element_of (q.same j)) ∙ g)

      -- the checks find that value
      value_checked : {e : ExprData} {u : TyData} {x : Exp} (h : IsPointer at s w e u x) → (check_chain (checked_parts.expr at e) (check_value at) w).found ≡ []
          → check_chain (checked_parts.expr at e) (check_value at) w ≡ out h.operand [] w
      value_checked {e} h clean = checked_is (check_chain (checked_parts.expr at e) (check_value at)) h.operand w
          (sym (finds.answer s w) ∙ (λ j. (h.is j).answer.operand)) (sym (finds.world s w) ∙ (λ j. (h.is j).world)) clean
        where
          finds : Finds operand_of (value_of at e) (check_chain (checked_parts.expr at e) (check_value at))
          finds = chain_finds (expr at e) (checked_parts.expr at e) (value_rule at) (check_value at) (expr_finds at e) (λ f. value_finds at f)

      index_placed : (a b : ExprData) → IsIndex b → IndexHasType w b → {there : TyData} → (q : Points a there) → (checked_parts.expr at (index a b) w).found ≡ [] → Placed (index a b) there
      index_placed a b h typed {there} q clean = with_index (index_value b h typed (first_clean value_b (λ y. check_index at q.is.operand y) w clean_b))
        where
          value_a : Rule OperandData
          value_a = check_chain (checked_parts.expr at a) (check_value at)

          value_b : Rule OperandData
          value_b = check_chain (checked_parts.expr at b) (check_value at)

          clean_b : (check_chain value_b (λ y. check_index at q.is.operand y) w).found ≡ []
          clean_b = second_clean value_a (λ x. check_chain value_b (λ y. check_index at x y)) w
              (value_checked q.is (first_clean value_a (λ x. check_chain value_b (λ y. check_index at x y)) w clean)) clean

          with_element : (i : IndexIs b) → IsElement q.type i.type → Placed (index a b) there
          with_element i o = record {
            type = q.type;
            address = _;
            is = element_place at s w q.is (record { operand = i.operand; value = i.value; arith = o.arith; is = i.is; type = i.has_type ∙ (λ j. Some (o.is j)) }) o.complete;
            same = q.same;
            are_listed = complete_listed w q.type o.complete;
          }

          with_index : IndexIs b → Placed (index a b) there
          with_index i = with_element i (element_is q.type i.type
              (sym (λ j. (index_formed q.is.operand i.operand q.type i.type q.is.type i.has_type j).found)
              ∙ second_clean value_b (λ y. check_index at q.is.operand y) w i.checked_value clean_b))

      -- ---- members

      -- of a struct, by the type that the tables have
      record StructIs (t : TyData) (name : Text) (there : TyData) : Type 0 where
        number : ℕ
        is : t ≡ structure number
        member : IsMember w z number name there

      struct_by : (t : TyData) → AreListed w t → (name : Text) (there : TyData) → tables.member_type structs name (renumbered order t) ≡ Some there → StructIs t name there
      struct_by void h name there e = none_not e
      struct_by (arithmetic a) h name there e = none_not e
      struct_by (pointer t) h name there e = none_not e
      struct_by (array t n) h name there e = none_not e
      struct_by (structure k) h name there e = record { number = k; is = refl; member = member_known w z r k h name there e }

      member_placed : (e : ExprData) (name : Text) {whole : TyData} → Placed e whole → (there : TyData) → tables.member_type structs name whole ≡ Some there → Placed (member e name) there
      member_placed e name q there g = with_struct (struct_by q.type q.are_listed name there (sym (λ j. tables.member_type structs name (q.same j)) ∙ g))
        where
          with_struct : StructIs q.type name there → Placed (member e name) there
          with_struct i = record {
            type = i.member.type;
            address = _;
            is = member_of_place at s w (subst (λ t. IsPlace at s w e t q.address) i.is q.is) i.member.is.type i.member.is.place;
            same = i.member.same;
            are_listed = i.member.are_listed;
          }

      -- behind a pointer the checks find that the struct is listed
      listed_in : (k : ℕ) (name : Text) (ms : Option MembersData) → (checked.member_by at true (member_type name ms) w).found ≡ [] → is_listed ms ≡ true
      unfolding check_chain check_pure note
      listed_in k name None clean = full_not clean
      listed_in k name (Some unlisted) clean = full_not clean
      listed_in k name (Some begun) clean = full_not clean
      listed_in k name (Some (listed ms)) clean = refl

      arrow_listed : (k : ℕ) (name : Text) → (checked.member_in at true name (Some k) w).found ≡ [] → IsListed w k
      unfolding check_chain check_ask
      arrow_listed k name clean = listed_by w k (slice_get w.structs k) refl (listed_in k name (members_of k w) clean)

      target_by : (u : TyData) (name : Text) (there : TyData) → (checked.member_in at true name (struct_number u) w).found ≡ []
          → tables.member_type structs name (renumbered order u) ≡ Some there → StructIs u name there
      target_by void name there clean e = none_not e
      target_by (arithmetic a) name there clean e = none_not e
      target_by (pointer t) name there clean e = none_not e
      target_by (array t n) name there clean e = none_not e
      target_by (structure k) name there clean e = record { number = k; is = refl; member = member_known w z r k (arrow_listed k name clean) name there e }

      arrow_formed : (o : OperandData) (u : TyData) (name : Text) → o.type ≡ Some (pointer u) → check_arrow at o name w ≡ checked.member_in at true name (struct_number u) w
      unfolding check_arrow
      arrow_formed o u name h = λ j. check_arrow at (record o { type = h j }) name w

      arrow_placed : (e : ExprData) (name : Text) {whole : TyData} → Placed e whole → (there : TyData)
          → option_and_then (tables.member_type structs name) (element_of whole) ≡ Some there → (checked_parts.expr at (arrow e name) w).found ≡ []
          → Placed (arrow e name) there
      arrow_placed e name {whole} q there g clean = of_element (follows (tables.member_type structs name) (element_of whole) g)
        where
          value_e : Rule OperandData
          value_e = check_chain (checked_parts.expr at e) (check_value at)

          with_struct : {v : TyData} (o : Points e v) → StructIs o.type name there → Placed (arrow e name) there
          with_struct o i = record {
            type = i.member.type;
            address = _;
            is = arrow_place at s w (subst (λ t. IsPointer at s w e t o.address) i.is o.is) i.member.is.type i.member.is.place;
            same = i.member.same;
            are_listed = i.member.are_listed;
          }

          with_target : {v : TyData} (o : Points e v) → tables.member_type structs name v ≡ Some there → Placed (arrow e name) there
          with_target o m = with_struct o (target_by o.type name there
              (sym (λ j. (arrow_formed o.is.operand o.type name o.is.type j).found)
              ∙ second_clean value_e (λ x. check_arrow at x name) w (value_checked o.is (first_clean value_e (λ x. check_arrow at x name) w clean)) clean)
              (sym (λ j. tables.member_type structs name (o.same j)) ∙ m))

          of_element : Follows (tables.member_type structs name) (element_of whole) there → Placed (arrow e name) there
          of_element f = with_target (points e q f.is) f.then'

      -- ---- references

      -- what has elements or members is not void
      solid_element : (t : TyData) {u : TyData} → element_of t ≡ Some u → is_void t ≡ false
      solid_element void e = none_not e
      solid_element (arithmetic a) e = refl
      solid_element (pointer t) e = refl
      solid_element (array t n) e = refl
      solid_element (structure k) e = refl

      solid_member : (name : Text) (t : TyData) {u : TyData} → tables.member_type structs name t ≡ Some u → is_void t ≡ false
      solid_member name void e = none_not e
      solid_member name (arithmetic a) e = refl
      solid_member name (pointer t) e = refl
      solid_member name (array t n) e = refl
      solid_member name (structure k) e = refl

      solid_target : (name : Text) (t : TyData) {u : TyData} → option_and_then (tables.member_type structs name) (element_of t) ≡ Some u → is_void t ≡ false
      solid_target name void e = none_not e
      solid_target name (arithmetic a) e = refl
      solid_target name (pointer t) e = refl
      solid_target name (array t n) e = refl
      solid_target name (structure k) e = refl

      -- by the type of the variable
      module _ (of_variable : TyData) where
        placed : (e : ExprData) → IsReference e → IndexesHaveTypes w e → (checked_parts.expr at e w).found ≡ [] → variable_type p (denoted_by (look_up (variable_in e) w)) ≡ Some of_variable
            → (there : TyData) → type_along structs of_variable e ≡ Some there → is_void there ≡ false → Placed e there
        placed (identifier x) h typed clean v there e solid = variable_by x (look_up x w) refl there (v ∙ e) solid
        placed (index a b) h typed clean v there e solid =
            element (follows element_of (type_along structs of_variable a) e)
            (placed a h.0 typed.0 (first_clean (checked_parts.expr at a) (check_value at) w (first_clean value_a (λ x. check_chain value_b (λ y. check_index at x y)) w clean)) v)
          where
            value_a : Rule OperandData
            value_a = check_chain (checked_parts.expr at a) (check_value at)

            value_b : Rule OperandData
            value_b = check_chain (checked_parts.expr at b) (check_value at)

            element : Follows element_of (type_along structs of_variable a) there
                → ((whole : TyData) → type_along structs of_variable a ≡ Some whole → is_void whole ≡ false → Placed a whole) → Placed (index a b) there
            element f further = index_placed a b h.1 typed.1 (points a (further f.value f.is (solid_element f.value f.then')) f.then') clean
        placed (member e m) h typed clean v there g solid =
            inner (follows (tables.member_type structs m) (type_along structs of_variable e) g)
            (placed e h typed (first_clean (checked_parts.expr at e) (λ o. check_member at o m) w clean) v)
          where
            inner : Follows (tables.member_type structs m) (type_along structs of_variable e) there
                → ((whole : TyData) → type_along structs of_variable e ≡ Some whole → is_void whole ≡ false → Placed e whole) → Placed (member e m) there
            inner f further = member_placed e m (further f.value f.is (solid_member m f.value f.then')) there f.then'
        placed (arrow e m) h typed clean v there g solid =
            inner (follows (λ s. option_and_then (tables.member_type structs m) (element_of s)) (type_along structs of_variable e) g)
            (placed e h typed (first_clean (checked_parts.expr at e) (check_value at) w
            (first_clean (check_chain (checked_parts.expr at e) (check_value at)) (λ o. check_arrow at o m) w clean)) v)
          where
            inner : Follows (λ s. option_and_then (tables.member_type structs m) (element_of s)) (type_along structs of_variable e) there
                → ((whole : TyData) → type_along structs of_variable e ≡ Some whole → is_void whole ≡ false → Placed e whole) → Placed (arrow e m) there
            inner f further = arrow_placed e m (further f.value f.is (solid_target m f.value f.then')) there f.then' clean
        placed _ h typed clean v there e solid = absurd h

      -- a function's name alone has no type as a host
      alone_by : (x : Text) (entry : Option EntryData) → look_up x w ≡ entry → {there : TyData} → variable_type p (denoted_by entry) ≡ Some there → is_function_entry x entry ≡ false
      alone_by x None is e = none_not e
      alone_by x (Some (object k global t)) is e = refl
      alone_by x (Some (function k done f ps)) is e = none_not (sym (function_is_none k (names.are_functions x k done f ps is)) ∙ e)

      not_alone : (e : ExprData) → IsReference e → {there : TyData} → variable_type p (denoted_by (look_up (variable_in e) w)) ≡ Some there → is_function_name w e ≡ false
      not_alone (identifier x) h v = alone_by x (look_up x w) refl v
      not_alone (index a b) h v = refl
      not_alone (member e m) h v = refl
      not_alone (arrow e m) h v = refl
      not_alone _ h v = absurd h

      abbrev reference_checked : ExprData → Bool → Rule OperandData
      reference_checked e alone = elim alone [ true ↦ check_pure unknown | false ↦ checked_parts.expr at e ]

      abbrev reference_resolved : ExprData → Bool → Resolving Found
      reference_resolved e alone = elim alone [ true ↦ pure no_expression | false ↦ expr at e ]

      rule_checked : (e : ExprData) → checked_embedded.reference_rule at e w ≡ reference_checked e (is_function_name w e) w
      unfolding checked_embedded.reference_rule check_chain check_ask
      rule_checked e = refl

      rule_resolved : (e : ExprData) → reference_rule at e s w ≡ reference_resolved e (is_function_name w e) s w
      unfolding chain ask
      rule_resolved e = refl

      pub reference_placed : (e : ExprData) → IsReference e → IndexesHaveTypes w e → (checked_embedded.reference_rule at e w).found ≡ [] → (ds : Denoted)
          → variable_of ds ≡ denoted_by (look_up (variable_in e) w) → (there : TyData) → reference_type p e ds ≡ Some there
          → is_void there ≡ false → IsPlaceOf at s w z e there
      reference_placed e h typed clean ds denoted there g solid = of_variable (follows (λ t. type_along structs t e) (variable_type p (variable_of ds)) g)
        where
          of_variable : Follows (λ t. type_along structs t e) (variable_type p (variable_of ds)) there → IsPlaceOf at s w z e there
          of_variable f = of_placed (placed f.value e h typed
              (sym ((λ j. (rule_checked e j).found) ∙ (λ j. (reference_checked e (alone j) w).found)) ∙ clean) declared there f.then' solid)
            where
              declared : variable_type p (denoted_by (look_up (variable_in e) w)) ≡ Some f.value
              declared = sym (λ j. variable_type p (denoted j)) ∙ f.is

              alone : is_function_name w e ≡ false
              alone = not_alone e h declared

              of_placed : Placed e there → IsPlaceOf at s w z e there
              of_placed q = record {
                type = q.type;
                address = q.address;
                is = q.is;
                same = q.same;
                are_listed = q.are_listed;
                rule = rule_resolved e ∙ (λ j. reference_resolved e (alone j) s w);
              }
