-- What the rules find of references here, without a fault, they find where more is known.
use Rattle.std.proofs.Common.{◌≡◌, ◌∙◌, ℕ, Bool, true, false, not, ◌&&◌, pos, [], Option, Some, None, refl, sym}
use Rattle.std.specs.Prelude.{option_and_then}
use Rattle.ec_base.specs.declared.fault.FaultKind.TheVariants.{F14}
use Rattle.ec_ctypes.specs.declared.types.arith.Arith.{Arith}
use Rattle.ec_ctypes.specs.trees.Types.{TyData, void, arithmetic, pointer, array, structure}
use Rattle.ec_language.specs.Letters.{Text}
use Rattle.ec_typing_defs.specs.Types.{is_structure, decayed, pointed_to, struct_number, element_type, only_if}
use Rattle.ec_typing_defs.specs.Operands.{OperandData, unknown, computed, object_operand, integer_operand, valued, element_by, member_type, member_by, member_in, value_rule as check_value, index_rule as check_index, member_rule as check_member, arrow_rule as check_arrow}
use Rattle.ec_typing_defs.specs.Worlds.{Place, MembersData, unlisted, begun, listed, is_listed, World, out, Rule, members_of, is_complete, note, followed as check_followed, chain as check_chain, pure as check_pure, ask as check_ask}
use Rattle.ec_memory_defs.specs.Memory.{number}
use Rattle.ec_meaning_defs.specs.resolved.Operations.{pointer_plus, plus_pointer}
use Rattle.ec_meaning_defs.specs.resolved.Resolved.{Exp, constant, faulty, operate}
use Rattle.ec_resolving_defs.specs.Conversions.{size_in, element_exp}
use Rattle.ec_resolving_defs.specs.Storage.{Storage, Resolving, reached, followed, chain, pure, checks, ask}
use Rattle.ec_resolving_defs.specs.Operands.{Found, found, with_form, as_place, over_types, value_exp, value_rule, index_rule, offset_among, member_at, member_exp, member_rule, arrow_rule}
use Rattle.ec_sim_world_laws.specs.place.Structs.{IsListed, EachStructIn, AreListed}
use Rattle.ec_sim_host_laws.proofs.reference_lemmas.Parts.{full_not}
use Rattle.ec_sim_host_laws.proofs.cursor_lemmas.Growing.{listed_of, complete_listed}

-- an operand of this type, which is a place or not
abbrev pub seen : OperandData → Option TyData → Bool → OperandData
seen o t b = record o { type = t; is_place = b }

-- what stays of structs that are listed
pub record StructsSame (w v : World) : Type 0 where
  pub members : (k : ℕ) → IsListed w k → members_of k v ≡ members_of k w
  pub complete : (t : TyData) → AreListed w t → is_complete v t ≡ is_complete w t
  pub size : (t : TyData) → AreListed w t → size_in v t ≡ size_in w t
  pub inside : (k : ℕ) → IsListed w k → (name : Text) {t : Option TyData} → member_type name (members_of k w) ≡ Some t → EachStructIn (IsListed w) t
  pub offset : (k : ℕ) → IsListed w k → (name : Text) → offset_among v name (members_of k v) ≡ offset_among w name (members_of k w)

module _ (s t : Storage) (w v : World) where
  -- Two walks, each beside its checks, find the same type and the same form, with no fault, and change nothing. The structs in the type are listed
  pub record Both (m : Resolving Found) (n : Rule OperandData) (m' : Resolving Found) (n' : Rule OperandData) : Type 0 where
    pub type : Option TyData
    pub is_place : Bool
    pub exp : Exp
    pub is_address : Bool
    pub one : OperandData
    pub other : OperandData
    pub here : m s w ≡ reached (found (seen one type is_place) exp is_address) s w
    pub there : m' t v ≡ reached (found (seen other type is_place) exp is_address) t v
    pub checked_here : n w ≡ out (seen one type is_place) [] w
    pub checked_there : n' v ≡ out (seen other type is_place) [] v
    pub are_listed : EachStructIn (IsListed w) type

  -- one rule and then another
  pub both_chain : {m m' : Resolving Found} {n n' : Rule OperandData} (k k' : Found → Resolving Found) (l l' : OperandData → Rule OperandData) → Both m n m' n'
      → ((o p : OperandData) (ty : Option TyData) (b : Bool) (e : Exp) (a : Bool) → EachStructIn (IsListed w) ty → (l (seen o ty b) w).found ≡ []
      → Both (k (found (seen o ty b) e a)) (l (seen o ty b)) (k' (found (seen p ty b) e a)) (l' (seen p ty b)))
      → (check_chain n l w).found ≡ [] → Both (chain m k) (check_chain n l) (chain m' k') (check_chain n' l')
  unfolding chain check_chain
  both_chain {m = m} {m' = m'} {n = n} {n' = n'} k k' l l' h f clean =
      further (f h.one h.other h.type h.is_place h.exp h.is_address h.are_listed (sym (λ j. (check_followed (h.checked_here j) l).found) ∙ clean))
    where
      further : Both (k (found (seen h.one h.type h.is_place) h.exp h.is_address)) (l (seen h.one h.type h.is_place))
          (k' (found (seen h.other h.type h.is_place) h.exp h.is_address)) (l' (seen h.other h.type h.is_place))
          → Both (chain m k) (check_chain n l) (chain m' k') (check_chain n' l')
      further q = record {
        type = q.type;
        is_place = q.is_place;
        exp = q.exp;
        is_address = q.is_address;
        one = q.one;
        other = q.other;
        here = (λ j. followed (h.here j) k) ∙ q.here;
        there = (λ j. followed (h.there j) k') ∙ q.there;
        checked_here = (λ j. check_followed (h.checked_here j) l) ∙ q.checked_here;
        checked_there = (λ j. check_followed (h.checked_there j) l') ∙ q.checked_there;
        are_listed = q.are_listed;
      }

  -- a form that is made of what is known
  both_asked : {A : Type 0} (f f' : World → A) (k k' : A → Resolving Found) {n n' : Rule OperandData} → Both (k (f w)) n (k' (f' v)) n'
      → Both (chain (ask f) k) n (chain (ask f') k') n'
  unfolding chain ask
  both_asked f f' k k' h = record {
    type = h.type;
    is_place = h.is_place;
    exp = h.exp;
    is_address = h.is_address;
    one = h.one;
    other = h.other;
    here = h.here;
    there = h.there;
    checked_here = h.checked_here;
    checked_there = h.checked_there;
    are_listed = h.are_listed;
  }

  -- a form beside what the checks find
  both_formed : (a : Bool) (e e' : Exp) → e' ≡ e → (m m' : Rule OperandData) (o p : OperandData) (ty : Option TyData) (b : Bool) → m w ≡ out (seen o ty b) [] w
      → m' v ≡ out (seen p ty b) [] v → EachStructIn (IsListed w) ty → Both (with_form (λ q. found q e a) m) m (with_form (λ q. found q e' a) m') m'
  unfolding chain checks pure
  both_formed a e e' same m m' o p ty b of_m of_m' h = record {
    type = ty;
    is_place = b;
    exp = e;
    is_address = a;
    one = o;
    other = p;
    here = λ j. reached (found (of_m j).answer e a) s (of_m j).world;
    there = λ j. reached (found (of_m' j).answer (same j) a) t (of_m' j).world;
    checked_here = of_m;
    checked_there = of_m';
    are_listed = h;
  }

  -- ---- constants

  pub number_both : (n : ℕ) (a : Arith)
      → Both (pure (found (integer_operand (arithmetic a) (pos n)) (constant (number (pos n))) false)) (check_pure (integer_operand (arithmetic a) (pos n)))
      (pure (found (integer_operand (arithmetic a) (pos n)) (constant (number (pos n))) false)) (check_pure (integer_operand (arithmetic a) (pos n)))
  unfolding pure check_pure
  number_both n a = record {
    type = Some (arithmetic a);
    is_place = false;
    exp = constant (number (pos n));
    is_address = false;
    one = integer_operand (arithmetic a) (pos n);
    other = integer_operand (arithmetic a) (pos n);
    here = refl;
    there = refl;
    checked_here = refl;
    checked_there = refl;
    are_listed = tt;
  }

  module _ (before at : Place) (same : StructsSame w v) where
    -- ---- values

    abbrev value_form : Place → Bool → OperandData → TyData → Rule OperandData
    value_form at b o t = elim b [
      | true ↦ check_chain (note at F14) (λ _. check_pure unknown)
      | false ↦ check_pure (valued o t)
    ]

    value_formed : (at : Place) (o : OperandData) (ty : TyData) (b : Bool) (x : World)
        → check_value at (seen o (Some ty) b) x ≡ value_form at (is_structure ty && not (is_complete x ty)) (seen o (Some ty) b) ty x
    unfolding check_value check_chain check_ask
    value_formed at o ty b x = refl

    value_fault : (at : Place) (o : OperandData) (t : TyData) (x : World) {C : Type 0} → (value_form at true o t x).found ≡ [] → C
    unfolding check_chain note
    value_fault at o t x clean = full_not clean

    value_whole : (at : Place) (o : OperandData) (t : TyData) (x : World) → value_form at false o t x ≡ out (valued o t) [] x
    unfolding check_pure
    value_whole at o t x = refl

    -- a struct that is complete stays so
    still_whole : (ty : TyData) → AreListed w ty → (is_structure ty && not (is_complete v ty)) ≡ (is_structure ty && not (is_complete w ty))
    still_whole ty h = λ j. is_structure ty && not (same.complete ty h j)

    decayed_listed : (ty : TyData) → AreListed w ty → AreListed w (decayed ty)
    decayed_listed void h = h
    decayed_listed (arithmetic a) h = h
    decayed_listed (pointer t) h = h
    decayed_listed (array t n) h = tt
    decayed_listed (structure k) h = h

    no_value : (at : Place) (o : OperandData) (b : Bool) (x : World) → check_value at (seen o None b) x ≡ out unknown [] x
    unfolding check_value check_pure
    no_value at o b x = refl

    pub value_both : (o p : OperandData) (ty : Option TyData) (b : Bool) (e : Exp) (a : Bool) → EachStructIn (IsListed w) ty
        → (check_value before (seen o ty b) w).found ≡ []
        → Both (value_rule before (found (seen o ty b) e a)) (check_value before (seen o ty b)) (value_rule at (found (seen p ty b) e a)) (check_value at (seen p ty b))
    value_both o p None b e a h clean =
        both_formed false (value_exp (found (seen o None b) e a)) (value_exp (found (seen p None b) e a)) refl
        (check_value before (seen o None b)) (check_value at (seen p None b)) unknown unknown None false (no_value before o b w) (no_value at p b v) tt
    value_both o p (Some ty) b e a h clean = by_test (is_structure ty && not (is_complete w ty)) refl
      where
        by_test : (c : Bool) → (is_structure ty && not (is_complete w ty)) ≡ c
            → Both (value_rule before (found (seen o (Some ty) b) e a)) (check_value before (seen o (Some ty) b))
            (value_rule at (found (seen p (Some ty) b) e a)) (check_value at (seen p (Some ty) b))
        by_test true is = value_fault before (seen o (Some ty) b) ty w
            (sym ((λ j. (value_formed before o ty b w j).found) ∙ (λ j. (value_form before (is j) (seen o (Some ty) b) ty w).found)) ∙ clean)
        by_test false is =
            both_formed false (value_exp (found (seen o (Some ty) b) e a)) (value_exp (found (seen p (Some ty) b) e a)) refl
            (check_value before (seen o (Some ty) b)) (check_value at (seen p (Some ty) b))
            (valued (seen o (Some ty) b) ty) (valued (seen p (Some ty) b) ty) (Some (decayed ty)) false
            (value_formed before o ty b w ∙ (λ j. value_form before (is j) (seen o (Some ty) b) ty w) ∙ value_whole before (seen o (Some ty) b) ty w)
            (value_formed at p ty b v ∙ (λ j. value_form at ((still_whole ty h ∙ is) j) (seen p (Some ty) b) ty v) ∙ value_whole at (seen p (Some ty) b) ty v)
            (decayed_listed ty h)

    -- ---- elements

    record IsElement (x y : TyData) (e f : Exp) : Type 0 where
      element : TyData
      here : element_type (is_complete w) x y ≡ Some element
      there : element_type (is_complete v) x y ≡ Some element
      exp : element_exp v x e y f ≡ element_exp w x e y f
      are_listed : AreListed w element

    completes : (u : TyData) → is_complete w u ≡ true → is_complete v u ≡ true
    completes u is = same.complete u (complete_listed w u is) ∙ is

    no_element : {C : Type 0} → (element_by before None w).found ≡ [] → C
    unfolding check_chain note
    no_element clean = full_not clean

    pointed : (u : TyData) (a : Arith) (e f : Exp) (b : Bool) → is_complete w u ≡ b → (element_by before (only_if b u) w).found ≡ []
        → IsElement (pointer u) (arithmetic a) e f
    pointed u a e f true is clean = record {
      element = u;
      here = λ j. only_if (is j) u;
      there = λ j. only_if (completes u is j) u;
      exp = λ j. operate (pointer_plus (same.size u (complete_listed w u is) j)) e f;
      are_listed = complete_listed w u is;
    }
    pointed u a e f false is clean = no_element clean

    pointed_behind : (u : TyData) (a : Arith) (e f : Exp) (b : Bool) → is_complete w u ≡ b → (element_by before (only_if b u) w).found ≡ []
        → IsElement (arithmetic a) (pointer u) e f
    pointed_behind u a e f true is clean = record {
      element = u;
      here = λ j. only_if (is j) u;
      there = λ j. only_if (completes u is j) u;
      exp = λ j. operate (plus_pointer (same.size u (complete_listed w u is) j)) e f;
      are_listed = complete_listed w u is;
    }
    pointed_behind u a e f false is clean = no_element clean

    element_of : (x y : TyData) (e f : Exp) → (element_by before (element_type (is_complete w) x y) w).found ≡ [] → IsElement x y e f
    element_of (pointer u) (arithmetic a) e f clean = pointed u a e f (is_complete w u) refl clean
    element_of (arithmetic a) (pointer u) e f clean = pointed_behind u a e f (is_complete w u) refl clean
    element_of _ _ e f clean = no_element clean

    index_formed : (at : Place) (o q : OperandData) (x y : TyData) (b c : Bool) (z : World)
        → check_index at (seen o (Some x) b) (seen q (Some y) c) z ≡ element_by at (element_type (is_complete z) x y) z
    unfolding check_index check_chain check_ask
    index_formed at o q x y b c z = refl

    element_found : (at : Place) (u : TyData) (z : World) → element_by at (Some u) z ≡ out (object_operand false (Some u)) [] z
    unfolding check_pure
    element_found at u z = refl

    first_typeless : (at : Place) (o q : OperandData) (y : Option TyData) (b c : Bool) (z : World) → check_index at (seen o None b) (seen q y c) z ≡ out unknown [] z
    unfolding check_index check_pure
    first_typeless at o q y b c z = refl

    second_typeless : (at : Place) (o q : OperandData) (x : TyData) (b c : Bool) (z : World)
        → check_index at (seen o (Some x) b) (seen q None c) z ≡ out unknown [] z
    unfolding check_index check_pure
    second_typeless at o q x b c z = refl

    abbrev element_at : World → Option TyData → Exp → Option TyData → Exp → Exp
    element_at z x e y f = over_types x y (λ s t. element_exp z s e t f)

    -- over two operands, by the form that each side has
    abbrev Indexed : (o p : OperandData) (x : Option TyData) (b : Bool) (e : Exp) (a : Bool) (q r : OperandData) (y : Option TyData) (c : Bool) (f : Exp) (d : Bool) → Type 0
    Indexed o p x b e a q r y c f d = Both (index_rule before (found (seen o x b) e a) (found (seen q y c) f d)) (check_index before (seen o x b) (seen q y c))
        (index_rule at (found (seen p x b) e a) (found (seen r y c) f d)) (check_index at (seen p x b) (seen r y c))

    pub index_both : (o p : OperandData) (x : Option TyData) (b : Bool) (e : Exp) (a : Bool) (q r : OperandData) (y : Option TyData) (c : Bool) (f : Exp) (d : Bool)
        → (check_index before (seen o x b) (seen q y c) w).found ≡ [] → Indexed o p x b e a q r y c f d
    index_both o p None b e a q r y c f d clean =
        both_asked (λ z. element_at z None e y f) (λ z. element_at z None e y f)
        (λ g. with_form (as_place g) (check_index before (seen o None b) (seen q y c))) (λ g. with_form (as_place g) (check_index at (seen p None b) (seen r y c)))
        (both_formed true faulty faulty refl (check_index before (seen o None b) (seen q y c)) (check_index at (seen p None b) (seen r y c)) unknown unknown None false
        (first_typeless before o q y b c w) (first_typeless at p r y b c v) tt)
    index_both o p (Some x) b e a q r None c f d clean =
        both_asked (λ z. element_at z (Some x) e None f) (λ z. element_at z (Some x) e None f)
        (λ g. with_form (as_place g) (check_index before (seen o (Some x) b) (seen q None c))) (λ g. with_form (as_place g) (check_index at (seen p (Some x) b) (seen r None c)))
        (both_formed true faulty faulty refl (check_index before (seen o (Some x) b) (seen q None c)) (check_index at (seen p (Some x) b) (seen r None c)) unknown unknown None false
        (second_typeless before o q x b c w) (second_typeless at p r x b c v) tt)
    index_both o p (Some x) b e a q r (Some y) c f d clean = of_element (element_of x y e f (sym (λ j. (index_formed before o q x y b c w j).found) ∙ clean))
      where
        of_element : IsElement x y e f → Indexed o p (Some x) b e a q r (Some y) c f d
        of_element i =
            both_asked (λ z. element_at z (Some x) e (Some y) f) (λ z. element_at z (Some x) e (Some y) f)
            (λ g. with_form (as_place g) (check_index before (seen o (Some x) b) (seen q (Some y) c)))
            (λ g. with_form (as_place g) (check_index at (seen p (Some x) b) (seen r (Some y) c)))
            (both_formed true (element_exp w x e y f) (element_exp v x e y f) i.exp
            (check_index before (seen o (Some x) b) (seen q (Some y) c)) (check_index at (seen p (Some x) b) (seen r (Some y) c))
            (object_operand false (Some i.element)) (object_operand false (Some i.element)) (Some i.element) true
            (index_formed before o q x y b c w ∙ (λ j. element_by before (i.here j) w) ∙ element_found before i.element w)
            (index_formed at p r x y b c v ∙ (λ j. element_by at (i.there j) v) ∙ element_found at i.element v)
            i.are_listed)

    -- ---- members

    no_member : {C : Type 0} (b : Bool) → (member_by before b None w).found ≡ [] → C
    unfolding check_chain note
    no_member b clean = full_not clean

    no_struct : {C : Type 0} (b : Bool) (name : Text) → (member_in before b name None w).found ≡ [] → C
    unfolding check_chain note
    no_struct b name clean = full_not clean

    member_formed : (at : Place) (b : Bool) (name : Text) (k : ℕ) (z : World) → member_in at b name (Some k) z ≡ member_by at b (member_type name (members_of k z)) z
    unfolding check_chain check_ask
    member_formed at b name k z = refl

    member_found : (at : Place) (b : Bool) (t : Option TyData) (z : World) → member_by at b (Some t) z ≡ out (seen (computed t) t b) [] z
    unfolding check_pure
    member_found at b t z = refl

    -- of a struct that is listed
    struct_both : (b : Bool) (k : ℕ) → IsListed w k → (e : Exp) (name : Text) (m m' : Rule OperandData) → m w ≡ member_in before b name (Some k) w
        → m' v ≡ member_in at b name (Some k) v → (m w).found ≡ []
        → Both (with_form (as_place (member_exp w (Some k) name e)) m) m (with_form (as_place (member_exp v (Some k) name e)) m') m'
    struct_both b k h e name m m' of_m of_m' clean = by_member (member_type name (members_of k w)) refl
      where
        by_member : (o : Option (Option TyData)) → member_type name (members_of k w) ≡ o
            → Both (with_form (as_place (member_exp w (Some k) name e)) m) m (with_form (as_place (member_exp v (Some k) name e)) m') m'
        by_member None is = no_member b
            (sym ((λ j. (of_m j).found) ∙ (λ j. (member_formed before b name k w j).found) ∙ (λ j. (member_by before b (is j) w).found)) ∙ clean)
        by_member (Some t) is =
            both_formed true (member_exp w (Some k) name e) (member_exp v (Some k) name e) (λ j. member_at e (same.offset k h name j)) m m'
            (computed t) (computed t) t b
            (of_m ∙ member_formed before b name k w ∙ (λ j. member_by before b (is j) w) ∙ member_found before b t w)
            (of_m' ∙ member_formed at b name k v ∙ (λ j. member_by at b (member_type name (same.members k h j)) v) ∙ (λ j. member_by at b (is j) v)
            ∙ member_found at b t v)
            (same.inside k h name is)

    -- behind a pointer the checks find that the struct is listed
    listed_in : (b : Bool) (name : Text) (ms : Option MembersData) → (member_by before b (member_type name ms) w).found ≡ [] → is_listed ms ≡ true
    listed_in b name None clean = no_member b clean
    listed_in b name (Some unlisted) clean = no_member b clean
    listed_in b name (Some begun) clean = no_member b clean
    listed_in b name (Some (listed ms)) clean = refl

    no_type : (at : Place) (o : OperandData) (b : Bool) (name : Text) (z : World) → check_member at (seen o None b) name z ≡ out unknown [] z
    unfolding check_member check_pure
    no_type at o b name z = refl

    of_struct : (at : Place) (o : OperandData) (x : TyData) (b : Bool) (name : Text) (z : World)
        → check_member at (seen o (Some x) b) name z ≡ member_in at b name (struct_number x) z
    unfolding check_member
    of_struct at o x b name z = refl

    abbrev Member : (o p : OperandData) (x : Option TyData) (b : Bool) (e : Exp) (a : Bool) (name : Text) → Type 0
    Member o p x b e a name = Both (member_rule before (found (seen o x b) e a) name) (check_member before (seen o x b) name)
        (member_rule at (found (seen p x b) e a) name) (check_member at (seen p x b) name)

    no_struct_in : (o : OperandData) (x : TyData) (b : Bool) (name : Text) {C : Type 0} → struct_number x ≡ None → (check_member before (seen o (Some x) b) name w).found ≡ [] → C
    no_struct_in o x b name none clean = no_struct b name
        (sym ((λ j. (of_struct before o x b name w j).found) ∙ (λ j. (member_in before b name (none j) w).found)) ∙ clean)

    pub member_both : (o p : OperandData) (x : Option TyData) (b : Bool) (e : Exp) (a : Bool) (name : Text) → EachStructIn (IsListed w) x
        → (check_member before (seen o x b) name w).found ≡ [] → Member o p x b e a name
    member_both o p None b e a name h clean =
        both_asked (λ z. member_exp z None name e) (λ z. member_exp z None name e)
        (λ g. with_form (as_place g) (check_member before (seen o None b) name)) (λ g. with_form (as_place g) (check_member at (seen p None b) name))
        (both_formed true faulty faulty refl (check_member before (seen o None b) name) (check_member at (seen p None b) name) unknown unknown None false
        (no_type before o b name w) (no_type at p b name v) tt)
    member_both o p (Some void) b e a name h clean = no_struct_in o void b name refl clean
    member_both o p (Some (arithmetic c)) b e a name h clean = no_struct_in o (arithmetic c) b name refl clean
    member_both o p (Some (pointer x)) b e a name h clean = no_struct_in o (pointer x) b name refl clean
    member_both o p (Some (array x n)) b e a name h clean = no_struct_in o (array x n) b name refl clean
    member_both o p (Some (structure k)) b e a name h clean =
        both_asked (λ z. member_exp z (Some k) name e) (λ z. member_exp z (Some k) name e)
        (λ g. with_form (as_place g) (check_member before (seen o (Some (structure k)) b) name))
        (λ g. with_form (as_place g) (check_member at (seen p (Some (structure k)) b) name))
        (struct_both b k h e name (check_member before (seen o (Some (structure k)) b) name) (check_member at (seen p (Some (structure k)) b) name)
        (of_struct before o (structure k) b name w) (of_struct at p (structure k) b name v) clean)

    -- ---- members behind pointers

    no_target : (at : Place) (o : OperandData) (b : Bool) (name : Text) (z : World) → check_arrow at (seen o None b) name z ≡ out unknown [] z
    unfolding check_arrow check_pure
    no_target at o b name z = refl

    of_target : (at : Place) (o : OperandData) (x : TyData) (b : Bool) (name : Text) (z : World)
        → check_arrow at (seen o (Some x) b) name z ≡ member_in at true name (option_and_then struct_number (pointed_to x)) z
    unfolding check_arrow
    of_target at o x b name z = refl

    abbrev Arrow : (o p : OperandData) (x : Option TyData) (b : Bool) (e : Exp) (a : Bool) (name : Text) → Type 0
    Arrow o p x b e a name = Both (arrow_rule before (found (seen o x b) e a) name) (check_arrow before (seen o x b) name)
        (arrow_rule at (found (seen p x b) e a) name) (check_arrow at (seen p x b) name)

    no_struct_behind : (o : OperandData) (x : TyData) (b : Bool) (name : Text) {C : Type 0} → option_and_then struct_number (pointed_to x) ≡ None
        → (check_arrow before (seen o (Some x) b) name w).found ≡ [] → C
    no_struct_behind o x b name none clean = no_struct true name
        (sym ((λ j. (of_target before o x b name w j).found) ∙ (λ j. (member_in before true name (none j) w).found)) ∙ clean)

    pub arrow_both : (o p : OperandData) (x : Option TyData) (b : Bool) (e : Exp) (a : Bool) (name : Text) → (check_arrow before (seen o x b) name w).found ≡ []
        → Arrow o p x b e a name
    arrow_both o p None b e a name clean =
        both_asked (λ z. member_exp z None name e) (λ z. member_exp z None name e)
        (λ g. with_form (as_place g) (check_arrow before (seen o None b) name)) (λ g. with_form (as_place g) (check_arrow at (seen p None b) name))
        (both_formed true faulty faulty refl (check_arrow before (seen o None b) name) (check_arrow at (seen p None b) name) unknown unknown None false
        (no_target before o b name w) (no_target at p b name v) tt)
    arrow_both o p (Some void) b e a name clean = no_struct_behind o void b name refl clean
    arrow_both o p (Some (arithmetic c)) b e a name clean = no_struct_behind o (arithmetic c) b name refl clean
    arrow_both o p (Some (array x n)) b e a name clean = no_struct_behind o (array x n) b name refl clean
    arrow_both o p (Some (structure k)) b e a name clean = no_struct_behind o (structure k) b name refl clean
    arrow_both o p (Some (pointer void)) b e a name clean = no_struct_behind o (pointer void) b name refl clean
    arrow_both o p (Some (pointer (arithmetic c))) b e a name clean = no_struct_behind o (pointer (arithmetic c)) b name refl clean
    arrow_both o p (Some (pointer (pointer x))) b e a name clean = no_struct_behind o (pointer (pointer x)) b name refl clean
    arrow_both o p (Some (pointer (array x n))) b e a name clean = no_struct_behind o (pointer (array x n)) b name refl clean
    arrow_both o p (Some (pointer (structure k))) b e a name clean =
        both_asked (λ z. member_exp z (Some k) name e) (λ z. member_exp z (Some k) name e)
        (λ g. with_form (as_place g) (check_arrow before (seen o (Some (pointer (structure k))) b) name))
        (λ g. with_form (as_place g) (check_arrow at (seen p (Some (pointer (structure k))) b) name))
        (struct_both true k (listed_of w k (listed_in true name (members_of k w) clean_member)) e name
        (check_arrow before (seen o (Some (pointer (structure k))) b) name) (check_arrow at (seen p (Some (pointer (structure k))) b) name)
        (of_target before o (pointer (structure k)) b name w) (of_target at p (pointer (structure k)) b name v) clean)
      where
        clean_member : (member_by before true (member_type name (members_of k w)) w).found ≡ []
        clean_member = sym ((λ j. (of_target before o (pointer (structure k)) b name w j).found) ∙ (λ j. (member_formed before true name k w j).found)) ∙ clean
