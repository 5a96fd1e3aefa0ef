-- The pointers that are written for a host lead to the places of its references.
use Rattle.std.proofs.Common.{◌≡◌, ◌∙◌, ℕ, Bool, true, false, List, [], ◌∷◌, take, drop, Option, Some, None, refl, sym, subst, slice_get, option_map, codes}
use Rattle.std.specs.Prelude.{option_and_then}
use Rattle.ec_arguments.specs.Arguments.{held}
use Rattle.ec_ctypes.specs.trees.Embedded.{HostData}
use Rattle.ec_ctypes.specs.trees.Exprs.{ExprData, member as member_expr}
use Rattle.ec_ctypes.specs.Layout.{member_of}
use Rattle.ec_ctypes.specs.trees.Types.{TyData, void, arithmetic, pointer, array, structure, StructData}
use Rattle.ec_expansion_defs.specs.Calls.{text_of}
use Rattle.ec_host_defs.specs.Elements.{array_length, is_element}
use Rattle.ec_host_defs.specs.Leaves.{LeafData, paired, leaves, leaves_or_none, hosted, leaves_by, own_leaf, one_element, other_shape}
use Rattle.ec_host_defs.specs.Places.{leaf_pointer, text_pointer}
use Rattle.ec_host_defs.specs.Programs.{ProgramData, reference_type, names_count}
use Rattle.ec_typing_defs.specs.statement_parts.References.{of_host}
use Rattle.ec_typing_defs.specs.Answers.{struct_order, place_of, renumbered, structs_of}
use Rattle.ec_typing_defs.specs.Types.{is_void}
use Rattle.ec_typing_defs.specs.Worlds.{Place, World}
use Rattle.ec_memory_defs.specs.Memory.{pointer_type}
use Rattle.ec_meaning_defs.specs.resolved.Resolved.{Exp, member, load, faulty}
use Rattle.ec_resolving_defs.specs.Storage.{Storage, ReferenceForm}
use Rattle.ec_direct_defs.specs.Leaves.{leaf_place, member_place}
use Rattle.ec_direct_defs.specs.Statements.{Around, behind, reference_at, text_place, type_of}
use Rattle.ec_sim_statement_laws.specs.argument.Pointers.{IsPlace, IsPointer, target_of}
use Rattle.ec_sim_statement_laws.specs.argument.Bound.{IsOne, IndicatorIs, PairsAre, HostIs, PointsTo, HostTextIs}
use Rattle.ec_sim_statement_laws.proofs.argument_lemmas.Pointers.{leaf_pointed, member_of_place}
use Rattle.ec_sim_world_laws.specs.place.Structs.{AreListed, IsWithin}
use Rattle.ec_sim_world_laws.specs.place.Places.{IsMember, Lies, AllLie}
use Rattle.ec_sim_world_laws.specs.place.References.{NamesAreDeclared, tables_of, IsPlaceOf}
use Rattle.ec_sim_world_laws.specs.place.Statements.{pointer_exp, ReferenceIs, ReferencesAre, NamesText}
use Rattle.ec_sim_world_laws.proofs.place_lemmas.Lists.{none_not, some_is}
use Rattle.ec_sim_world_laws.proofs.place_lemmas.MembersSame.{member_known}
use Rattle.ec_sim_world_laws.proofs.place_lemmas.PlacesFound.{pointer_value, array_value}
use Rattle.ec_sim_world_laws.proofs.place_lemmas.LeavesLie.{leaves_lie}
use Rattle.ec_sim_world_laws.proofs.place_lemmas.ReferencesFound.{reference_placed}

abbrev place_in : List ReferenceForm → ℕ → Exp
place_in rs n = elim (slice_get rs n) [ None ↦ faulty | Some r ↦ r.place ]

next_reference : (n : ℕ) (x : Around) → reference_at 1 x ≡ reference_at 0 (behind n 1 x)
next_reference n x = by_list x.references
  where
    by_list : (rs : List ReferenceForm) → place_in rs 1 ≡ place_in (drop 1 rs) 0
    by_list [] = refl
    by_list (r ∷ []) = refl
    by_list (r ∷ q ∷ rs) = refl

-- a type that names a text is not void
text_solid : (structs : List StructData) (t : TyData) → NamesText structs t → is_void t ≡ false
text_solid structs void n = absurd n
text_solid structs (arithmetic a) n = refl
text_solid structs (pointer t) n = refl
text_solid structs (array t n) m = refl
text_solid structs (structure k) n = refl

module _ (at : Place) (s : Storage) (w z : World) (hosts functions : List ℕ) (r : IsWithin w z) (names : NamesAreDeclared w functions) where
  abbrev p : ProgramData
  p = tables_of z hosts functions

  abbrev g : ExprData → Exp
  g = pointer_exp at s w

  -- the place of the next reference
  pub place_of_next : {e : ExprData} {x : Around} → ReferenceIs at s w e x → {there : TyData} → reference_type p e (take (names_count e) x.denoted) ≡ Some there
      → is_void there ≡ false → IsPlaceOf at s w z e there
  place_of_next {e} {x} h {there} t solid = reference_placed at s w functions names z r hosts e h.form h.indexes h.clean (take (names_count e) x.denoted) h.variable there t solid

  same_address : {e : ExprData} {x : Around} → ReferenceIs at s w e x → {there : TyData} (q : IsPlaceOf at s w z e there) → q.address ≡ reference_at 0 x
  same_address h q = sym (λ j. (q.is.is j).answer.exp) ∙ h.address

  -- ---- leaves

  -- the pointer to a leaf of the next reference
  leaf_leads : {e : ExprData} {x : Around} → ReferenceIs at s w e x → {there : TyData} (q : IsPlaceOf at s w z e there) (l : LeafData) → Lies w z q.type l
      → g (leaf_pointer e l) ≡ leaf_place p.structs (reference_at 0 x) l
  leaf_leads {e} {x} h q l lies = of_pointer (leaf_pointed at s w (struct_order z) (structs_of z) lies.is q.is)
    where
      of_pointer : IsPointer at s w (leaf_pointer e l) (target_of lies.type) (leaf_place (structs_of z) q.address l) → g (leaf_pointer e l) ≡ leaf_place p.structs (reference_at 0 x) l
      of_pointer i = (λ j. (i.is j).answer.exp) ∙ (λ j. leaf_place p.structs (same_address h q j) l)

  abbrev AllLead : ExprData → Exp → List LeafData → Type 0
  AllLead e x [] = Unit {0}
  AllLead e x (l ∷ ls) = (g (leaf_pointer e l) ≡ leaf_place p.structs x l) × AllLead e x ls

  all_lead : {e : ExprData} {x : Around} → ReferenceIs at s w e x → {there : TyData} (q : IsPlaceOf at s w z e there) (ls : List LeafData) → AllLie w z q.type ls
      → AllLead e (reference_at 0 x) ls
  all_lead h q [] a = tt
  all_lead h q (l ∷ ls) a = (leaf_leads h q l a.0, all_lead h q ls a.1)

  -- those of a reference of a type that is not void
  some_lead : {e : ExprData} {x : Around} → ReferenceIs at s w e x → {there : TyData} → reference_type p e (take (names_count e) x.denoted) ≡ Some there
      → is_void there ≡ false → AllLead e (reference_at 0 x) (leaves_or_none p.structs (Some there))
  some_lead {e} {x} h {there} is solid = of_place (place_of_next h is solid)
    where
      of_place : IsPlaceOf at s w z e there → AllLead e (reference_at 0 x) (leaves_or_none p.structs (Some there))
      of_place q = of_leaves (leaves p.structs there) refl
        where
          of_leaves : (o : Option (List LeafData)) → leaves p.structs there ≡ o → AllLead e (reference_at 0 x) (elim o [ None ↦ [] | Some ls ↦ ls ])
          of_leaves None are = tt
          of_leaves (Some ls) are = all_lead h q ls (leaves_lie w z r q.type q.are_listed ls (sym (λ j. leaves p.structs (q.same j)) ∙ are))

  -- those of a reference of this type, if it has one: of type void it has none
  leaves_lead : {e : ExprData} {x : Around} → ReferenceIs at s w e x → (t : Option TyData) → reference_type p e (take (names_count e) x.denoted) ≡ t
      → AllLead e (reference_at 0 x) (leaves_or_none p.structs t)
  leaves_lead h None is = tt
  leaves_lead h (Some void) is = tt
  leaves_lead h (Some (arithmetic a)) is = some_lead h is refl
  leaves_lead h (Some (pointer t)) is = some_lead h is refl
  leaves_lead h (Some (array t n)) is = some_lead h is refl
  leaves_lead h (Some (structure k)) is = some_lead h is refl

  -- a host and its indicator
  module _ (h : HostData) (x y : Exp) where
    abbrev IndicatorsLead : Option ExprData → List LeafData → Type 0
    IndicatorsLead None is = Unit {0}
    IndicatorsLead (Some e) is = AllLead e y is

    no_indicator : (i : Option ExprData) → IndicatorIs p g i y None
    no_indicator None = tt
    no_indicator (Some e) = tt

    one_indicator : (i : Option ExprData) (l : LeafData) (ls : List LeafData) → IndicatorsLead i (l ∷ ls) → IndicatorIs p g i y (Some l)
    one_indicator None l ls a = tt
    one_indicator (Some e) l ls a = a.0

    more_indicators : (i : Option ExprData) (l : LeafData) (ls : List LeafData) → IndicatorsLead i (l ∷ ls) → IndicatorsLead i ls
    more_indicators None l ls a = tt
    more_indicators (Some e) l ls a = a.1

    pairs_lead : (ls is : List LeafData) → AllLead h.value x ls → IndicatorsLead h.indicator is → PairsAre p g h x y (paired ls is)
    pairs_lead [] is a b = tt
    pairs_lead (l ∷ ls) [] a b = (a.0, no_indicator h.indicator, pairs_lead ls [] a.1 b)
    pairs_lead (l ∷ ls) (i ∷ is) a b = (a.0, one_indicator h.indicator i is b, pairs_lead ls is a.1 (more_indicators h.indicator i is b))

  -- with the indicator that comes next
  host_by : (v : ExprData) (i : Option ExprData) (x : Around) → ReferencesAre at s w (of_host (record { value = v; indicator = i })) x
      → HostIs p g (record { value = v; indicator = i }) x
  host_by v None x h = pairs_lead (record { value = v; indicator = None }) (reference_at 0 x) (reference_at 1 x)
      (leaves_or_none p.structs (reference_type p v (take (names_count v) x.denoted))) []
      (leaves_lead h.0 (reference_type p v (take (names_count v) x.denoted)) refl) tt
  host_by v (Some i) x h = pairs_lead (record { value = v; indicator = Some i }) (reference_at 0 x) (reference_at 1 x)
      (leaves_or_none p.structs (reference_type p v (take (names_count v) x.denoted)))
      (leaves_or_none p.structs of_indicator)
      (leaves_lead h.0 (reference_type p v (take (names_count v) x.denoted)) refl)
      (subst (λ y. AllLead i y (leaves_or_none p.structs of_indicator)) (sym (next_reference (names_count v) x)) (leaves_lead h.1.0 of_indicator refl))
    where
      of_indicator : Option TyData
      of_indicator = reference_type p i (take (names_count i) (drop (names_count v) x.denoted))

  pub host_leads : (h : HostData) (x : Around) → ReferencesAre at s w (of_host h) x → HostIs p g h x
  host_leads h x a = host_by h.value h.indicator x a

  -- ---- texts

  -- an array in the tables is one here
  record IsArray (t : TyData) : Type 0 where
    element : TyData
    count : ℕ
    is : t ≡ array element count

  array_by : (t : TyData) {n : ℕ} → array_length (renumbered (struct_order z) t) ≡ Some n → IsArray t
  array_by void e = none_not e
  array_by (arithmetic a) e = none_not e
  array_by (pointer t) e = none_not e
  array_by (array t n) e = record { element = t; count = n; is = refl }
  array_by (structure k) e = none_not e

  member_by : (o : Option (ℕ × TyData)) (y : Exp) {offset : ℕ} → option_map (λ (m : ℕ × TyData). m.0) o ≡ Some offset
      → member offset y ≡ elim o [ None ↦ faulty | Some m ↦ member m.0 y ]
  member_by None y e = none_not e
  member_by (Some m) y e = sym (λ j. member (some_is e j) y)

  module _ (e : ExprData) (x : Around) (h : ReferenceIs at s w e x) (named : text_of e ≡ held e) where
    abbrev Leads : Option TyData → Type 0
    Leads o = PointsTo p g (text_pointer o e) (text_place p.structs o (reference_at 0 x))

    text_by : (t : TyData) (y : Exp) → IsPlace at s w e t y → y ≡ reference_at 0 x → AreListed w t → NamesText p.structs (renumbered (struct_order z) t)
        → Leads (Some (renumbered (struct_order z) t))
    text_by void y q same l n = absurd n
    text_by (arithmetic a) y q same l n = absurd n
    text_by (pointer u) y q same l n = of_value (pointer_value at s w q)
      where
        of_value : IsPointer at s w e u (load pointer_type y) → Leads (Some (pointer (renumbered (struct_order z) u)))
        of_value i = record { is_held = named; is = (λ j. (i.is j).answer.exp) ∙ (λ j. load pointer_type (same j)) }
    text_by (array u c) y q same l n = of_value (array_value at s w q)
      where
        of_value : IsPointer at s w e u y → Leads (Some (array (renumbered (struct_order z) u) c))
        of_value i = record { is_held = named; is = (λ j. (i.is j).answer.exp) ∙ same }
    text_by (structure k) y q same l n = of_member (member_known w z r k l (codes "arr") (array n.0 n.1) n.2)
      where
        of_value : {u : TyData} {offset : ℕ} → IsPointer at s w (member_expr e (codes "arr")) u (member offset y)
            → option_map (λ (m : ℕ × TyData). m.0) (member_of p.structs (place_of k (struct_order z)) (codes "arr")) ≡ Some offset
            → Leads (Some (structure (place_of k (struct_order z))))
        of_value i laid_out = record {
          is_held = refl;
          is = (λ j. (i.is j).answer.exp) ∙ member_by (member_of p.structs (place_of k (struct_order z)) (codes "arr")) y laid_out
              ∙ (λ j. member_place p.structs (place_of k (struct_order z), codes "arr") (same j));
        }

        of_array : (m : IsMember w z k (codes "arr") (array n.0 n.1)) → IsArray m.type → Leads (Some (structure (place_of k (struct_order z))))
        of_array m a = of_value (array_value at s w (subst (λ t. IsPlace at s w (member_expr e (codes "arr")) t (member m.offset y)) a.is
            (member_of_place at s w q m.is.type m.is.place))) m.is.laid_out

        of_member : IsMember w z k (codes "arr") (array n.0 n.1) → Leads (Some (structure (place_of k (struct_order z))))
        of_member m = of_array m (array_by m.type (sym (λ j. array_length (m.same j))))

    pub text_leads : (there : TyData) → type_of p e x ≡ Some there → NamesText p.structs there → HostTextIs p g e x
    text_leads there is n = of_place (place_of_next h is (text_solid p.structs there n))
      where
        of_place : IsPlaceOf at s w z e there → HostTextIs p g e x
        of_place q = subst Leads (sym (is ∙ (λ j. Some (q.same j))))
            (text_by q.type q.address q.is (same_address h q) q.are_listed (subst (NamesText p.structs) q.same n))

-- ---- hosts of one leaf

pub element_is_one : (structs : List StructData) (t : TyData) (i : Option TyData) → is_element structs t ≡ true → IsOne (hosted structs (Some t) i)
element_is_one structs t i e = subst (λ b. IsOne (paired (found b) (leaves_or_none structs i))) (sym e) (one (leaves_or_none structs i))
  where
    found : Bool → List LeafData
    found b = elim (option_and_then (leaves_by structs t) (elim b [ true ↦ Some one_element | false ↦ other_shape structs t ])) [ None ↦ [] | Some ls ↦ ls ]

    one : (is : List LeafData) → IsOne (paired (own_leaf t t 1 ∷ []) is)
    one [] = tt
    one (i ∷ is) = tt
