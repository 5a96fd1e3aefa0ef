-- The leaves of a host lie in its type.
use Rattle.std.proofs.Common.{◌≡◌, ◌∙◌, ℕ, zero, suc, Bool, true, false, List, [], ◌∷◌, ◌++◌, map, length, Option, Some, None, refl, sym, subst, slice_get, option_map}
use Rattle.std.specs.Prelude.{option_and_then}
use Rattle.ec_ctypes.specs.trees.Types.{TyData, void, arithmetic, pointer, array, structure, MemberData, StructData}
use Rattle.ec_language.specs.Letters.{Text}
use Rattle.ec_host_defs.specs.Elements.{is_element, plain_if, plain_number, plain_struct}
use Rattle.ec_host_defs.specs.Leaves.{LeafData, Way, both, with_step, member_ways, members_ways, ways_within, ways, ShapeData, one_element, elements, one_struct, many_structs, is_pointer, array_shape, other_shape, leaf_of_struct, leaf_of_structs, own_leaf, leaves_by, leaves}
use Rattle.ec_typing_defs.specs.Worlds.{World, is_listed}
use Rattle.ec_typing_defs.specs.Programs.{known_members}
use Rattle.ec_typing_defs.specs.Answers.{struct_order, place_of, renumbered, struct_members, structs_of}
use Rattle.ec_sim_statement_laws.specs.argument.Pointers.{HasMember, Leads, leads_here, leads_on, HasElements, LiesIn, in_itself, in_first_of}
use Rattle.ec_sim_world_laws.specs.place.Structs.{IsListed, AreListed, AreNamed, IsWithin}
use Rattle.ec_sim_world_laws.specs.place.Places.{AllLie}
use Rattle.ec_sim_world_laws.proofs.place_lemmas.Lists.{none_not, some_is, Follows, follows}
use Rattle.ec_sim_world_laws.proofs.place_lemmas.Shapes.{Typed}
use Rattle.ec_sim_world_laws.proofs.place_lemmas.MembersSame.{size_same, Place, place, Has, has_member, in_table, table_members, typed}

-- ---- values that there are

record Mapped {A B : Type 0} (f : A → B) (o : Option A) (b : B) : Type 0 where
  value : A
  is : o ≡ Some value
  gives : f value ≡ b

mapped : {A B : Type 0} (f : A → B) (o : Option A) {b : B} → option_map f o ≡ Some b → Mapped f o b
mapped f None e = none_not e
mapped f (Some a) e = record { value = a; is = refl; gives = some_is e }

record Joined {A : Type 0} (x y : Option (List A)) (all : List A) : Type 0 where
  first : List A
  second : List A
  is_first : x ≡ Some first
  is_second : y ≡ Some second
  are : first ++ second ≡ all

joined : {A : Type 0} (x y : Option (List A)) {all : List A} → both x y ≡ Some all → Joined x y all
joined None y e = none_not e
joined (Some xs) None e = none_not e
joined (Some xs) (Some ys) e = record { first = xs; second = ys; is_first = refl; is_second = refl; are = some_is e }

module _ (w z : World) (r : IsWithin w z) where
  abbrev order : List ℕ
  order = struct_order z

  abbrev structs : List StructData
  structs = structs_of z

  -- ---- structs that stand for their members

  record Plain (t : TyData) (j : ℕ) : Type 0 where
    number : ℕ
    is : t ≡ structure number
    there : place_of number order ≡ j

  plain_place : (b : Bool) (k : ℕ) {j : ℕ} → plain_if b k ≡ Some j → k ≡ j
  plain_place true k e = none_not e
  plain_place false k e = some_is e

  plain_is : (t : TyData) {j : ℕ} → plain_struct structs (renumbered order t) ≡ Some j → Plain t j
  plain_is void e = none_not e
  plain_is (arithmetic a) e = none_not e
  plain_is (pointer t) e = none_not e
  plain_is (array t n) e = none_not e
  plain_is (structure k) {j = j} e = of_data (follows (plain_number (place_of k order)) (slice_get structs (place_of k order)) e)
    where
      of_data : Follows (plain_number (place_of k order)) (slice_get structs (place_of k order)) j → Plain (structure k) j
      of_data f = record { number = k; is = refl; there = plain_place f.value.varchar (place_of k order) f.then' }

  -- ---- ways through structs

  record LeadsTo (k : ℕ) (way : Way) : Type 0 where
    type : TyData
    is : Leads w order structs (structure k) way.0 type
    same : way.1 ≡ renumbered order type

  abbrev AllLead : ℕ → List Way → Type 0
  AllLead k [] = Unit {0}
  AllLead k (way ∷ ways) = LeadsTo k way × AllLead k ways

  all_lead_append : (k : ℕ) (xs ys : List Way) → AllLead k xs → AllLead k ys → AllLead k (xs ++ ys)
  all_lead_append k [] ys h g = g
  all_lead_append k (x ∷ xs) ys h g = (h.0, all_lead_append k xs ys h.1 g)

  -- one step before ways
  all_lead_on : {k j offset : ℕ} {name : Text} → HasMember w order structs k name (structure j) offset → (ws : List Way) → AllLead j ws
      → AllLead k (map (with_step (place_of k order, name)) ws)
  all_lead_on m [] h = tt
  all_lead_on m (way ∷ ws) h = (record { type = h.0.type; is = leads_on m h.0.is; same = h.0.same }, all_lead_on m ws h.1)

  -- those of structs that lie further in
  abbrev Inside : (ℕ → Option (List Way)) → Type 0
  Inside inside = (j : ℕ) → IsListed w j → (ws : List Way) → inside (place_of j order) ≡ Some ws → AllLead j ws

  module _ (k : ℕ) (h : IsListed w k) (inside : ℕ → Option (List Way)) (deeper : Inside inside) where
    member_leads : (name : Text) (t : TyData) → Has w z r k h name t → (ws : List Way)
        → member_ways structs inside (place_of k order) (name, renumbered order t) ≡ Some ws → AllLead k ws
    member_leads name t m ws e = by_element (is_element structs (renumbered order t)) e
      where
        step : ℕ × Text
        step = (place_of k order, name)

        of_plain : {ways : List Way} {j : ℕ} → Plain t j → inside j ≡ Some ways → map (with_step step) ways ≡ ws → AllLead k ws
        of_plain {ways} p is gives = subst (AllLead k) gives
            (all_lead_on (subst (λ u. HasMember w order structs k name u m.offset) p.is m.is) ways
            (deeper p.number (subst (AreListed w) p.is m.are_listed) ways ((λ i. inside (p.there i)) ∙ is)))

        of_ways : Mapped (map (with_step step)) (option_and_then inside (plain_struct structs (renumbered order t))) ws → AllLead k ws
        of_ways v = of_struct (follows inside (plain_struct structs (renumbered order t)) v.is)
          where
            of_struct : Follows inside (plain_struct structs (renumbered order t)) v.value → AllLead k ws
            of_struct f = of_plain (plain_is t f.is) f.then' v.gives

        by_element : (b : Bool) → elim b [
          | true ↦ Some ((step ∷ [], renumbered order t) ∷ [])
          | false ↦ option_map (map (with_step step)) (option_and_then inside (plain_struct structs (renumbered order t)))
        ] ≡ Some ws → AllLead k ws
        by_element true e = subst (AllLead k) (some_is e) (record { type = t; is = leads_on m.is leads_here; same = refl }, tt)
        by_element false e = of_ways (mapped (map (with_step step)) (option_and_then inside (plain_struct structs (renumbered order t))) e)

    -- the members of a struct, one behind the other
    members_lead : (a : Place w z r k h) (t : Typed a.here.members) (ds : List MemberData) → AreNamed (known_members t.types) (known_members ds) → (ws : List Way)
        → members_ways structs inside (place_of k order) (struct_members order (known_members ds)) ≡ Some ws → AllLead k ws
    members_lead a t [] named ws e = subst (AllLead k) (some_is e) tt
    members_lead a t (d ∷ ds) named ws e = of_both (λ ws e. members_lead a t ds named.1 ws e)
        (joined (member_ways structs inside (place_of k order) (d.0, renumbered order d.1))
        (members_ways structs inside (place_of k order) (struct_members order (known_members ds))) e)
      where
        of_both : ((ws : List Way) → members_ways structs inside (place_of k order) (struct_members order (known_members ds)) ≡ Some ws → AllLead k ws)
            → Joined (member_ways structs inside (place_of k order) (d.0, renumbered order d.1))
            (members_ways structs inside (place_of k order) (struct_members order (known_members ds))) ws → AllLead k ws
        of_both more v = subst (AllLead k) v.are (all_lead_append k v.first v.second
            (member_leads d.0 d.1 (has_member w z r k h a t d.0 d.1 named.0) v.first v.is_first) (more v.second v.is_second))

    struct_leads : (a : Place w z r k h) (t : Typed a.here.members) (ws : List Way)
        → option_and_then (λ d. members_ways structs inside (place_of k order) d.members) (slice_get structs (place_of k order)) ≡ Some ws → AllLead k ws
    struct_leads a t ws e = members_lead a t t.types (subst (λ ms. AreNamed ms ms) t.same a.here.named) ws
        (sym ((λ j. option_and_then (λ d. members_ways structs inside (place_of k order) d.members) (in_table w z r k h a t j))
        ∙ (λ j. members_ways structs inside (place_of k order) (table_members w z r k h a t j))) ∙ e)

    all_lead : (ws : List Way)
        → option_and_then (λ d. members_ways structs inside (place_of k order) d.members) (slice_get structs (place_of k order)) ≡ Some ws → AllLead k ws
    all_lead ws e = at_place (place w z r k h)
      where
        at_place : Place w z r k h → AllLead k ws
        at_place a = struct_leads a (typed w z r k h a) ws e

  ways_lead : (depth : ℕ) (k : ℕ) → IsListed w k → (ws : List Way) → ways_within depth structs (place_of k order) ≡ Some ws → AllLead k ws
  ways_lead zero k h ws e = none_not e
  ways_lead (suc depth) k h ws e = all_lead k h (ways_within depth structs) (λ j g ws e. ways_lead depth j g ws e) ws e

  -- ---- leaves

  own_lies : (t : TyData) (u : TyData) (n : ℕ) → AllLie w z t (own_leaf (renumbered order t) u n ∷ [])
  own_lies t u n = (record { type = t; is = in_itself leads_here }, tt)

  struct_lies : (k : ℕ) (ws : List Way) → AllLead k ws → AllLie w z (structure k) (map leaf_of_struct ws)
  struct_lies k [] h = tt
  struct_lies k (way ∷ ws) h = (record { type = h.0.type; is = lies h.0 }, struct_lies k ws h.1)
    where
      lies : (l : LeadsTo k way) → LiesIn w order structs (structure k) l.type (leaf_of_struct way)
      lies l = subst (λ x. LiesIn w order structs (structure k) l.type (record {
        in_first = false;
        path = way.0;
        whole = x;
        element = way.1;
        count = 1;
        apart = way.1;
      })) (sym l.same) (in_itself l.is)

  structs_lie : (k n : ℕ) → HasElements w order structs (structure k) (structure (place_of k order)) → (ws : List Way) → AllLead k ws
      → AllLie w z (array (structure k) n) (map (leaf_of_structs (place_of k order) n) ws)
  structs_lie k n first [] h = tt
  structs_lie k n first (way ∷ ws) h = (record { type = h.0.type; is = lies h.0 }, structs_lie k n first ws h.1)
    where
      lies : (l : LeadsTo k way) → LiesIn w order structs (array (structure k) n) l.type (leaf_of_structs (place_of k order) n way)
      lies l = subst (λ x. LiesIn w order structs (array (structure k) n) l.type (record {
        in_first = true;
        path = way.0;
        whole = x;
        element = way.1;
        count = n;
        apart = structure (place_of k order);
      })) (sym l.same) (in_first_of first l.is)

  has_elements : (k : ℕ) → IsListed w k → HasElements w order structs (structure k) (structure (place_of k order))
  has_elements k h = record {
    complete = (λ j. is_listed (option_map (λ s. s.members) (h.is j))) ∙ (λ j. is_listed (Some (h.are j)));
    size = sym (size_same w z r (structure k) h);
  }

  -- a host that is a struct, and one that is an array of structs
  of_struct : (t : TyData) → AreListed w t → {j : ℕ} → Plain t j → (ls : List LeafData) → option_map (map leaf_of_struct) (ways structs j) ≡ Some ls → AllLie w z t ls
  of_struct t h {j} p ls e = of_ways (mapped (map leaf_of_struct) (ways structs j) e)
    where
      of_ways : Mapped (map leaf_of_struct) (ways structs j) ls → AllLie w z t ls
      of_ways v = subst (AllLie w z t) v.gives (subst (λ u. AllLie w z u (map leaf_of_struct v.value)) (sym p.is)
          (struct_lies p.number v.value (ways_lead (length structs) p.number (subst (AreListed w) p.is h) v.value ((λ i. ways structs (p.there i)) ∙ v.is))))

  of_structs : (t : TyData) (n : ℕ) → AreListed w t → {j : ℕ} → Plain t j → (ls : List LeafData)
      → option_map (map (leaf_of_structs j n)) (ways structs j) ≡ Some ls → AllLie w z (array t n) ls
  of_structs t n h {j} p ls e = of_ways (mapped (map (leaf_of_structs j n)) (ways structs j) e)
    where
      of_ways : Mapped (map (leaf_of_structs j n)) (ways structs j) ls → AllLie w z (array t n) ls
      of_ways v = subst (AllLie w z (array t n)) ((λ i. map (leaf_of_structs (p.there i) n) v.value) ∙ v.gives)
          (subst (λ u. AllLie w z (array u n) (map (leaf_of_structs (place_of p.number order) n) v.value)) (sym p.is)
          (structs_lie p.number n (has_elements p.number (subst (AreListed w) p.is h)) v.value
          (ways_lead (length structs) p.number (subst (AreListed w) p.is h) v.value ((λ i. ways structs (p.there i)) ∙ v.is))))

  abbrev Leaves : TyData → List LeafData → Option ShapeData → Type 0
  Leaves t ls shape = option_and_then (leaves_by structs (renumbered order t)) shape ≡ Some ls

  array_lies : (t : TyData) (n : ℕ) → AreListed w t → (ls : List LeafData) → Leaves (array t n) ls (array_shape structs (renumbered order t) n) → AllLie w z (array t n) ls
  array_lies t n h ls e = by_element (is_element structs (renumbered order t)) e
    where
      by_pointer : (b : Bool) → Leaves (array t n) ls (elim b [ true ↦ None | false ↦ Some (elements (renumbered order t) n) ]) → AllLie w z (array t n) ls
      by_pointer true e = none_not e
      by_pointer false e = subst (AllLie w z (array t n)) (some_is e) (own_lies (array t n) (renumbered order t) n)

      many : (o : Option ℕ) → plain_struct structs (renumbered order t) ≡ o → Leaves (array t n) ls (option_map (λ k. many_structs k n) o) → AllLie w z (array t n) ls
      many None is e = none_not e
      many (Some j) is e = of_structs t n h (plain_is t is) ls e

      by_element : (b : Bool) → Leaves (array t n) ls (elim b [
        | true ↦ elim (is_pointer (renumbered order t)) [ true ↦ None | false ↦ Some (elements (renumbered order t) n) ]
        | false ↦ option_map (λ k. many_structs k n) (plain_struct structs (renumbered order t))
      ]) → AllLie w z (array t n) ls
      by_element true e = by_pointer (is_pointer (renumbered order t)) e
      by_element false e = many (plain_struct structs (renumbered order t)) refl e

  other_lies : (t : TyData) → AreListed w t → (ls : List LeafData) → Leaves t ls (other_shape structs (renumbered order t)) → AllLie w z t ls
  other_lies void h ls e = none_not e
  other_lies (arithmetic a) h ls e = none_not e
  other_lies (pointer t) h ls e = none_not e
  other_lies (array t n) h ls e = array_lies t n h ls e
  other_lies (structure k) h ls e = one (plain_struct structs (renumbered order (structure k))) refl e
    where
      one : (o : Option ℕ) → plain_struct structs (renumbered order (structure k)) ≡ o → Leaves (structure k) ls (option_map one_struct o) → AllLie w z (structure k) ls
      one None is e = none_not e
      one (Some j) is e = of_struct (structure k) h (plain_is (structure k) is) ls e

  pub leaves_lie : (t : TyData) → AreListed w t → (ls : List LeafData) → leaves structs (renumbered order t) ≡ Some ls → AllLie w z t ls
  leaves_lie t h ls e = by_element (is_element structs (renumbered order t)) e
    where
      by_element : (b : Bool) → Leaves t ls (elim b [ true ↦ Some one_element | false ↦ other_shape structs (renumbered order t) ]) → AllLie w z t ls
      by_element true e = subst (AllLie w z t) (some_is e) (own_lies t (renumbered order t) 1)
      by_element false e = other_lies t h ls e
