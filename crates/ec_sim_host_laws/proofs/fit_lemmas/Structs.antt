-- Arrays and structs in the tables: their elements and members fit, and no member is larger than its struct.
use Rattle.std.proofs.Common.{◌≡◌, ◌∙◌, ℕ, zero, suc, ◌+◌, ◌-◌, ◌*◌, ◌%◌, ◌≤◌, true, List, [], ◌∷◌, Option, Some, None, refl, sym, subst, leb-true, slice_get, option_map, arith}
use Rattle.std.specs.Prelude.{option_and_then}
use Rattle.std.specs.Int.{next_multiple_of}
use Rattle.ec_ctypes.specs.declared.types.sizes.Shape.{Shape}
use Rattle.ec_ctypes.specs.trees.Types.{TyData, void, arithmetic, pointer, array, structure, MemberData, StructData}
use Rattle.ec_ctypes.specs.Layout.{shape_among, repeated, with_member, with_members, no_members, struct_shape, shape_of}
use Rattle.ec_typing_defs.specs.Statements.{type_or_void}
use Rattle.ec_typing_defs.specs.Worlds.{listed, World, shapes_in, shape_in, is_within}
use Rattle.ec_typing_defs.specs.Expressions.{Members, typed_members}
use Rattle.ec_typing_defs.specs.Answers.{struct_order, place_of, renumbered, struct_members, listed_members, struct_data, structs_of}
use Rattle.ec_sim_world_laws.specs.place.Structs.{IsListed, EachStructIn, AreListed, EachMember}
use Rattle.ec_sim_world_laws.specs.closing.Closing.{members_at, AreSomeTyped}
use Rattle.ec_sim_world_laws.proofs.closing_lemmas.Lists.{none_not, false_not, some_is, get_map}
use Rattle.ec_sim_host_laws.specs.table.Tables.{is_fitting, IsFittingIn, AreFitting, AreSound}
use Rattle.ec_sim_host_laws.proofs.fit_lemmas.Options.{Follows, follows, Mapped, mapped, first_true, second_true, up_to}
use Rattle.ec_sim_host_laws.proofs.fit_lemmas.Types.{ShapesAreSame, element_or, count_or, number_or, IsArray, IsStructure, Good, Here, in_table, here}

-- ---- arrays

pub record GoodArray (z : World) (u : TyData) (n : ℕ) : Type 0 where
  pub element : Good z u
  pub positive : 1 ≤ n
  pub small : (shape : Shape) → shape_of (structs_of z) u ≡ Some shape → n * shape.size ≤ 16777216

-- ---- members

-- a type within so many bytes
pub record Inner (z : World) (n : ℕ) (t : TyData) : Type 0 where
  pub is_good : Good z t
  pub shape : Shape
  pub is : shape_of (structs_of z) t ≡ Some shape
  pub within : shape.size ≤ n

abbrev pub AllInner : World → ℕ → List MemberData → Type 0
AllInner z n [] = Unit {0}
AllInner z n (m ∷ ms) = Inner z n m.1 × AllInner z n ms

abbrev pub AreMembers : List MemberData → Type 0
AreMembers [] = ⊥
AreMembers (m ∷ ms) = Unit {0}

-- a struct in the tables
pub record Laid (z : World) (j : ℕ) : Type 0 where
  pub there : StructData
  pub is : slice_get (structs_of z) j ≡ Some there
  pub shape : Shape
  pub shape_is : shape_of (structs_of z) (structure j) ≡ Some shape
  pub small : shape.size ≤ 16777216
  pub inner : AllInner z shape.size there.members
  pub are_some : AreMembers there.members

-- ---- no member is larger

module _ (shapes : List (Option Shape)) where
  record Within (n : ℕ) (t : TyData) : Type 0 where
    shape : Shape
    is : shape_among shapes t ≡ Some shape
    within : shape.size ≤ n

  abbrev AllWithin : ℕ → List MemberData → Type 0
  AllWithin n [] = Unit {0}
  AllWithin n (d ∷ ds) = Within n d.1 × AllWithin n ds

  front_below : (a r c n : ℕ) → (a + r) + c ≤ n → a ≤ n
  front_below a r c n h = omega (arith, h)

  last_below : (a c n : ℕ) → a + c ≤ n → c ≤ n
  last_below a c n h = omega (arith, h)

  all_members : (before : Shape) (ds : List MemberData) {all : Shape} → with_members shapes before ds ≡ Some all → (before.size ≤ all.size) × AllWithin all.size ds
  all_members before [] {all} e = (subst (λ (a : Shape). before.size ≤ a.size) (some_is e) (omega arith), tt)
  all_members before (d ∷ ds) {all} e =
      with_first (follows (λ m. with_members shapes (with_member before m) ds) (shape_among shapes d.1) e) (λ m e. all_members (with_member before m) ds e)
    where
      with_first : Follows (λ m. with_members shapes (with_member before m) ds) (shape_among shapes d.1) all
          → ((m : Shape) → with_members shapes (with_member before m) ds ≡ Some all → ((with_member before m).size ≤ all.size) × AllWithin all.size ds)
          → (before.size ≤ all.size) × AllWithin all.size (d ∷ ds)
      with_first f more = joined (more f.value f.then')
        where
          joined : ((with_member before f.value).size ≤ all.size) × AllWithin all.size ds → (before.size ≤ all.size) × AllWithin all.size (d ∷ ds)
          joined h = (
            front_below before.size ((f.value.align - before.size % f.value.align) % f.value.align) f.value.size all.size h.0,
            (
              record {
                shape = f.value;
                is = f.is;
                within = last_below (next_multiple_of before.size f.value.align) f.value.size all.size h.0;
              },
              h.1,
            ),
          )

  wider : (m n : ℕ) → m ≤ n → (ds : List MemberData) → AllWithin m ds → AllWithin n ds
  wider m n p [] h = tt
  wider m n p (d ∷ ds) h = (record { shape = h.0.shape; is = h.0.is; within = up_to h.0.shape.size m n h.0.within p }, wider m n p ds h.1)

  rounded : (a r : ℕ) → a ≤ a + r
  rounded a r = omega arith

  struct_within : (ds : List MemberData) {shape : Shape} → struct_shape shapes ds ≡ Some shape → AllWithin shape.size ds
  struct_within [] e = none_not e
  struct_within (d ∷ ds) {shape} e = of_all (mapped (λ (all : Shape). record { size = next_multiple_of all.size all.align; align = all.align }) (with_members shapes no_members (d ∷ ds)) e)
    where
      of_all : Mapped (λ (all : Shape). record { size = next_multiple_of all.size all.align; align = all.align }) (with_members shapes no_members (d ∷ ds)) shape
          → AllWithin shape.size (d ∷ ds)
      of_all m = subst (λ (a : Shape). AllWithin a.size (d ∷ ds)) m.gives
          (wider m.value.size (next_multiple_of m.value.size m.value.align) (rounded m.value.size ((m.value.align - m.value.size % m.value.align) % m.value.align))
          (d ∷ ds) (all_members no_members (d ∷ ds) m.is).1)

module _ (z : World) (s : AreSound z) (same : ShapesAreSame z) where
  abbrev order : List ℕ
  order = struct_order z

  -- ---- the elements of an array

  small_by : (o : Option Shape) (n : ℕ) (shape : Shape) → o ≡ Some shape → is_within (option_map (repeated (suc n)) o) ≡ true → suc n * shape.size ≤ 16777216
  small_by o n shape is w = leb-true (suc n * shape.size) 16777216 (sym (λ j. is_within (option_map (repeated (suc n)) (is j))) ∙ w)

  pub good_array : (u : TyData) (n : ℕ) → Good z (array u n) → GoodArray z u n
  good_array u n g = go g.type g.is g.fitting g.are_listed
    where
      of_element : (t : TyData) (m : ℕ) → u ≡ renumbered order t → n ≡ suc m → is_fitting z (array t (suc m)) ≡ true → AreListed z t → GoodArray z u n
      of_element t m is count f l = record {
        element = record {
          type = t;
          is = is;
          fitting = second_true (is_within (shape_in z (array t (suc m)))) (is_fitting z t) f;
          are_listed = l;
        };
        positive = subst (λ k. 1 ≤ k) (sym count) (omega arith);
        small = λ shape e. subst (λ k. k * shape.size ≤ 16777216) (sym count)
            (small_by (shape_in z t) m shape (sym (same t l) ∙ sym (λ j. shape_of (structs_of z) (is j)) ∙ e)
            (first_true (is_within (shape_in z (array t (suc m)))) (is_fitting z t) f));
      }

      go : (t : TyData) → array u n ≡ renumbered order t → is_fitting z t ≡ true → AreListed z t → GoodArray z u n
      go void e f l = absurd (subst IsArray e tt)
      go (arithmetic a) e f l = absurd (subst IsArray e tt)
      go (pointer t) e f l = absurd (subst IsArray e tt)
      go (array t zero) e f l = false_not f
      go (array t (suc m)) e f l = of_element t m (λ j. element_or void (e j)) (λ j. count_or 0 (e j)) f l
      go (structure k) e f l = absurd (subst IsArray e tt)

  -- ---- the members of a struct

  inner : (n : ℕ) (ms : Members) (ds : List MemberData) → typed_members ms ≡ Some ds → AllWithin (shapes_in z) n ds → AreFitting z ms → EachMember (IsListed z) ms
      → AllInner z n (struct_members order ms)
  inner n [] ds e w f l = tt
  inner n (m ∷ ms) ds e w f l = by_type m.1 e f.0 l.0 (λ more is w. inner n ms more is w f.1 l.1)
    where
      by_type : (o : Option TyData) → elim o [ None ↦ None | Some t ↦ option_and_then (λ more. Some ((m.0, t) ∷ more)) (typed_members ms) ] ≡ Some ds
          → IsFittingIn z o → EachStructIn (IsListed z) o
          → ((more : List MemberData) → typed_members ms ≡ Some more → AllWithin (shapes_in z) n more → AllInner z n (struct_members order ms))
          → Inner z n (renumbered order (type_or_void o)) × AllInner z n (struct_members order ms)
      by_type None e f l more = none_not e
      by_type (Some t) e f l more = of_rest (follows (λ more. Some ((m.0, t) ∷ more)) (typed_members ms) e)
        where
          of_rest : Follows (λ more. Some ((m.0, t) ∷ more)) (typed_members ms) ds → Inner z n (renumbered order t) × AllInner z n (struct_members order ms)
          of_rest r = with_shapes (subst (AllWithin (shapes_in z) n) (sym (some_is r.then')) w)
            where
              with_shapes : AllWithin (shapes_in z) n ((m.0, t) ∷ r.value) → Inner z n (renumbered order t) × AllInner z n (struct_members order ms)
              with_shapes h = (
                record {
                  is_good = record { type = t; is = refl; fitting = f; are_listed = l };
                  shape = h.0.shape;
                  is = same t l ∙ h.0.is;
                  within = h.0.within;
                },
                more r.value r.is h.1,
              )

  some_members : (ms : Members) → AreSomeTyped ms → AreMembers (struct_members order ms)
  some_members [] h = absurd h
  some_members (m ∷ ms) h = tt

  laid_at : (k : ℕ) → IsListed z k → Laid z (place_of k order)
  laid_at k l = of_here (here z s k l)
    where
      of_here : Here z k → Laid z (place_of k order)
      of_here h = record {
        there = struct_data order (Some h.info);
        is = in_table z s k (s.closed.listed k l) ∙ (λ j. Some (struct_data order (h.is j)));
        shape = h.shape;
        shape_is =
            same (structure k) l
            ∙ (λ j. option_and_then (λ shape. shape) (get_map (λ s. s.shape) z.structs k j))
            ∙ (λ j. option_and_then (λ shape. shape) (option_map (λ s. s.shape) (h.is j)))
            ∙ h.has_shape;
        small = leb-true h.shape.size 16777216 (sym (λ j. is_within (h.has_shape j)) ∙ s.fit.structs k h.info h.is);
        inner = subst (λ ms. AllInner z h.shape.size (listed_members order ms)) (sym h.are) (members (follows (struct_shape (shapes_in z)) (typed_members h.members) h.is_shape));
        are_some = subst (λ ms. AreMembers (listed_members order ms)) (sym h.are) (some_members h.members (s.have_types k h.members at));
      }
        where
          at : members_at z.structs k ≡ Some (listed h.members)
          at = (λ j. option_map (λ s. s.members) (h.is j)) ∙ (λ j. Some (h.are j))

          members : Follows (struct_shape (shapes_in z)) (typed_members h.members) h.shape → AllInner z h.shape.size (struct_members order h.members)
          members f = inner h.shape.size h.members f.value f.is (struct_within (shapes_in z) f.value f.then') (s.fit.members k h.members at) h.inside

  pub laid : (j : ℕ) → Good z (structure j) → Laid z j
  laid j g = go g.type g.is g.are_listed
    where
      go : (t : TyData) → structure j ≡ renumbered order t → AreListed z t → Laid z j
      go void e l = absurd (subst IsStructure e tt)
      go (arithmetic a) e l = absurd (subst IsStructure e tt)
      go (pointer t) e l = absurd (subst IsStructure e tt)
      go (array t n) e l = absurd (subst IsStructure e tt)
      go (structure k) e l = subst (Laid z) (sym (λ i. number_or 0 (e i))) (laid_at k l)
