-- What is known of structs is what the tables of the whole source tell.
use Rattle.std.proofs.Common.{◌≡◌, ◌∙◌, ℕ, zero, suc, Bool, true, false, List, [], ◌∷◌, ◌++◌, map, length, take, Option, Some, None, refl, sym, subst, eqb-true, ◌==◌, append_assoc, append-nil, slice_get, option_map}
use Rattle.std.specs.Prelude.{option_and_then}
use Rattle.ec_ctypes.specs.declared.types.sizes.Shape.{Shape}
use Rattle.ec_ctypes.specs.trees.Types.{TyData, void, arithmetic, pointer, array, structure, MemberData, StructData}
use Rattle.ec_ctypes.specs.Layout.{shape_among, repeated, struct_shape, shapes_behind, shapes_of, shape_of, member_of, member_behind, no_members}
use Rattle.ec_language.specs.Letters.{Text}
use Rattle.ec_typing_defs.specs.Worlds.{listed, StructInfo, World, shapes_in, shape_in, members_of}
use Rattle.ec_typing_defs.specs.Expressions.{Members}
use Rattle.ec_typing_defs.specs.Programs.{known_members}
use Rattle.ec_typing_defs.specs.Answers.{unclosed, struct_order, place_of, renumbered, struct_members, listed_members, struct_data, structs_of}
use Rattle.ec_sim_world_laws.specs.place.Structs.{IsListed, EachStruct, EachStructIn, AreListed, IsAmong, EachMember, IsClosed, AreClosed, ClosedAreListed, Stays, IsWithin}
use Rattle.ec_sim_world_laws.proofs.place_lemmas.Lists.{false_not, get_map, get_front, map_front, take_front, among_by, place_by, placed}
use Rattle.ec_sim_world_laws.proofs.place_lemmas.Shapes.{Typed, typed_by, made_of, Agree, struct_agrees, member_agrees}

-- ---- what holds of each struct in a type

pub each_struct : {P Q : ℕ → Type 0} → ((k : ℕ) → P k → Q k) → (t : TyData) → EachStruct P t → EachStruct Q t
each_struct f void h = h
each_struct f (arithmetic a) h = h
each_struct f (pointer t) h = h
each_struct f (array t n) h = each_struct f t h
each_struct f (structure k) h = f k h

pub each_member : {P Q : ℕ → Type 0} → ((k : ℕ) → P k → Q k) → (ms : Members) → EachMember P ms → EachMember Q ms
each_member f [] h = h
each_member {P} {Q} f (m ∷ ms) h = (one m.1 h.0, each_member f ms h.1)
  where
    one : (t : Option TyData) → EachStructIn P t → EachStructIn Q t
    one None h = h
    one (Some t) h = each_struct f t h

-- ---- structs that are closed one behind the other

-- where a struct is among these
pub record At (z : World) (before ks : List ℕ) (k : ℕ) : Type 0 where
  pub front : List ℕ
  pub rest : List ℕ
  pub is : ks ≡ front ++ k ∷ rest
  pub fronts : AreClosed z before front
  pub here : IsClosed z (before ++ front) k
  pub place : (ys : List ℕ) → place_of k (ks ++ ys) ≡ length front

pub found_at : (z : World) (before ks : List ℕ) → AreClosed z before ks → (k : ℕ) → IsAmong ks k → At z before ks k
found_at z before [] h k e = false_not e
found_at z before (x ∷ ks) h k e = by_test (x == k) refl e (λ e. found_at z (before ++ x ∷ []) ks h.1 k e)
  where
    further : (x == k) ≡ false → At z (before ++ x ∷ []) ks k → At z before (x ∷ ks) k
    further is a = record {
      front = x ∷ a.front;
      rest = a.rest;
      is = λ j. x ∷ a.is j;
      fronts = (h.0, a.fronts);
      here = subst (λ bs. IsClosed z bs k) (append_assoc before (x ∷ []) a.front) a.here;
      place = λ ys. (λ j. place_by (is j) k (ks ++ ys)) ∙ (λ j. suc (a.place ys j));
    }

    by_test : (b : Bool) → (x == k) ≡ b → among_by b k ks ≡ true → (IsAmong ks k → At z (before ++ x ∷ []) ks k) → At z before (x ∷ ks) k
    by_test true is e more = record {
      front = [];
      rest = ks;
      is = λ j. eqb-true x k is j ∷ ks;
      fronts = tt;
      here = subst (λ bs. IsClosed z bs k) (sym (append-nil before)) (subst (λ y. IsClosed z before y) (eqb-true x k is) h.0);
      place = λ ys j. place_by (is j) k (ks ++ ys);
    }
    by_test false is e more = further is (more e)

-- what is among the first of these is among all
pub among_front : (xs ys : List ℕ) (k : ℕ) → IsAmong xs k → IsAmong (xs ++ ys) k
among_front [] ys k e = false_not e
among_front (x ∷ xs) ys k e = by_test (x == k) e (λ e. among_front xs ys k e)
  where
    by_test : (b : Bool) → among_by b k xs ≡ true → (IsAmong xs k → IsAmong (xs ++ ys) k) → among_by b k (xs ++ ys) ≡ true
    by_test true e more = e
    by_test false e more = more e

-- a struct that is closed is listed
pub closed_listed : (z : World) → ClosedAreListed z → (k : ℕ) → IsAmong z.closed k → IsListed z k
closed_listed z h k e = listed_at (found_at z [] z.closed h.closed k e)
  where
    listed_at : At z [] z.closed k → IsListed z k
    listed_at a = record { info = a.here.info; is = a.here.is; members = a.here.members; are = a.here.are }

module _ (z : World) where
  abbrev pub shape_at : ℕ → Option Shape
  shape_at k = option_and_then (λ s. s.shape) (slice_get z.structs k)

  abbrev pub data_of : ℕ → StructData
  data_of k = struct_data (struct_order z) (slice_get z.structs k)

  abbrev pub others : List ℕ
  others = unclosed z.closed 0 z.structs

  -- the shape of a struct where it is known
  pub shape_here : (k : ℕ) → shape_among (shapes_in z) (structure k) ≡ shape_at k
  shape_here k = (λ j. option_and_then (λ shape. shape) (get_map (λ s. s.shape) z.structs k j)) ∙ by_info (slice_get z.structs k)
    where
      by_info : (o : Option StructInfo) → option_and_then (λ shape. shape) (option_map (λ s. s.shape) o) ≡ option_and_then (λ s. s.shape) o
      by_info None = refl
      by_info (Some s) = refl

  -- in the tables a closed struct has its place
  pub in_place : (k : ℕ) → IsAmong z.closed k → slice_get (structs_of z) (place_of k (struct_order z)) ≡ Some (data_of k)
  in_place k e =
      get_map data_of (struct_order z) (place_of k (struct_order z))
      ∙ (λ j. option_map data_of (get_front z.closed others (place_of k (struct_order z)) (placed z.closed others k e) j))

  -- these shapes are those of such structs
  abbrev Hold : List (Option Shape) → (ℕ → Type 0) → Type 0
  Hold shapes P = (k : ℕ) → P k → slice_get shapes (place_of k (struct_order z)) ≡ Some (shape_at k)

  type_shape : (shapes : List (Option Shape)) (P : ℕ → Type 0) → Hold shapes P → (t : TyData) → EachStruct P t
      → shape_among shapes (renumbered (struct_order z) t) ≡ shape_among (shapes_in z) t
  type_shape shapes P hold void h = refl
  type_shape shapes P hold (arithmetic a) h = refl
  type_shape shapes P hold (pointer t) h = refl
  type_shape shapes P hold (array t zero) h = refl
  type_shape shapes P hold (array t (suc n)) h = λ j. option_map (repeated (suc n)) (type_shape shapes P hold t h j)
  type_shape shapes P hold (structure k) h = (λ j. option_and_then (λ shape. shape) (hold k h j)) ∙ sym (shape_here k)

  -- those of structs that are the first in the order
  front_hold : (before more : List ℕ) → struct_order z ≡ before ++ more → Hold (map shape_at before) (IsAmong before)
  front_hold before more is k e =
      (λ j. slice_get (map shape_at before) (place_of k (is j)))
      ∙ get_map shape_at before (place_of k (before ++ more))
      ∙ (λ j. option_map shape_at (placed before more k e j))

  known_types : (ds : List MemberData) → struct_members (struct_order z) (known_members ds) ≡ made_of [] [] (renumbered (struct_order z)) ds
  known_types [] = refl
  known_types (d ∷ ds) = λ j. (d.0, renumbered (struct_order z) d.1) ∷ known_types ds j

  agree : (shapes : List (Option Shape)) (P : ℕ → Type 0) → Hold shapes P → (ds : List MemberData) → EachMember P (known_members ds)
      → Agree shapes (shapes_in z) (renumbered (struct_order z)) ds
  agree shapes P hold [] h = tt
  agree shapes P hold (d ∷ ds) h = (type_shape shapes P hold d.1 h.0, agree shapes P hold ds h.1)

  -- the members of a closed struct, in the tables
  pub closed_members : (before : List ℕ) (k : ℕ) (h : IsClosed z before k) → (data_of k).members ≡ struct_members (struct_order z) h.members
  closed_members before k h = (λ j. (struct_data (struct_order z) (h.is j)).members) ∙ (λ j. listed_members (struct_order z) (h.are j))

  -- all have a type
  pub closed_typed : (before : List ℕ) (k : ℕ) (h : IsClosed z before k) → Typed h.members
  closed_typed before k h = typed_by (struct_shape (shapes_in z)) h.members h.is_shape

  closed_shape : (before more : List ℕ) → struct_order z ≡ before ++ more → (k : ℕ) → IsClosed z before k
      → struct_shape (map shape_at before) (data_of k).members ≡ shape_at k
  closed_shape before more is k h = of_typed (closed_typed before k h)
    where
      shapes : List (Option Shape)
      shapes = map shape_at before

      of_typed : Typed h.members → struct_shape shapes (data_of k).members ≡ shape_at k
      of_typed t =
          (λ j. struct_shape shapes (closed_members before k h j))
          ∙ (λ j. struct_shape shapes (struct_members (struct_order z) (t.same j)))
          ∙ (λ j. struct_shape shapes (known_types t.types j))
          ∙ struct_agrees shapes (shapes_in z) (renumbered (struct_order z)) t.types
          (agree shapes (IsAmong before) (front_hold before more is) t.types (subst (EachMember (IsAmong before)) t.same h.inside))
          ∙ sym (λ j. option_and_then (struct_shape (shapes_in z)) (t.is j))
          ∙ h.is_shape
          ∙ sym h.has_shape
          ∙ sym (λ j. option_and_then (λ s. s.shape) (h.is j))

  -- the shapes of closed structs, one behind the other
  walked : (before ks more : List ℕ) → struct_order z ≡ before ++ (ks ++ more) → AreClosed z before ks
      → shapes_behind (map shape_at before) (map data_of ks) ≡ map shape_at (before ++ ks)
  walked before [] more is h = λ j. map shape_at (sym (append-nil before) j)
  walked before (k ∷ ks) more is h =
      (λ j. shapes_behind (one_more j) (map data_of ks))
      ∙ walked (before ++ k ∷ []) ks more (is ∙ sym (append_assoc before (k ∷ []) (ks ++ more))) h.1
      ∙ (λ j. map shape_at (append_assoc before (k ∷ []) ks j))
    where
      one_more : map shape_at before ++ struct_shape (map shape_at before) (data_of k).members ∷ [] ≡ map shape_at (before ++ k ∷ [])
      one_more =
          (λ j. map shape_at before ++ closed_shape before (k ∷ ks ++ more) is k h.0 j ∷ [])
          ∙ sym (map_front shape_at before (k ∷ []))

  split : (shapes : List (Option Shape)) (xs ys : List StructData) → shapes_behind shapes (xs ++ ys) ≡ shapes_behind (shapes_behind shapes xs) ys
  split shapes [] ys = refl
  split shapes (x ∷ xs) ys = split (shapes ++ struct_shape shapes x.members ∷ []) xs ys

  kept : (ds : List StructData) (shapes : List (Option Shape)) (i : ℕ) {s : Option Shape} → slice_get shapes i ≡ Some s → slice_get (shapes_behind shapes ds) i ≡ Some s
  kept [] shapes i e = e
  kept (d ∷ ds) shapes i e = kept ds (shapes ++ struct_shape shapes d.members ∷ []) i (get_front shapes (struct_shape shapes d.members ∷ []) i e)

  module _ (h : ClosedAreListed z) where
    whole : shapes_of (structs_of z) ≡ shapes_behind (map shape_at z.closed) (map data_of others)
    whole =
        (λ j. shapes_behind [] (map_front data_of z.closed others j))
        ∙ split [] (map data_of z.closed) (map data_of others)
        ∙ (λ j. shapes_behind (walked [] z.closed others refl h.closed j) (map data_of others))

    whole_hold : Hold (shapes_of (structs_of z)) (IsAmong z.closed)
    whole_hold k e =
        (λ j. slice_get (whole j) (place_of k (struct_order z)))
        ∙ kept (map data_of others) (map shape_at z.closed) (place_of k (struct_order z)) (front_hold z.closed others refl k e)

    -- ---- types and members over the tables

    pub table_shape : (t : TyData) → EachStruct (IsAmong z.closed) t → shape_of (structs_of z) (renumbered (struct_order z) t) ≡ shape_in z t
    table_shape t e = type_shape (shapes_of (structs_of z)) (IsAmong z.closed) whole_hold t e

    pub table_member : (k : ℕ) → IsAmong z.closed k → (a : At z [] z.closed k) (t : Typed a.here.members) (name : Text)
        → member_of (structs_of z) (place_of k (struct_order z)) name
        ≡ option_map (λ m. (m.0, renumbered (struct_order z) m.1)) (member_behind (shapes_in z) no_members name t.types)
    table_member k e a t name =
        (λ j. option_and_then (λ d. member_behind (shapes_of (take (place_of k (struct_order z)) (structs_of z))) no_members name d.members) (in_place k e j))
        ∙ (λ j. member_behind (shapes_of (before j)) no_members name (data_of k).members)
        ∙ (λ j. member_behind (walked [] a.front (k ∷ a.rest ++ others) order_is a.fronts j) no_members name (closed_members a.front k a.here j))
        ∙ (λ j. member_behind shapes no_members name (struct_members (struct_order z) (t.same j)))
        ∙ (λ j. member_behind shapes no_members name (known_types t.types j))
        ∙ member_agrees shapes (shapes_in z) (renumbered (struct_order z)) no_members name t.types
        (agree shapes (IsAmong a.front) (front_hold a.front (k ∷ a.rest ++ others) order_is) t.types (subst (EachMember (IsAmong a.front)) t.same a.here.inside))
      where
        shapes : List (Option Shape)
        shapes = map shape_at a.front

        order_is : struct_order z ≡ a.front ++ (k ∷ a.rest ++ others)
        order_is = (λ j. a.is j ++ others) ∙ append_assoc a.front (k ∷ a.rest) others

        before : take (place_of k (struct_order z)) (structs_of z) ≡ map data_of a.front
        before =
            (λ j. take (a.place others j) (structs_of z))
            ∙ (λ j. take (length a.front) (map data_of (order_is j)))
            ∙ take_front data_of a.front (k ∷ a.rest ++ others)

-- ---- here and behind the whole source

module _ (w z : World) (r : IsWithin w z) where
  pub stay_listed : (k : ℕ) → IsListed w k → IsListed z k
  stay_listed k h = there (r.stay k h)
    where
      there : Stays z k h.info → IsListed z k
      there s = record { info = s.there; is = s.is; members = h.members; are = s.members ∙ h.are }

  pub stay_among : (k : ℕ) → IsListed w k → IsAmong z.closed k
  stay_among k h = r.there.listed k (stay_listed k h)

  pub stay_shape : (t : TyData) → AreListed w t → shape_in z t ≡ shape_in w t
  stay_shape void h = refl
  stay_shape (arithmetic a) h = refl
  stay_shape (pointer t) h = refl
  stay_shape (array t zero) h = refl
  stay_shape (array t (suc n)) h = λ j. option_map (repeated (suc n)) (stay_shape t h j)
  stay_shape (structure k) h = shape_here z k ∙ there (r.stay k h) ∙ sym (shape_here w k)
    where
      there : Stays z k h.info → shape_at z k ≡ shape_at w k
      there s = (λ j. option_and_then (λ s. s.shape) (s.is j)) ∙ s.shape ∙ sym (λ j. option_and_then (λ s. s.shape) (h.is j))

  pub shape_same : (t : TyData) → AreListed w t → shape_of (structs_of z) (renumbered (struct_order z) t) ≡ shape_in w t
  shape_same t h = table_shape z r.there t (each_struct stay_among t h) ∙ stay_shape t h

  -- the members of a struct that is listed here are those behind the whole source
  pub members_stay : (k : ℕ) → IsListed w k → (before : List ℕ) (c : IsClosed z before k) → members_of k w ≡ Some (listed c.members)
  members_stay k h before c = of_stays (r.stay k h)
    where
      of_stays : Stays z k h.info → members_of k w ≡ Some (listed c.members)
      of_stays s =
          (λ j. option_map (λ s. s.members) (h.is j))
          ∙ sym (λ j. Some (s.members j))
          ∙ sym (λ j. option_map (λ s. s.members) (s.is j))
          ∙ (λ j. option_map (λ s. s.members) (c.is j))
          ∙ (λ j. Some (c.are j))
