-- Structs whose members have types, where nothing was wrong so far.
use Rattle.std.proofs.Common.{◌≡◌, ◌∙◌, ◌⊎◌, inl, inr, ℕ, zero, suc, ◌≤◌, Bool, true, false, List, [], ◌∷◌, ◌++◌, length, Option, Some, None, refl, sym, ap, subst, slice_get, slice_set, option_map}
use Rattle.std.specs.Prelude.{option_and_then}
use Rattle.std.specs.Int.{next_multiple_of}
use Rattle.ec_ctypes.specs.declared.types.sizes.Shape.{Shape}
use Rattle.ec_ctypes.specs.trees.Types.{TyData, void, arithmetic, pointer, array, structure, MemberData}
use Rattle.ec_ctypes.specs.Layout.{repeated, shape_among, with_member, with_members, no_members, struct_shape}
use Rattle.ec_typing_defs.specs.Worlds.{MembersData, unlisted, begun, listed, is_listed, StructInfo, World, is_complete}
use Rattle.ec_typing_defs.specs.Expressions.{Members, typed_members, first_types, first_of_members}
use Rattle.ec_sim_world_laws.specs.growth.Growth.{is_unlisted, StructsStay}
use Rattle.ec_sim_world_laws.specs.closing.Closing.{members_at, shapes_at, AreTyped, AreSomeTyped, IsTyped, HasShape, HaveTypes}
use Rattle.ec_sim_world_laws.proofs.closing_lemmas.Lists.{false_not, some_is, get_map, get_behind, get_front, get_last, set_elsewhere, set_here}
use Rattle.ec_sim_world_laws.proofs.closing_lemmas.Orders.{ListedStay}
use Rattle.ec_sim_world_laws.proofs.closing_lemmas.Rules.{There, there}
use Rattle.ec_sim_program_laws.specs.types.Types.{max_nesting}

-- ---- types

-- complete, by these structs
abbrev pub Whole : List StructInfo → TyData → Type 0
Whole ss void = ⊥
Whole ss (arithmetic a) = Unit {0}
Whole ss (pointer t) = Unit {0}
Whole ss (array t zero) = ⊥
Whole ss (array t (suc n)) = Whole ss t
Whole ss (structure k) = is_listed (members_at ss k) ≡ true

-- how many arrays lie in one another
abbrev pub depth : TyData → ℕ
depth void = zero
depth (arithmetic a) = zero
depth (pointer t) = zero
depth (array t n) = suc (depth t)
depth (structure k) = zero

abbrev pub IsFlatType : TyData → Type 0
IsFlatType t = depth t ≤ max_nesting

abbrev pub GoodIn : List StructInfo → Option TyData → Type 0
GoodIn ss None = ⊥
GoodIn ss (Some t) = Whole ss t × IsFlatType t

abbrev pub AllGood : List StructInfo → Members → Type 0
AllGood ss [] = Unit {0}
AllGood ss (m ∷ ms) = GoodIn ss m.1 × AllGood ss ms

abbrev pub SomeGood : List StructInfo → Members → Type 0
SomeGood ss [] = ⊥
SomeGood ss (m ∷ ms) = GoodIn ss m.1 × AllGood ss ms

-- a struct with these members
pub record GoodStruct (ss : List StructInfo) (info : StructInfo) (ms : Members) : Type 0 where
  pub good : SomeGood ss ms
  pub first : info.first ≡ first_of_members ss ms
  pub shape : HasShape info

abbrev pub GoodStructs : List StructInfo → Type 0
GoodStructs ss = (k : ℕ) (info : StructInfo) (ms : Members) → slice_get ss k ≡ Some info → info.members ≡ listed ms → GoodStruct ss info ms

pub some_all : (ss : List StructInfo) (ms : Members) → SomeGood ss ms → AllGood ss ms
some_all ss [] h = absurd h
some_all ss (m ∷ ms) h = h

pub whole_complete : (w : World) (t : TyData) → is_complete w t ≡ true → Whole w.structs t
whole_complete w void e = false_not e
whole_complete w (arithmetic a) e = tt
whole_complete w (pointer t) e = tt
whole_complete w (array t zero) e = false_not e
whole_complete w (array t (suc n)) e = whole_complete w t e
whole_complete w (structure k) e = e

-- ---- structs that are listed

pub record Listed (ss : List StructInfo) (k : ℕ) : Type 0 where
  pub info : StructInfo
  pub is : slice_get ss k ≡ Some info
  pub ms : Members
  pub are : info.members ≡ listed ms

pub listed_at : (ss : List StructInfo) (k : ℕ) → is_listed (members_at ss k) ≡ true → Listed ss k
listed_at ss k e = go (slice_get ss k) refl e
  where
    by_members : (info : StructInfo) (m : MembersData) → slice_get ss k ≡ Some info → info.members ≡ m → is_listed (Some m) ≡ true → Listed ss k
    by_members info unlisted is are e = false_not e
    by_members info begun is are e = false_not e
    by_members info (listed ms) is are e = record { info = info; is = is; ms = ms; are = are }

    go : (o : Option StructInfo) → slice_get ss k ≡ o → is_listed (option_map (λ s. s.members) o) ≡ true → Listed ss k
    go None is e = false_not e
    go (Some info) is e = by_members info info.members is refl e

pub listed_there : (ss : List StructInfo) (k : ℕ) (info : StructInfo) → slice_get ss k ≡ Some info → is_listed (Some info.members) ≡ true → is_listed (members_at ss k) ≡ true
listed_there ss k info is e = ap (λ o. is_listed (option_map (λ s. s.members) o)) is ∙ e

-- what is listed is not unlisted
pub listed_not : (m : MembersData) → is_listed (Some m) ≡ true → is_unlisted m ≡ false
listed_not unlisted e = false_not e
listed_not begun e = false_not e
listed_not (listed ms) e = refl

-- those that are listed stay
pub they_stay : (ss ts : List StructInfo) → StructsStay ss ts → ListedStay ss ts
they_stay ss ts stay k e = go (listed_at ss k e)
  where
    go : Listed ss k → slice_get ts k ≡ slice_get ss k
    go l = stay k l.info l.is (ap is_unlisted l.are) ∙ sym l.is

pub have_types : (w : World) → GoodStructs w.structs → HaveTypes w
have_types w good k ms e = go (there w.structs k (listed ms) e)
  where
    one : (o : Option TyData) → GoodIn w.structs o → IsTyped o
    one None h = absurd h
    one (Some t) h = tt

    all : (ms : Members) → AllGood w.structs ms → AreTyped ms
    all [] h = tt
    all (m ∷ ms) h = (one m.1 h.0, all ms h.1)

    some : (ms : Members) → SomeGood w.structs ms → AreSomeTyped ms
    some [] h = absurd h
    some (m ∷ ms) h = (one m.1 h.0, all ms h.1)

    go : There w.structs k (listed ms) → AreSomeTyped ms
    go t = some ms (good k t.info ms t.is (some_is t.are)).good

-- ---- what begins where a type begins

abbrev pub first_in : Option StructInfo → List TyData
first_in None = []
first_in (Some s) = s.first

abbrev behind : List TyData → List TyData
behind [] = []
behind (t ∷ ts) = ts

pub first_is : (ss : List StructInfo) (k : ℕ) → first_types ss (structure k) ≡ structure k ∷ first_in (slice_get ss k)
first_is [] k = refl
first_is (s ∷ ss) zero = refl
first_is (s ∷ ss) (suc k) = ap (λ ts. structure (suc k) ∷ behind ts) (first_is ss k)

-- of the first member
abbrev pub first_by : List StructInfo → Option TyData → List TyData
first_by ss o = elim o [ None ↦ [] | Some t ↦ first_types ss t ]

-- ---- structs that stay as they are

module _ (ss ts : List StructInfo) (stay : ListedStay ss ts) where
  pub whole_stays : (t : TyData) → Whole ss t → Whole ts t
  whole_stays void h = absurd h
  whole_stays (arithmetic a) h = tt
  whole_stays (pointer t) h = tt
  whole_stays (array t zero) h = absurd h
  whole_stays (array t (suc n)) h = whole_stays t h
  whole_stays (structure k) h = ap (λ o. is_listed (option_map (λ s. s.members) o)) (stay k h) ∙ h

  pub good_in_stays : (o : Option TyData) → GoodIn ss o → GoodIn ts o
  good_in_stays None h = absurd h
  good_in_stays (Some t) h = (whole_stays t h.0, h.1)

  pub all_stay : (ms : Members) → AllGood ss ms → AllGood ts ms
  all_stay [] h = tt
  all_stay (m ∷ ms) h = (good_in_stays m.1 h.0, all_stay ms h.1)

  pub some_stay : (ms : Members) → SomeGood ss ms → SomeGood ts ms
  some_stay [] h = absurd h
  some_stay (m ∷ ms) h = (good_in_stays m.1 h.0, all_stay ms h.1)

  first_stays : (t : TyData) → Whole ss t → first_types ts t ≡ first_types ss t
  first_stays void h = absurd h
  first_stays (arithmetic a) h = refl
  first_stays (pointer t) h = refl
  first_stays (array t zero) h = absurd h
  first_stays (array t (suc n)) h = ap (λ fs. array t (suc n) ∷ fs) (first_stays t h)
  first_stays (structure k) h = first_is ts k ∙ ap (λ o. structure k ∷ first_in o) (stay k h) ∙ sym (first_is ss k)

  first_in_stays : (o : Option TyData) → GoodIn ss o → first_by ts o ≡ first_by ss o
  first_in_stays None h = absurd h
  first_in_stays (Some t) h = first_stays t h.0

  firsts_stay : (ms : Members) → SomeGood ss ms → first_of_members ts ms ≡ first_of_members ss ms
  firsts_stay [] h = refl
  firsts_stay (m ∷ ms) h = first_in_stays m.1 h.0

  pub struct_stays : (info : StructInfo) (ms : Members) → GoodStruct ss info ms → GoodStruct ts info ms
  struct_stays info ms h = record { good = some_stay ms h.good; first = h.first ∙ sym (firsts_stay ms h.good); shape = h.shape }

  -- each struct is as it was, or has members with types
  pub structs_stay : GoodStructs ss
      → ((k : ℕ) (info : StructInfo) (ms : Members) → slice_get ts k ≡ Some info → info.members ≡ listed ms → (slice_get ss k ≡ Some info) ⊎ GoodStruct ts info ms) → GoodStructs ts
  structs_stay good each k info ms is are = go (each k info ms is are)
    where
      go : (slice_get ss k ≡ Some info) ⊎ GoodStruct ts info ms → GoodStruct ts info ms
      go (inl same) = struct_stays info ms (good k info ms same are)
      go (inr here) = here

-- ---- one struct more, or one that is set

abbrev pub IsGoodIf : List StructInfo → StructInfo → Type 0
IsGoodIf ts info = (ms : Members) → info.members ≡ listed ms → GoodStruct ts info ms

pub stay_in_front : (ss more : List StructInfo) → ListedStay ss (ss ++ more)
stay_in_front ss more k e = go (listed_at ss k e)
  where
    go : Listed ss k → slice_get (ss ++ more) k ≡ slice_get ss k
    go l = get_front ss more k l.is ∙ sym l.is

pub one_more : (ss : List StructInfo) (info : StructInfo) → IsGoodIf (ss ++ info ∷ []) info → GoodStructs ss → GoodStructs (ss ++ info ∷ [])
one_more ss info new good = structs_stay ss (ss ++ info ∷ []) (stay_in_front ss (info ∷ [])) good (λ k i ms is are. go k i ms is are (get_behind ss info k))
  where
    here : (i : StructInfo) (ms : Members) → info ≡ i → i.members ≡ listed ms → GoodStruct (ss ++ info ∷ []) i ms
    here i ms same are = subst (λ x. GoodStruct (ss ++ info ∷ []) x ms) same (new ms (ap (λ s. s.members) same ∙ are))

    go : (k : ℕ) (i : StructInfo) (ms : Members) → slice_get (ss ++ info ∷ []) k ≡ Some i → i.members ≡ listed ms → (slice_get (ss ++ info ∷ []) k ≡ slice_get ss k) ⊎ (k ≡ length ss)
        → (slice_get ss k ≡ Some i) ⊎ GoodStruct (ss ++ info ∷ []) i ms
    go k i ms is are (inl same) = inl (sym same ∙ is)
    go k i ms is are (inr last) = inr (here i ms (some_is (sym (get_last ss info) ∙ sym (ap (λ n. slice_get (ss ++ info ∷ []) n) last) ∙ is)) are)

pub stay_but : (ss : List StructInfo) (k : ℕ) (info : StructInfo) → is_listed (members_at ss k) ≡ false → ListedStay ss (slice_set ss k info)
stay_but ss k info not_so j e = go (set_elsewhere ss k j info)
  where
    go : (slice_get (slice_set ss k info) j ≡ slice_get ss j) ⊎ (j ≡ k) → slice_get (slice_set ss k info) j ≡ slice_get ss j
    go (inl same) = same
    go (inr is) = false_not (sym not_so ∙ sym (ap (λ i. is_listed (members_at ss i)) is) ∙ e)

-- it was there, and not listed
pub one_set : (ss : List StructInfo) (k : ℕ) (info : StructInfo) {m : MembersData} → members_at ss k ≡ Some m → is_listed (Some m) ≡ false
    → IsGoodIf (slice_set ss k info) info → GoodStructs ss → GoodStructs (slice_set ss k info)
one_set ss k info {m} was not_so new good = structs_stay ss (slice_set ss k info) (stay_but ss k info (ap is_listed was ∙ not_so)) good (λ j i ms is are. go j i ms is are (set_elsewhere ss k j info))
  where
    here : (i : StructInfo) (ms : Members) → info ≡ i → i.members ≡ listed ms → GoodStruct (slice_set ss k info) i ms
    here i ms same are = subst (λ x. GoodStruct (slice_set ss k info) x ms) same (new ms (ap (λ s. s.members) same ∙ are))

    go : (j : ℕ) (i : StructInfo) (ms : Members) → slice_get (slice_set ss k info) j ≡ Some i → i.members ≡ listed ms → (slice_get (slice_set ss k info) j ≡ slice_get ss j) ⊎ (j ≡ k)
        → (slice_get ss j ≡ Some i) ⊎ GoodStruct (slice_set ss k info) i ms
    go j i ms is are (inl same) = inl (sym same ∙ is)
    go j i ms is are (inr at) = inr (here i ms (some_is (sym (set_here ss k info (there ss k m was).is) ∙ sym (ap (λ n. slice_get (slice_set ss k info) n) at) ∙ is)) are)

abbrev is_listed_data : MembersData → Bool
is_listed_data unlisted = false
is_listed_data begun = false
is_listed_data (listed ms) = true

-- a struct without members is none of those that have some
pub not_listed : (ts : List StructInfo) (info : StructInfo) → is_listed (Some info.members) ≡ false → IsGoodIf ts info
not_listed ts info e ms are = false_not (sym e ∙ ap (λ m. is_listed (Some m)) are)

-- ---- shapes

-- a value that is there
abbrev pub Has : {A : Type 0} → Option A → Type 0
Has None = ⊥
Has (Some a) = Unit {0}

has_mapped : {A B : Type 0} (f : A → B) (o : Option A) → Has o → Has (option_map f o)
has_mapped f None h = absurd h
has_mapped f (Some a) h = tt

pub has_shape : (info : StructInfo) → Has info.shape → HasShape info
has_shape info h = go info.shape refl h
  where
    go : (o : Option Shape) → info.shape ≡ o → Has o → HasShape info
    go None is h = absurd h
    go (Some s) is h = record { shape = s; is = is }

module _ (ss : List StructInfo) (structs : GoodStructs ss) where
  shape_there : (k : ℕ) (info : StructInfo) → slice_get ss k ≡ Some info → shape_among (shapes_at ss) (structure k) ≡ info.shape
  shape_there k info is = ap (option_and_then (λ shape. shape)) (get_map (λ s. s.shape) ss k ∙ ap (option_map (λ s. s.shape)) is)

  struct_has : (k : ℕ) → Listed ss k → Has (shape_among (shapes_at ss) (structure k))
  struct_has k l = go (structs k l.info l.ms l.is l.are).shape
    where
      go : HasShape l.info → Has (shape_among (shapes_at ss) (structure k))
      go s = subst Has (sym (shape_there k l.info l.is ∙ s.is)) tt

  pub type_shaped : (t : TyData) → Whole ss t → Has (shape_among (shapes_at ss) t)
  type_shaped void h = absurd h
  type_shaped (arithmetic a) h = tt
  type_shaped (pointer t) h = tt
  type_shaped (array t zero) h = absurd h
  type_shaped (array t (suc n)) h = has_mapped (repeated (suc n)) (shape_among (shapes_at ss) t) (type_shaped t h)
  type_shaped (structure k) h = struct_has k (listed_at ss k h)

  abbrev AllShaped : List MemberData → Type 0
  AllShaped [] = Unit {0}
  AllShaped (d ∷ ds) = Has (shape_among (shapes_at ss) d.1) × AllShaped ds

  members_shaped : (before : Shape) (ds : List MemberData) → AllShaped ds → Has (with_members (shapes_at ss) before ds)
  members_shaped before [] h = tt
  members_shaped before (d ∷ ds) h = by_shape (shape_among (shapes_at ss) d.1) h.0 (λ s. members_shaped (with_member before s) ds h.1)
    where
      by_shape : (o : Option Shape) → Has o → ((s : Shape) → Has (with_members (shapes_at ss) (with_member before s) ds))
          → Has (option_and_then (λ m. with_members (shapes_at ss) (with_member before m) ds) o)
      by_shape None h more = absurd h
      by_shape (Some s) h more = more s

  abbrev ShapedIn : Option (List MemberData) → Type 0
  ShapedIn None = ⊥
  ShapedIn (Some ds) = AllShaped ds

  typed_shaped : (ms : Members) → AllGood ss ms → ShapedIn (typed_members ms)
  typed_shaped [] h = tt
  typed_shaped (m ∷ ms) h = by_type m.1 h.0 (typed_members ms) (typed_shaped ms h.1)
    where
      by_type : (o : Option TyData) → GoodIn ss o → (more : Option (List MemberData)) → ShapedIn more
          → ShapedIn (elim o [ None ↦ None | Some t ↦ option_and_then (λ more. Some ((m.0, t) ∷ more)) more ])
      by_type None g more h = absurd g
      by_type (Some t) g None h = absurd h
      by_type (Some t) g (Some ds) h = (type_shaped t g.0, h)

  pub struct_shaped : (ms : Members) → SomeGood ss ms → Has (option_and_then (struct_shape (shapes_at ss)) (typed_members ms))
  struct_shaped [] h = absurd h
  struct_shaped (m ∷ ms) h = by_type m.1 h.0 (typed_members ms) (typed_shaped ms h.1)
    where
      by_type : (o : Option TyData) → GoodIn ss o → (more : Option (List MemberData)) → ShapedIn more
          → Has (option_and_then (struct_shape (shapes_at ss)) (elim o [ None ↦ None | Some t ↦ option_and_then (λ more. Some ((m.0, t) ∷ more)) more ]))
      by_type None g more h = absurd g
      by_type (Some t) g None h = absurd h
      by_type (Some t) g (Some ds) h =
          has_mapped (λ all. record { size = next_multiple_of all.size all.align; align = all.align }) (with_members (shapes_at ss) no_members ((m.0, t) ∷ ds))
          (members_shaped no_members ((m.0, t) ∷ ds) (type_shaped t g.0, h))
