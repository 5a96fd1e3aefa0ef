-- Structs that are closed in their order stay so where those that are listed stay as they are.
use Rattle.std.proofs.Common.{◌≡◌, ◌∙◌, ℕ, zero, suc, true, List, [], ◌∷◌, ◌++◌, Option, Some, None, refl, sym, ap, subst, append_assoc, append-nil, slice_get, option_map}
use Rattle.std.specs.Prelude.{option_and_then}
use Rattle.std.specs.Int.{next_multiple_of}
use Rattle.ec_ctypes.specs.declared.types.sizes.Shape.{Shape}
use Rattle.ec_ctypes.specs.trees.Types.{TyData, void, arithmetic, pointer, array, structure, MemberData}
use Rattle.ec_ctypes.specs.Layout.{repeated, shape_among, with_member, with_members, no_members, struct_shape}
use Rattle.ec_typing_defs.specs.Worlds.{is_listed, StructInfo, is_complete, World}
use Rattle.ec_typing_defs.specs.Expressions.{Members, typed_members}
use Rattle.ec_sim_world_laws.specs.place.Structs.{EachStruct, EachStructIn, IsAmong, EachMember}
use Rattle.ec_sim_world_laws.specs.closing.Closing.{IsSized, members_at, shapes_at, IsInOrder, AreInOrder}
use Rattle.ec_sim_world_laws.proofs.closing_lemmas.Lists.{false_not, get_map, each_behind}

-- ---- what lies in types

pub each_struct : (P Q : ℕ → Type 0) → ((k : ℕ) → P k → Q k) → (t : TyData) → EachStruct P t → EachStruct Q t
each_struct P Q h void e = tt
each_struct P Q h (arithmetic a) e = tt
each_struct P Q h (pointer t) e = tt
each_struct P Q h (array t n) e = each_struct P Q h t e
each_struct P Q h (structure k) e = h k e

pub each_struct_in : (P Q : ℕ → Type 0) → ((k : ℕ) → P k → Q k) → (t : Option TyData) → EachStructIn P t → EachStructIn Q t
each_struct_in P Q h None e = tt
each_struct_in P Q h (Some t) e = each_struct P Q h t e

pub each_member : (P Q : ℕ → Type 0) → ((k : ℕ) → P k → Q k) → (ms : Members) → EachMember P ms → EachMember Q ms
each_member P Q h [] e = tt
each_member P Q h (m ∷ ms) e = (each_struct_in P Q h m.1 e.0, each_member P Q h ms e.1)

-- in a complete type lie structs that are listed
pub complete_structs : (w : World) (P : ℕ → Type 0) → ((k : ℕ) → is_listed (members_at w.structs k) ≡ true → P k) → (t : TyData) → is_complete w t ≡ true → EachStruct P t
complete_structs w P h void e = tt
complete_structs w P h (arithmetic a) e = tt
complete_structs w P h (pointer t) e = tt
complete_structs w P h (array t zero) e = false_not e
complete_structs w P h (array t (suc n)) e = complete_structs w P h t e
complete_structs w P h (structure k) e = h k e

pub complete_sized : (w : World) (t : TyData) → is_complete w t ≡ true → IsSized t
complete_sized w void e = false_not e
complete_sized w (arithmetic a) e = tt
complete_sized w (pointer t) e = tt
complete_sized w (array t zero) e = false_not e
complete_sized w (array t (suc n)) e = complete_sized w t e
complete_sized w (structure k) e = tt

-- ---- shapes, where the structs in types stay

abbrev pub Same : List StructInfo → List StructInfo → ℕ → Type 0
Same ss ts k = slice_get ts k ≡ slice_get ss k

type_shape : (ss ts : List StructInfo) (t : TyData) → EachStruct (Same ss ts) t → shape_among (shapes_at ts) t ≡ shape_among (shapes_at ss) t
type_shape ss ts void e = refl
type_shape ss ts (arithmetic a) e = refl
type_shape ss ts (pointer t) e = refl
type_shape ss ts (array t zero) e = refl
type_shape ss ts (array t (suc n)) e = ap (option_map (repeated (suc n))) (type_shape ss ts t e)
type_shape ss ts (structure k) e =
    ap (option_and_then (λ shape. shape)) (get_map (λ s. s.shape) ts k ∙ ap (option_map (λ s. s.shape)) e ∙ sym (get_map (λ s. s.shape) ss k))

-- the types of members that have some
abbrev pub EachTyped : (ℕ → Type 0) → List MemberData → Type 0
EachTyped P [] = Unit {0}
EachTyped P (d ∷ ds) = EachStruct P d.1 × EachTyped P ds

members_shape : (ss ts : List StructInfo) (before : Shape) (ds : List MemberData) → EachTyped (Same ss ts) ds → with_members (shapes_at ts) before ds ≡ with_members (shapes_at ss) before ds
members_shape ss ts before [] e = refl
members_shape ss ts before (d ∷ ds) e =
    ap (option_and_then (λ m. with_members (shapes_at ts) (with_member before m) ds)) (type_shape ss ts d.1 e.0)
    ∙ by_shape (shape_among (shapes_at ss) d.1) (λ s. members_shape ss ts (with_member before s) ds e.1)
  where
    by_shape : (o : Option Shape) → ((s : Shape) → with_members (shapes_at ts) (with_member before s) ds ≡ with_members (shapes_at ss) (with_member before s) ds)
        → option_and_then (λ m. with_members (shapes_at ts) (with_member before m) ds) o ≡ option_and_then (λ m. with_members (shapes_at ss) (with_member before m) ds) o
    by_shape None more = refl
    by_shape (Some s) more = more s

struct_same : (ss ts : List StructInfo) (ds : List MemberData) → EachTyped (Same ss ts) ds → struct_shape (shapes_at ts) ds ≡ struct_shape (shapes_at ss) ds
struct_same ss ts [] e = refl
struct_same ss ts (d ∷ ds) e = ap (option_map (λ all. record { size = next_multiple_of all.size all.align; align = all.align })) (members_shape ss ts no_members (d ∷ ds) e)

-- the members with their types, where all have one
abbrev pub TypedIn : (ℕ → Type 0) → Option (List MemberData) → Type 0
TypedIn P None = Unit {0}
TypedIn P (Some ds) = EachTyped P ds

typed_in : (P : ℕ → Type 0) (ms : Members) → EachMember P ms → TypedIn P (typed_members ms)
typed_in P [] e = tt
typed_in P (m ∷ ms) e = by_type m.1 e.0 (typed_members ms) (typed_in P ms e.1)
  where
    by_type : (o : Option TyData) → EachStructIn P o → (more : Option (List MemberData)) → TypedIn P more
        → TypedIn P (elim o [ None ↦ None | Some t ↦ option_and_then (λ more. Some ((m.0, t) ∷ more)) more ])
    by_type None p more h = tt
    by_type (Some t) p None h = tt
    by_type (Some t) p (Some ds) h = (p, h)

pub shape_same : (ss ts : List StructInfo) (ms : Members) → EachMember (Same ss ts) ms
    → option_and_then (struct_shape (shapes_at ts)) (typed_members ms) ≡ option_and_then (struct_shape (shapes_at ss)) (typed_members ms)
shape_same ss ts ms e = by_types (typed_members ms) (typed_in (Same ss ts) ms e)
  where
    by_types : (o : Option (List MemberData)) → TypedIn (Same ss ts) o → option_and_then (struct_shape (shapes_at ts)) o ≡ option_and_then (struct_shape (shapes_at ss)) o
    by_types None h = refl
    by_types (Some ds) h = struct_same ss ts ds h

-- ---- structs in their order

-- what is listed stays as it is
abbrev pub ListedStay : List StructInfo → List StructInfo → Type 0
ListedStay ss ts = (k : ℕ) → is_listed (members_at ss k) ≡ true → slice_get ts k ≡ slice_get ss k

in_order_listed : (ss : List StructInfo) (before : List ℕ) (k : ℕ) → IsInOrder ss before k → is_listed (members_at ss k) ≡ true
in_order_listed ss before k h = ap (λ o. is_listed (option_map (λ s. s.members) o)) h.is ∙ ap (λ m. is_listed (Some m)) h.are

one_stays : (ss ts : List StructInfo) → ListedStay ss ts → (before : List ℕ) → ((j : ℕ) → IsAmong before j → is_listed (members_at ss j) ≡ true)
    → (k : ℕ) → IsInOrder ss before k → IsInOrder ts before k
one_stays ss ts stay before are k h = record {
  info = h.info;
  is = stay k (in_order_listed ss before k h) ∙ h.is;
  members = h.members;
  are = h.are;
  distinct = h.distinct;
  sized = h.sized;
  inside = h.inside;
  is_shape = h.is_shape ∙ sym (shape_same ss ts h.members (each_member (IsAmong before) (Same ss ts) (λ j a. stay j (are j a)) h.members h.inside));
}

orders_stay : (ss ts : List StructInfo) → ListedStay ss ts → (before ks : List ℕ) → ((j : ℕ) → IsAmong before j → is_listed (members_at ss j) ≡ true)
    → AreInOrder ss before ks → AreInOrder ts before ks
orders_stay ss ts stay before [] are h = tt
orders_stay ss ts stay before (k ∷ ks) are h =
    (one_stays ss ts stay before are k h.0, orders_stay ss ts stay (before ++ k ∷ []) ks (each_behind (λ j. is_listed (members_at ss j) ≡ true) before k are (in_order_listed ss before k h.0)) h.1)

pub closed_stay : (ss ts : List StructInfo) → ListedStay ss ts → (ks : List ℕ) → AreInOrder ss [] ks → AreInOrder ts [] ks
closed_stay ss ts stay ks h = orders_stay ss ts stay [] ks (λ j e. false_not e) h

-- one more, behind them all
further_closed : (ss : List StructInfo) (before ks : List ℕ) (k : ℕ) → AreInOrder ss before ks → IsInOrder ss (before ++ ks) k → AreInOrder ss before (ks ++ k ∷ [])
further_closed ss before [] k h one = (subst (λ bs. IsInOrder ss bs k) (append-nil before) one, tt)
further_closed ss before (x ∷ ks) k h one =
    (h.0, further_closed ss (before ++ x ∷ []) ks k h.1 (subst (λ bs. IsInOrder ss bs k) (sym (append_assoc before (x ∷ []) ks)) one))

pub one_closed : (ss : List StructInfo) (ks : List ℕ) (k : ℕ) → AreInOrder ss [] ks → IsInOrder ss ks k → AreInOrder ss [] (ks ++ k ∷ [])
one_closed ss ks k h one = further_closed ss [] ks k h one

-- what is closed is listed
listed_among : (ss : List StructInfo) (before ks : List ℕ) → ((j : ℕ) → IsAmong before j → is_listed (members_at ss j) ≡ true) → AreInOrder ss before ks
    → (j : ℕ) → IsAmong (before ++ ks) j → is_listed (members_at ss j) ≡ true
listed_among ss before [] are h j e = are j (subst (λ bs. IsAmong bs j) (append-nil before) e)
listed_among ss before (k ∷ ks) are h j e =
    listed_among ss (before ++ k ∷ []) ks (each_behind (λ i. is_listed (members_at ss i) ≡ true) before k are (in_order_listed ss before k h.0)) h.1 j
    (subst (λ bs. IsAmong bs j) (sym (append_assoc before (k ∷ []) ks)) e)

pub closed_listed : (ss : List StructInfo) (ks : List ℕ) → AreInOrder ss [] ks → (j : ℕ) → IsAmong ks j → is_listed (members_at ss j) ≡ true
closed_listed ss ks h j e = listed_among ss [] ks (λ i a. false_not a) h j e
