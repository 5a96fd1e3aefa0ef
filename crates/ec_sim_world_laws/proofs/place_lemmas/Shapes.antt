-- Members and shapes over two lists of shapes, where the types of the one are made of those of the other.
use Rattle.std.proofs.Common.{◌≡◌, ◌∙◌, ℕ, Bool, true, false, List, [], ◌∷◌, map, Option, Some, None, refl, option_map, if◌then◌else◌}
use Rattle.std.specs.Prelude.{option_and_then, nat_eq}
use Rattle.std.specs.Int.{next_multiple_of}
use Rattle.std.specs.Cmp.Lexicographic.{pointwise, nat_list_eq_equiv}
use Rattle.ec_ctypes.specs.declared.types.sizes.Shape.{Shape}
use Rattle.ec_ctypes.specs.trees.Types.{TyData, MemberData}
use Rattle.ec_ctypes.specs.Layout.{shape_among, with_member, with_members, no_members, struct_shape, offset_behind, member_behind}
use Rattle.ec_language.specs.Letters.{Text, same_text}
use Rattle.ec_typing_defs.specs.Tables.{find}
use Rattle.ec_typing_defs.specs.Expressions.{Members, typed_members}
use Rattle.ec_typing_defs.specs.Programs.{known_members}
use Rattle.ec_sim_world_laws.proofs.place_lemmas.Lists.{none_not, some_is, Follows, follows}

-- ---- members that all have a type

pub record Typed (ms : Members) : Type 0 where
  pub types : List MemberData
  pub is : typed_members ms ≡ Some types
  pub same : ms ≡ known_members types

all_known : (ms : Members) (ds : List MemberData) → typed_members ms ≡ Some ds → ms ≡ known_members ds
all_known [] ds e = λ j. known_members (some_is e j)
all_known (m ∷ ms) ds e = by_type m.1 refl e (λ more is. all_known ms more is)
  where
    joined : (t : TyData) → m.1 ≡ Some t → Follows (λ more. Some ((m.0, t) ∷ more)) (typed_members ms) ds
        → ((more : List MemberData) → typed_members ms ≡ Some more → ms ≡ known_members more) → m ∷ ms ≡ known_members ds
    joined t is f rest =
        (λ j. (m.0, is j) ∷ ms)
        ∙ (λ j. (m.0, Some t) ∷ rest f.value f.is j)
        ∙ (λ j. known_members (some_is f.then' j))

    by_type : (o : Option TyData) → m.1 ≡ o
        → elim o [ None ↦ None | Some t ↦ option_and_then (λ more. Some ((m.0, t) ∷ more)) (typed_members ms) ] ≡ Some ds
        → ((more : List MemberData) → typed_members ms ≡ Some more → ms ≡ known_members more) → m ∷ ms ≡ known_members ds
    by_type None is e rest = none_not e
    by_type (Some t) is e rest = joined t is (follows (λ more. Some ((m.0, t) ∷ more)) (typed_members ms) e) rest

pub typed_by : {B : Type 0} (f : List MemberData → Option B) (ms : Members) {b : B} → option_and_then f (typed_members ms) ≡ Some b → Typed ms
typed_by f ms {b = b} e = found (follows f (typed_members ms) e)
  where
    found : Follows f (typed_members ms) b → Typed ms
    found o = record { types = o.value; is = o.is; same = all_known ms o.value o.is }

-- ---- two lists of shapes

module _ (there here : List (Option Shape)) (f : TyData → TyData) where
  abbrev pub made_of : List MemberData → List MemberData
  made_of ds = map (λ d. (d.0, f d.1)) ds

  -- the types of members have their shapes there
  abbrev pub Agree : List MemberData → Type 0
  Agree [] = Unit {0}
  Agree (d ∷ ds) = (shape_among there (f d.1) ≡ shape_among here d.1) × Agree ds

  members_agree : (before : Shape) (ds : List MemberData) → Agree ds → with_members there before (made_of ds) ≡ with_members here before ds
  members_agree before [] h = refl
  members_agree before (d ∷ ds) h =
      (λ j. option_and_then (λ m. with_members there (with_member before m) (made_of ds)) (h.0 j))
      ∙ by_shape (shape_among here d.1) (λ s. members_agree (with_member before s) ds h.1)
    where
      by_shape : (o : Option Shape) → ((s : Shape) → with_members there (with_member before s) (made_of ds) ≡ with_members here (with_member before s) ds)
          → option_and_then (λ m. with_members there (with_member before m) (made_of ds)) o
          ≡ option_and_then (λ m. with_members here (with_member before m) ds) o
      by_shape None more = refl
      by_shape (Some s) more = more s

  pub struct_agrees : (ds : List MemberData) → Agree ds → struct_shape there (made_of ds) ≡ struct_shape here ds
  struct_agrees [] h = refl
  struct_agrees (d ∷ ds) h = λ j. option_map (λ all. record { size = next_multiple_of all.size all.align; align = all.align }) (members_agree no_members (d ∷ ds) h j)

  pub member_agrees : (before : Shape) (name : Text) (ds : List MemberData) → Agree ds
      → member_behind there before name (made_of ds) ≡ option_map (λ m. (m.0, f m.1)) (member_behind here before name ds)
  member_agrees before name [] h = refl
  member_agrees before name (d ∷ ds) h =
      (λ j. option_and_then (one_there (pointwise nat_eq d.0 name)) (h.0 j))
      ∙ by_shape (shape_among here d.1) (pointwise nat_eq d.0 name) (λ s. member_agrees (with_member before s) name ds h.1)
    where
      one_there : Bool → Shape → Option (ℕ × TyData)
      one_there b s = if b then Some (offset_behind before.size s, f d.1) else member_behind there (with_member before s) name (made_of ds)

      one_here : Bool → Shape → Option (ℕ × TyData)
      one_here b s = if b then Some (offset_behind before.size s, d.1) else member_behind here (with_member before s) name ds

      by_shape : (o : Option Shape) (b : Bool)
          → ((s : Shape) → member_behind there (with_member before s) name (made_of ds) ≡ option_map (λ m. (m.0, f m.1)) (member_behind here (with_member before s) name ds))
          → option_and_then (one_there b) o ≡ option_map (λ m. (m.0, f m.1)) (option_and_then (one_here b) o)
      by_shape None b more = refl
      by_shape (Some s) true more = refl
      by_shape (Some s) false more = more s

-- ---- a member by its name, where all have shapes

pub record IsFound (shapes : List (Option Shape)) (before : Shape) (name : Text) (ds : List MemberData) (t : TyData) : Type 0 where
  pub offset : ℕ
  pub is : member_behind shapes before name ds ≡ Some (offset, t)

module _ (shapes : List (Option Shape)) (name : Text) where
  pub found_member : (before : Shape) (ds : List MemberData) {all : Shape} {t : TyData} → with_members shapes before ds ≡ Some all
      → find name (known_members ds) ≡ Some (Some t) → IsFound shapes before name ds t
  found_member before [] e n = none_not n
  found_member before (d ∷ ds) {all} {t} e n =
      by_name (follows (λ m. with_members shapes (with_member before m) ds) (shape_among shapes d.1) e) (same_text name d.0) refl n
      (λ s e n. found_member (with_member before s) ds e n)
    where
      Further : Shape → Type 0
      Further s = with_members shapes (with_member before s) ds ≡ Some all → find name (known_members ds) ≡ Some (Some t) → IsFound shapes (with_member before s) name ds t

      one : Bool → Option Shape → Option (ℕ × TyData)
      one b o = option_and_then (λ m. if b then Some (offset_behind before.size m, d.1) else member_behind shapes (with_member before m) name ds) o

      back : {b : Bool} → same_text name d.0 ≡ b → pointwise nat_eq d.0 name ≡ b
      back is = nat_list_eq_equiv.symm d.0 name ∙ is

      behind : (s : Follows (λ m. with_members shapes (with_member before m) ds) (shape_among shapes d.1) all) → same_text name d.0 ≡ false
          → IsFound shapes (with_member before s.value) name ds t → IsFound shapes before name (d ∷ ds) t
      behind s is r = record { offset = r.offset; is = (λ j. one (back is j) (s.is j)) ∙ r.is }

      by_name : (s : Follows (λ m. with_members shapes (with_member before m) ds) (shape_among shapes d.1) all) (b : Bool) → same_text name d.0 ≡ b
          → (if b then Some (Some d.1) else find name (known_members ds)) ≡ Some (Some t) → ((s : Shape) → Further s) → IsFound shapes before name (d ∷ ds) t
      by_name s true is n more = record {
        offset = offset_behind before.size s.value;
        is = (λ j. one (back is j) (s.is j)) ∙ (λ j. Some (offset_behind before.size s.value, some_is (some_is n) j));
      }
      by_name s false is n more = behind s is (more s.value s.then' n)
