-- Where more is known, the structs that were listed have the same members, sizes and offsets.
use Rattle.std.proofs.Common.{◌≡◌, ◌∙◌, ℕ, zero, suc, Bool, true, false, List, [], ◌∷◌, map-id, Option, Some, None, refl, sym, subst, slice_get, option_map, if◌then◌else◌}
use Rattle.std.specs.Prelude.{option_and_then}
use Rattle.ec_ctypes.specs.Layout.{struct_shape, member_behind, no_members}
use Rattle.ec_ctypes.specs.trees.Types.{TyData, void, arithmetic, pointer, array, structure, MemberData}
use Rattle.ec_ctypes.specs.trees.Units.{UnitData}
use Rattle.ec_language.specs.Letters.{Text, same_text}
use Rattle.ec_typing_defs.specs.Expressions.{Members}
use Rattle.ec_typing_defs.specs.Operands.{member_type}
use Rattle.ec_typing_defs.specs.Programs.{known_members, start}
use Rattle.ec_typing_defs.specs.Tables.{find}
use Rattle.ec_typing_defs.specs.Worlds.{MembersData, unlisted, begun, listed, is_listed, StructInfo, World, members_of, shapes_in, is_complete}
use Rattle.ec_resolving_defs.specs.Conversions.{size_in, size_or_none, within_limit}
use Rattle.ec_resolving_defs.specs.Operands.{offset_among}
use Rattle.ec_sim_world_laws.specs.growth.Growth.{is_unlisted, Grows}
use Rattle.ec_sim_world_laws.specs.place.Structs.{IsListed, EachStructIn, AreListed, EachMember, IsAmong, ClosedAreListed, IsWithin}
use Rattle.ec_sim_world_laws.proofs.place_lemmas.GrowthStays.{grown}
use Rattle.ec_sim_world_laws.proofs.place_lemmas.Lists.{none_not, false_not, some_is}
use Rattle.ec_sim_world_laws.proofs.place_lemmas.Shapes.{Typed, typed_by, Agree, member_agrees}
use Rattle.ec_sim_world_laws.proofs.place_lemmas.TablesSame.{each_member, At, found_at, among_front, closed_listed, stay_shape}

-- ---- structs that are listed

listed_by : (w : World) (k : ℕ) (o : Option StructInfo) → slice_get w.structs k ≡ o → is_listed (option_map (λ s. s.members) o) ≡ true → IsListed w k
listed_by w k None is e = false_not e
listed_by w k (Some info) is e = by_members info.members refl e
  where
    by_members : (ms : MembersData) → info.members ≡ ms → is_listed (Some ms) ≡ true → IsListed w k
    by_members unlisted are e = false_not e
    by_members begun are e = false_not e
    by_members (listed ms) are e = record { info = info; is = is; members = ms; are = are }

pub listed_of : (w : World) (k : ℕ) → is_listed (members_of k w) ≡ true → IsListed w k
listed_of w k e = listed_by w k (slice_get w.structs k) refl e

pub listed_is : (w : World) (k : ℕ) → IsListed w k → is_listed (members_of k w) ≡ true
listed_is w k h = (λ j. is_listed (option_map (λ s. s.members) (h.is j))) ∙ (λ j. is_listed (Some (h.are j)))

pub complete_listed : (w : World) (t : TyData) → is_complete w t ≡ true → AreListed w t
complete_listed w void e = tt
complete_listed w (arithmetic a) e = tt
complete_listed w (pointer t) e = tt
complete_listed w (array t zero) e = false_not e
complete_listed w (array t (suc n)) e = complete_listed w t e
complete_listed w (structure k) e = listed_of w k e

members_are : (w : World) (k : ℕ) (h : IsListed w k) → members_of k w ≡ Some (listed h.members)
members_are w k h = (λ j. option_map (λ s. s.members) (h.is j)) ∙ (λ j. Some (h.are j))

-- of a member what holds of each
each_found : (P : ℕ → Type 0) (name : Text) (ms : Members) {t : Option TyData} → EachMember P ms → find name ms ≡ Some t → EachStructIn P t
each_found P name [] h e = none_not e
each_found P name (m ∷ ms) {t} h e = by_test (same_text name m.0) e (λ e. each_found P name ms h.1 e)
  where
    by_test : (b : Bool) → (if b then Some m.1 else find name ms) ≡ Some t → (find name ms ≡ Some t → EachStructIn P t) → EachStructIn P t
    by_test true e more = subst (EachStructIn P) (some_is e) h.0
    by_test false e more = more e

abbrev members_or : MembersData → Members
members_or unlisted = []
members_or begun = []
members_or (listed ms) = ms

-- the members of a struct: they have types, and in them lie structs that are listed
record Own (w : World) (ms : Members) : Type 0 where
  inside : EachMember (IsListed w) ms
  typed : Typed ms

own : (w : World) → ClosedAreListed w → (k : ℕ) (h : IsListed w k) → Own w h.members
own w here k h = of_at (found_at w [] w.closed here.closed k (here.listed k h))
  where
    of_at : At w [] w.closed k → Own w h.members
    of_at b = subst (Own w) same (record {
      inside = each_member among b.here.members b.here.inside;
      typed = typed_by (struct_shape (shapes_in w)) b.here.members b.here.is_shape;
    })
      where
        among : (j : ℕ) → IsAmong b.front j → IsListed w j
        among j e = closed_listed w here j (subst (λ ks. IsAmong ks j) (sym b.is) (among_front b.front (k ∷ b.rest) j e))

        same : b.here.members ≡ h.members
        same = λ j. members_or (some_is (sym ((λ j. option_map (λ s. s.members) (b.here.is j)) ∙ (λ j. Some (b.here.are j))) ∙ members_are w k h) j)

firsts : (o : Option (ℕ × TyData)) → option_map (λ (d : ℕ × TyData). d.0) (option_map (λ (m : ℕ × TyData). (m.0, m.1)) o) ≡ option_map (λ (d : ℕ × TyData). d.0) o
firsts None = refl
firsts (Some m) = refl

-- ---- here, and where more is known

module _ (w v : World) (g : Grows w v) (here : ClosedAreListed w) (there : ClosedAreListed v) where
  within : IsWithin w v
  within = grown w v g here there

  pub info_stays : (k : ℕ) → IsListed w k → slice_get v.structs k ≡ slice_get w.structs k
  info_stays k h = g.structs k h.info h.is (λ j. is_unlisted (h.are j)) ∙ sym h.is

  pub members_stay : (k : ℕ) → IsListed w k → members_of k v ≡ members_of k w
  members_stay k h = λ j. option_map (λ s. s.members) (info_stays k h j)

  pub complete_stays : (t : TyData) → AreListed w t → is_complete v t ≡ is_complete w t
  complete_stays void h = refl
  complete_stays (arithmetic a) h = refl
  complete_stays (pointer t) h = refl
  complete_stays (array t zero) h = refl
  complete_stays (array t (suc n)) h = complete_stays t h
  complete_stays (structure k) h = λ j. is_listed (members_stay k h j)

  pub size_stays : (t : TyData) → AreListed w t → size_in v t ≡ size_in w t
  size_stays t h = λ j. size_or_none (within_limit (stay_shape w v within t h j))

  pub member_inside : (k : ℕ) → IsListed w k → (name : Text) {t : Option TyData} → member_type name (members_of k w) ≡ Some t → EachStructIn (IsListed w) t
  member_inside k h name e = each_found (IsListed w) name h.members (own w here k h).inside (sym (λ j. member_type name (members_are w k h j)) ∙ e)

  agree : (ds : List MemberData) → EachMember (IsListed w) (known_members ds) → Agree (shapes_in v) (shapes_in w) (λ t. t) ds
  agree [] h = tt
  agree (d ∷ ds) h = (stay_shape w v within d.1 h.0, agree ds h.1)

  offsets_same : (name : Text) (ms : Members) → Own w ms → offset_among v name (Some (listed ms)) ≡ offset_among w name (Some (listed ms))
  offsets_same name ms o =
      (λ j. option_and_then (λ ds. option_map (λ d. d.0) (member_behind (shapes_in v) no_members name ds)) (o.typed.is j))
      ∙ sym (λ j. option_map (λ d. d.0) (member_behind (shapes_in v) no_members name (map-id o.typed.types j)))
      ∙ (λ j. option_map (λ (d : ℕ × TyData). d.0) (member_agrees (shapes_in v) (shapes_in w) (λ t. t) no_members name o.typed.types
      (agree o.typed.types (subst (EachMember (IsListed w)) o.typed.same o.inside)) j))
      ∙ firsts (member_behind (shapes_in w) no_members name o.typed.types)
      ∙ sym (λ j. option_and_then (λ ds. option_map (λ d. d.0) (member_behind (shapes_in w) no_members name ds)) (o.typed.is j))

  pub offset_stays : (k : ℕ) → IsListed w k → (name : Text) → offset_among v name (members_of k v) ≡ offset_among w name (members_of k w)
  offset_stays k h name =
      (λ j. offset_among v name (members_stay k h j))
      ∙ (λ j. offset_among v name (members_are w k h j))
      ∙ offsets_same name h.members (own w here k h)
      ∙ sym (λ j. offset_among w name (members_are w k h j))

-- ---- the struct of `sqlca`

listed_at_start : (u : UnitData) → IsListed (start false u) 1
listed_at_start u = record { info = _; is = refl; members = _; are = refl }

pub sqlca_listed : (u : UnitData) (w : World) → Grows (start false u) w → IsListed w 1
sqlca_listed u w g = of_start (listed_at_start u)
  where
    of_start : IsListed (start false u) 1 → IsListed w 1
    of_start h = record { info = h.info; is = g.structs 1 h.info h.is (λ j. is_unlisted (h.are j)); members = h.members; are = h.are }
