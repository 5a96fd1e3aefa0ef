-- A member that has a type has an offset.
use Rattle.std.proofs.Common.{◌≡◌, ◌∙◌, ℕ, Bool, true, false, List, [], ◌∷◌, Option, Some, None, refl, sym, ap, subst}
use Rattle.std.specs.Prelude.{option_map, option_and_then, if◌then◌else◌, is_some}
use Rattle.ec_ctypes.specs.declared.types.sizes.Shape.{Shape}
use Rattle.ec_ctypes.specs.Layout.{no_members, with_member, member_behind, shape_among, offset_behind}
use Rattle.ec_ctypes.specs.trees.Types.{TyData, MemberData}
use Rattle.ec_language.specs.Letters.{Text, same_text}
use Rattle.ec_typing_defs.specs.Tables.{find}
use Rattle.ec_typing_defs.specs.Expressions.{Members, typed_members}
use Rattle.ec_typing_defs.specs.Operands.{member_type}
use Rattle.ec_typing_defs.specs.Worlds.{World, MembersData, unlisted, begun, listed, StructInfo, members_of}
use Rattle.ec_resolving_defs.specs.Operands.{offset_among}
use Rattle.ec_sim_world_laws.specs.closing.Closing.{shapes_at, IsTyped}
use Rattle.ec_sim_world_laws.proofs.closing_lemmas.Lists.{some_is}
use Rattle.ec_sim_world_laws.proofs.closing_lemmas.Rules.{there}
use Rattle.ec_sim_program_laws.proofs.types_lemmas.Structs.{GoodIn, AllGood, GoodStructs, some_all, Has, type_shaped}
use Rattle.ec_sim_program_laws.proofs.types_lemmas.Rules.{Sound}
use Rattle.ec_sound_form_laws.proofs.Found.{HasOffset}
use Rattle.ec_sound_expression_laws.proofs.Basics.{clash, none_not}
use Rattle.ec_sound_expression_laws.proofs.Names.{same_text_sym}

module _ (ss : List StructInfo) (structs : GoodStructs ss) (m : Text) where
  -- the members with their types
  all_typed : (ms : Members) → AllGood ss ms → Has (typed_members ms)
  all_typed [] h = tt
  all_typed (x ∷ ms) h = by_type x.1 h.0 (typed_members ms) (all_typed ms h.1)
    where
      by_type : (o : Option TyData) → GoodIn ss o → (more : Option (List MemberData)) → Has more
          → Has (elim o [ None ↦ None | Some t ↦ option_and_then (λ more. Some ((x.0, t) ∷ more)) more ])
      by_type None g more h = absurd g
      by_type (Some t) g None h = absurd h
      by_type (Some t) g (Some ds) h = tt

  abbrev HasBehind : Shape → Option (List MemberData) → Type 0
  HasBehind before None = ⊥
  HasBehind before (Some ds) = Has (member_behind (shapes_at ss) before m ds)

  behind_there : (before : Shape) (ms : Members) → AllGood ss ms → is_some (find m ms) ≡ true → HasBehind before (typed_members ms)
  behind_there before [] h e = clash e
  behind_there before (x ∷ ms) h e = by_type x.1 h.0 (typed_members ms) (all_typed ms h.1) (λ s f. behind_there (with_member before s) ms h.1 f)
    where
      by_name : (t : TyData) (ds : List MemberData) (s : Shape) (b : Bool) → same_text x.0 m ≡ b → (is_some (find m ms) ≡ true → Has (member_behind (shapes_at ss) (with_member before s) m ds))
          → Has (if b then Some (offset_behind before.size s, t) else member_behind (shapes_at ss) (with_member before s) m ds)
      by_name t ds s true is rest = tt
      by_name t ds s false is rest = rest ((λ j. is_some (if (sym is ∙ same_text_sym x.0 m) j then Some x.1 else find m ms)) ∙ e)

      by_shape : (t : TyData) (ds : List MemberData) (o : Option Shape) → Has o → ((s : Shape) → is_some (find m ms) ≡ true → Has (member_behind (shapes_at ss) (with_member before s) m ds))
          → Has (option_and_then (λ member. if same_text x.0 m then Some (offset_behind before.size member, t) else member_behind (shapes_at ss) (with_member before member) m ds) o)
      by_shape t ds None g rest = absurd g
      by_shape t ds (Some s) g rest = by_name t ds s (same_text x.0 m) refl (rest s)

      by_type : (o : Option TyData) → GoodIn ss o → (more : Option (List MemberData)) → Has more → ((s : Shape) → is_some (find m ms) ≡ true → HasBehind (with_member before s) more)
          → HasBehind before (elim o [ None ↦ None | Some t ↦ option_and_then (λ more. Some ((x.0, t) ∷ more)) more ])
      by_type None g more there rest = absurd g
      by_type (Some t) g None there rest = absurd there
      by_type (Some t) g (Some ds) there rest = by_shape t ds (shape_among (shapes_at ss) t) (type_shaped ss structs t g.0) rest

  offset_in : (o : Option (List MemberData)) → HasBehind no_members o → Has (option_and_then (λ ds. option_map (λ d. d.0) (member_behind (shapes_at ss) no_members m ds)) o)
  offset_in None h = absurd h
  offset_in (Some ds) h = mapped (member_behind (shapes_at ss) no_members m ds) h
    where
      mapped : (o : Option (ℕ × TyData)) → Has o → Has (option_map (λ d. d.0) o)
      mapped None h = absurd h
      mapped (Some d) h = tt

-- a member that is found has a type
found_typed : (ss : List StructInfo) (m : Text) (ms : Members) → AllGood ss ms → (o : Option TyData) → find m ms ≡ Some o → IsTyped o
found_typed ss m [] h o e = none_not e
found_typed ss m (x ∷ ms) h o e = go (same_text m x.0) e (λ f. found_typed ss m ms h.1 o f)
  where
    typed : (t : Option TyData) → GoodIn ss t → IsTyped t
    typed None g = absurd g
    typed (Some t) g = tt

    go : (b : Bool) → (if b then Some x.1 else find m ms) ≡ Some o → (find m ms ≡ Some o → IsTyped o) → IsTyped o
    go true e rest = subst IsTyped (some_is e) (typed x.1 h.0)
    go false e rest = rest e

pub member_typed : (w : World) → Sound w → (k : ℕ) (m : Text) (t : Option TyData) → member_type m (members_of k w) ≡ Some t → IsTyped t
member_typed w sound k m t e = go (members_of k w) refl e
  where
    listed_one : (ms : Members) → members_of k w ≡ Some (listed ms) → find m ms ≡ Some t → IsTyped t
    listed_one ms is f =
        let x = there w.structs k (listed ms) is in
        found_typed w.structs m ms (some_all w.structs ms (sound.structs k x.info ms x.is (some_is x.are)).good) t f

    go : (o : Option MembersData) → members_of k w ≡ o → member_type m o ≡ Some t → IsTyped t
    go None is f = none_not f
    go (Some unlisted) is f = none_not f
    go (Some begun) is f = none_not f
    go (Some (listed ms)) is f = listed_one ms is f

pub record IsThere {A : Type 0} (o : Option A) : Type 0 where
  pub value : A
  pub is : o ≡ Some value

pub is_there : {A : Type 0} (o : Option A) → Has o → IsThere o
is_there None h = absurd h
is_there (Some a) h = record { value = a; is = refl }

pub has_offset : (w : World) → Sound w → (k : ℕ) (m : Text) (t : Option TyData) → member_type m (members_of k w) ≡ Some t → HasOffset w k m
has_offset w sound k m t e = go (members_of k w) refl e
  where
    listed_one : (ms : Members) → members_of k w ≡ Some (listed ms) → find m ms ≡ Some t → HasOffset w k m
    listed_one ms is f =
        let x = there w.structs k (listed ms) is in
        let good = some_all w.structs ms (sound.structs k x.info ms x.is (some_is x.are)).good in
        let o = is_there _ (offset_in w.structs sound.structs m (typed_members ms) (behind_there w.structs sound.structs m no_members ms good (ap is_some f))) in
        record { offset = o.value; is = (λ j. offset_among w m (is j)) ∙ o.is }

    go : (o : Option MembersData) → members_of k w ≡ o → member_type m o ≡ Some t → HasOffset w k m
    go None is f = none_not f
    go (Some unlisted) is f = none_not f
    go (Some begun) is f = none_not f
    go (Some (listed ms)) is f = listed_one ms is f
