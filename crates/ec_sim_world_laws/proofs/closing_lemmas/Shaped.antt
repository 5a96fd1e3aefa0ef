-- Structs whose members all have types have shapes.
use Rattle.std.proofs.Common.{◌≡◌, ◌∙◌, ℕ, zero, suc, List, [], ◌∷◌, ◌++◌, Option, Some, None, refl, sym, ap, subst, slice_get, option_map}
use Rattle.std.specs.Prelude.{option_and_then}
use Rattle.std.specs.Int.{next_multiple_of}
use Rattle.ec_ctypes.specs.declared.types.sizes.Shape.{Shape}
use Rattle.ec_ctypes.specs.trees.Types.{TyData, void, arithmetic, pointer, array, structure, MemberData}
use Rattle.ec_ctypes.specs.Layout.{repeated, shape_among, with_member, with_members, no_members, struct_shape}
use Rattle.ec_typing_defs.specs.Worlds.{is_listed, StructInfo, World}
use Rattle.ec_typing_defs.specs.Expressions.{Members, typed_members}
use Rattle.ec_sim_world_laws.specs.place.Structs.{EachStruct, EachStructIn, IsAmong, EachMember}
use Rattle.ec_sim_world_laws.specs.closing.Closing.{shapes_at, IsSized, IsSizedIn, AreSized, IsInOrder, AreInOrder, AreInTheirOrder, IsTyped, AreTyped, AreSomeTyped, HaveTypes, HasShape, HaveShapes}
use Rattle.ec_sim_world_laws.proofs.closing_lemmas.Lists.{false_not, get_map, each_behind, each_among}
use Rattle.ec_sim_world_laws.proofs.closing_lemmas.Orders.{each_member}

-- a value that is there
abbrev Has : {A : Type 0} → Option A → Type 0
Has None = ⊥
Has (Some a) = Unit {0}

has_mapped : {A B : Type 0} (f : A → B) (o : Option A) → Has o → Has (option_map f o)
has_mapped f None h = absurd h
has_mapped f (Some a) h = tt

module _ (ss : List StructInfo) where
  abbrev Shaped : ℕ → Type 0
  Shaped k = Has (shape_among (shapes_at ss) (structure k))

  type_shaped : (t : TyData) → IsSized t → EachStruct Shaped t → Has (shape_among (shapes_at ss) t)
  type_shaped void s e = absurd s
  type_shaped (arithmetic a) s e = tt
  type_shaped (pointer t) s e = tt
  type_shaped (array t zero) s e = absurd s
  type_shaped (array t (suc n)) s e = has_mapped (repeated (suc n)) (shape_among (shapes_at ss) t) (type_shaped t s e)
  type_shaped (structure k) s e = e

  -- members with their types
  abbrev AllShaped : List MemberData → Type 0
  AllShaped [] = Unit {0}
  AllShaped (d ∷ ds) = Has (shape_among (shapes_at ss) d.1) × AllShaped ds

  members_shaped : (before : Shape) (ds : List MemberData) → AllShaped ds → Has (with_members (shapes_at ss) before ds)
  members_shaped before [] h = tt
  members_shaped before (d ∷ ds) h = by_shape (shape_among (shapes_at ss) d.1) h.0 (λ s. members_shaped (with_member before s) ds h.1)
    where
      by_shape : (o : Option Shape) → Has o → ((s : Shape) → Has (with_members (shapes_at ss) (with_member before s) ds))
          → Has (option_and_then (λ m. with_members (shapes_at ss) (with_member before m) ds) o)
      by_shape None h more = absurd h
      by_shape (Some s) h more = more s

  -- the types of members, where all have one
  abbrev ShapedIn : Option (List MemberData) → Type 0
  ShapedIn None = ⊥
  ShapedIn (Some ds) = AllShaped ds

  typed_shaped : (ms : Members) → AreTyped ms → AreSized ms → EachMember Shaped ms → ShapedIn (typed_members ms)
  typed_shaped [] t s e = tt
  typed_shaped (m ∷ ms) t s e = by_type m.1 t.0 s.0 e.0 (typed_members ms) (typed_shaped ms t.1 s.1 e.1)
    where
      by_type : (o : Option TyData) → IsTyped o → IsSizedIn o → EachStructIn Shaped o → (more : Option (List MemberData)) → ShapedIn more
          → ShapedIn (elim o [ None ↦ None | Some t ↦ option_and_then (λ more. Some ((m.0, t) ∷ more)) more ])
      by_type None t s e more h = absurd t
      by_type (Some t) x s e None h = absurd h
      by_type (Some t) x s e (Some ds) h = (type_shaped t s e, h)

  struct_shaped : (ms : Members) → AreSomeTyped ms → AreSized ms → EachMember Shaped ms → Has (option_and_then (struct_shape (shapes_at ss)) (typed_members ms))
  struct_shaped [] t s e = absurd t
  struct_shaped (m ∷ ms) t s e = by_type m.1 t.0 s.0 e.0 (typed_members ms) (typed_shaped ms t.1 s.1 e.1)
    where
      by_type : (o : Option TyData) → IsTyped o → IsSizedIn o → EachStructIn Shaped o → (more : Option (List MemberData)) → ShapedIn more
          → Has (option_and_then (struct_shape (shapes_at ss)) (elim o [ None ↦ None | Some t ↦ option_and_then (λ more. Some ((m.0, t) ∷ more)) more ]))
      by_type None t s e more h = absurd t
      by_type (Some t) x s e None h = absurd h
      by_type (Some t) x s e (Some ds) h =
          has_mapped (λ all. record { size = next_multiple_of all.size all.align; align = all.align }) (with_members (shapes_at ss) no_members ((m.0, t) ∷ ds))
          (members_shaped no_members ((m.0, t) ∷ ds) (type_shaped t s e, h))

  shape_there : (k : ℕ) (info : StructInfo) → slice_get ss k ≡ Some info → shape_among (shapes_at ss) (structure k) ≡ info.shape
  shape_there k info is = ap (option_and_then (λ shape. shape)) (get_map (λ s. s.shape) ss k ∙ ap (option_map (λ s. s.shape)) is)

has_shape : (info : StructInfo) → Has info.shape → HasShape info
has_shape info h = go info.shape refl h
  where
    go : (o : Option Shape) → info.shape ≡ o → Has o → HasShape info
    go None is h = absurd h
    go (Some s) is h = record { shape = s; is = is }

module _ (w : World) (have : HaveTypes w) where
  one_shaped : (before : List ℕ) → ((j : ℕ) → IsAmong before j → Shaped w.structs j) → (k : ℕ) → IsInOrder w.structs before k → Shaped w.structs k
  one_shaped before are k h = subst Has (sym (shape_there w.structs k h.info h.is ∙ h.is_shape))
      (struct_shaped w.structs h.members (have k h.members (ap (option_map (λ s. s.members)) h.is ∙ ap (λ m. Some m) h.are)) h.sized
      (each_member (IsAmong before) (Shaped w.structs) are h.members h.inside))

  all_shaped : (before ks : List ℕ) → ((j : ℕ) → IsAmong before j → Shaped w.structs j) → AreInOrder w.structs before ks → (j : ℕ) → IsAmong ks j → Shaped w.structs j
  all_shaped before [] are h j e = false_not e
  all_shaped before (k ∷ ks) are h j e =
      each_among (Shaped w.structs) k ks (one_shaped before are k h.0)
      (all_shaped (before ++ k ∷ []) ks (each_behind (Shaped w.structs) before k are (one_shaped before are k h.0)) h.1) j e

pub have_shapes : (w : World) → AreInTheirOrder w → HaveTypes w → HaveShapes w
have_shapes w order have k info is l =
    has_shape info (subst Has (shape_there w.structs k info is)
    (all_shaped w have [] w.closed (λ j e. false_not e) order.closed k (order.listed k (ap (λ o. is_listed (option_map (λ s. s.members) o)) is ∙ l))))
