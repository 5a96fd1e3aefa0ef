-- What is kept of structs.
use Rattle.std.proofs.Common.{◌≡◌, ℕ, zero, suc, List, [], ◌∷◌, ◌++◌, map, take, drop, IsSome, Option, Some, None, IfSome, subst, if◌then◌else◌, Bool, true, false, nat_le, nat_eq, option_and_then, slice_get, refl, sym, ap, ◌∙◌, arith}
use Rattle.std.proofs.lemmas.Bool.Decides.{nat_tests}
use Rattle.std.specs.Cmp.Lexicographic.{pointwise}
use Rattle.std.proofs.lemmas.List.{map-append, take-append-drop, take-map}
use Rattle.ec_ctypes.specs.declared.types.sizes.Shape.{Shape}
use Rattle.ec_ctypes.specs.declared.types.ty.StructDef.{StructDef}
use Rattle.ec_ctypes.specs.declared.types.ty.Ty.{Ty}
use Rattle.ec_ctypes.specs.trees.Types.{TyData, structure, MemberData, StructData}
use Rattle.ec_ctypes.specs.views.Types.{member_view, struct_view, structs_view}
use Rattle.ec_ctypes.specs.Layout.{with_member, no_members, with_members, member_behind, offset_behind, struct_shape, shapes_of, shape_of, limited, kept_shapes, IsSmall}
use Rattle.ec_ctypes.proofs.Shapes.{IsSound, IsSound-of, behind-append, shape-kept}

-- what is kept at a number
pub kept-at : (os : List (Option Shape)) (k : ℕ) → option_and_then (λ shape. shape) (slice_get (map limited os) k) ≡ limited (option_and_then (λ shape. shape) (slice_get os k))
kept-at [] k = refl
kept-at (o ∷ os) zero = refl
kept-at (o ∷ os) (suc k) = kept-at os k

pub kept-shape : (shapes : List (Option Shape)) (structs : List StructDef) (k : ℕ) → shapes ≡ kept_shapes (structs_view structs) →
    option_and_then (λ shape. shape) (slice_get shapes k) ≡ limited (shape_of (structs_view structs) (structure k))
kept-shape shapes structs k e = ap (λ os. option_and_then (λ shape. shape) (slice_get os k)) e ∙ kept-at (shapes_of (structs_view structs)) k

-- a shape within the limit is small
pub small-limited : (o : Option Shape) → IfSome o IsSound → IfSome (limited o) IsSmall
small-limited None one = tt
small-limited (Some shape) one = by_test (nat_le shape.size 16777216) refl
  where
    by_test : (t : Bool) → nat_le shape.size 16777216 ≡ t → IfSome (if t then Some shape else None) IsSmall
    by_test true e = record { size = grind (arith, nat_tests, e); positive = one.positive; align = one.align }
    by_test false e = tt

pub small-kept : (structs : List StructDef) (k : ℕ) → IfSome (limited (shape_of (structs_view structs) (structure k))) IsSmall
small-kept structs k = small-limited (shape_of (structs_view structs) (structure k)) (IsSound-of (structs_view structs) (structure k))

-- the shapes of structs and of one more
pub kept-more : (structs : List StructDef) (d : StructDef) →
    kept_shapes (structs_view structs) ++ limited (struct_shape (shapes_of (structs_view structs)) (map member_view d.members)) ∷ [] ≡ kept_shapes (structs_view (structs ++ d ∷ []))
kept-more structs d =
    sym (ap kept_shapes (map-append struct_view structs (d ∷ []))
    ∙ ap (map limited) (behind-append (structs_view structs) (struct_view d ∷ []) [])
    ∙ map-append limited (shapes_of (structs_view structs)) (struct_shape (shapes_of (structs_view structs)) (map member_view d.members) ∷ []))

-- a type that has a shape among the lower structs has it among all
all-kept : (ds : List StructData) (k : ℕ) (ty : TyData) → IsSome (shape_of (take k ds) ty) → shape_of ds ty ≡ shape_of (take k ds) ty
all-kept ds k ty h = ap (λ l. shape_of l ty) (sym (take-append-drop k ds)) ∙ shape-kept (take k ds) (drop k ds) ty h

-- so do members, of which the first has the shape `o`
member-kept : (ds : List StructData) (k : ℕ) (m : MemberData) {X : Type 0} (whole low : Shape → Option X) (o : Option Shape) → o ≡ shape_of (take k ds) m.1 →
    ((member : Shape) → o ≡ Some member → whole member ≡ low member) → IsSome o →
    option_and_then whole (shape_of ds m.1) ≡ option_and_then low o
member-kept ds k m whole low None e rest h = cc
member-kept ds k m whole low (Some member) e rest h =
    ap (option_and_then whole) (all-kept ds k m.1 (subst (λ (o : Option Shape). IsSome o) e refl) ∙ sym e) ∙ rest member refl

-- what is found by a first step is found only where the step finds something
some-first : {X Y : Type 0} (o : Option X) (f : X → Option Y) → IsSome (option_and_then f o) → IsSome o
some-first None f h = h
some-first (Some x) f h = refl

-- and by the next steps
some-rest : {X Y : Type 0} (o : Option X) (f : X → Option Y) (x : X) → o ≡ Some x → IsSome (option_and_then f o) → IsSome (f x)
some-rest o f x e h = subst (λ (o : Option _). IsSome (option_and_then f o)) e h

pub members-kept : (ds : List StructData) (k : ℕ) (before : Shape) (ms : List MemberData) → IsSome (with_members (shapes_of (take k ds)) before ms) →
    with_members (shapes_of ds) before ms ≡ with_members (shapes_of (take k ds)) before ms
members-kept ds k before [] h = refl
members-kept ds k before (m ∷ ms) h =
    let low = shapes_of (take k ds) in
    member-kept ds k m (λ x. with_members (shapes_of ds) (with_member before x) ms) (λ x. with_members low (with_member before x) ms) (shape_of (take k ds) m.1) refl
    (λ x e. members-kept ds k (with_member before x) ms (some-rest (shape_of (take k ds) m.1) (λ x. with_members low (with_member before x) ms) x e h))
    (some-first (shape_of (take k ds) m.1) (λ x. with_members low (with_member before x) ms) h)

-- the member of a name among them
pub found-kept : (ds : List StructData) (k : ℕ) (before : Shape) (name : List ℕ) (ms : List MemberData) → IsSome (with_members (shapes_of (take k ds)) before ms) →
    member_behind (shapes_of ds) before name ms ≡ member_behind (shapes_of (take k ds)) before name ms
found-kept ds k before name [] h = refl
found-kept ds k before name (m ∷ ms) h =
    let low = shapes_of (take k ds) in
    member-kept ds k m
    (λ x. if pointwise nat_eq m.0 name then Some (offset_behind before.size x, m.1) else member_behind (shapes_of ds) (with_member before x) name ms)
    (λ x. if pointwise nat_eq m.0 name then Some (offset_behind before.size x, m.1) else member_behind low (with_member before x) name ms)
    (shape_of (take k ds) m.1) refl
    (λ x e. ap (λ (found : Option (ℕ × TyData)). if pointwise nat_eq m.0 name then Some (offset_behind before.size x, m.1) else found)
    (found-kept ds k (with_member before x) name ms (some-rest (shape_of (take k ds) m.1) (λ x. with_members low (with_member before x) ms) x e h)))
    (some-first (shape_of (take k ds) m.1) (λ x. with_members low (with_member before x) ms) h)

-- members that end within the limit end somewhere
pub some-limited : (o : Option Shape) → IsSome (limited o) → IsSome o
some-limited None h = h
some-limited (Some shape) h = refl

pub kept-push : (shapes : List (Option Shape)) (structs : List StructDef) (d : StructDef) (shape : Option Shape) (members : List (List ℕ × Ty)) → shapes ≡ kept_shapes (structs_view structs) → members ≡ d.members →
    shape ≡ limited (struct_shape (shapes_of (structs_view structs)) (map member_view members)) → shapes ++ shape ∷ [] ≡ kept_shapes (structs_view (structs ++ d ∷ []))
kept-push shapes structs d shape members e m s =
    (λ i. e i ++ (s ∙ ap (λ ms. limited (struct_shape (shapes_of (structs_view structs)) (map member_view ms))) m) i ∷ []) ∙ kept-more structs d

-- the lower structs have the same view among all
low-view : (structs : List StructDef) (k : ℕ) → structs_view (take k structs) ≡ take k (structs_view structs)
low-view structs k = sym (take-map struct_view k structs)

-- members end within the limit among all structs, where they do among the lower ones
pub whole-fits : (structs : List StructDef) (k : ℕ) (ms : List MemberData) → IsSome (limited (with_members (shapes_of (structs_view (take k structs))) no_members ms)) →
    IsSome (limited (with_members (shapes_of (structs_view structs)) no_members ms))
whole-fits structs k ms h =
    let low = subst (λ l. IsSome (limited (with_members (shapes_of l) no_members ms))) (low-view structs k) h in
    subst (λ (o : Option Shape). IsSome (limited o)) (sym (members-kept (structs_view structs) k no_members ms (some-limited (with_members (shapes_of (take k (structs_view structs))) no_members ms) low))) low

-- and the member of a name is found there
pub whole-found : (structs : List StructDef) (k : ℕ) (name : List ℕ) (ms : List MemberData) → IsSome (limited (with_members (shapes_of (structs_view (take k structs))) no_members ms)) →
    member_behind (shapes_of (structs_view structs)) no_members name ms ≡ member_behind (shapes_of (structs_view (take k structs))) no_members name ms
whole-found structs k name ms h =
    let low = subst (λ l. IsSome (limited (with_members (shapes_of l) no_members ms))) (low-view structs k) h in
    found-kept (structs_view structs) k no_members name ms (some-limited (with_members (shapes_of (take k (structs_view structs))) no_members ms) low)
    ∙ ap (λ l. member_behind (shapes_of l) no_members name ms) (sym (low-view structs k))
