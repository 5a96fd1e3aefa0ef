-- Sizes of types, structs and members.
use Rattle.std.proofs.Common.{◌≡◌, ◌∙◌, ℕ, zero, suc, ◌+◌, ◌<◌, Bool, true, false, List, [], ◌∷◌, map, drop, length, Option, Some, None, option_map, option_and_then, slice_get, nat_le, if◌then◌else◌, refl, sym, ap, subst, arith, add-one, ◌&&◌}
use Rattle.std.proofs.lemmas.Option.{slice_get-map}
use Rattle.ec_ctypes.specs.declared.types.ty.Ty.{Ty}
use Rattle.ec_ctypes.specs.declared.types.sizes.Shape.{Shape}
use Rattle.ec_ctypes.specs.declared.types.ty.Ty.TheViews.{Array}
use Rattle.ec_ctypes.specs.views.Types.{ty_view}
use Rattle.ec_ctypes.proofs.Shapes.{view-Array}
use Rattle.ec_ctypes.specs.trees.Types.{TyData, array, structure, MemberData}
use Rattle.ec_ctypes.specs.Layout.{with_member, no_members, with_members, shape_among, struct_shape}
use Rattle.ec_typing_defs.specs.Worlds.{StructInfo, is_within, max_size}
use Rattle.ec_typing_defs.specs.Expressions.{typed_members}
use Rattle.ec_typing_defs.specs.Expressions as rule
use Rattle.ec_scopes.specs.declared.measures.Measure.{Measure}
use Rattle.ec_scopes.specs.declared.measures.Measure.TheVariants.{Unknown, Within, TooLarge}
use Rattle.ec_scopes.specs.declared.structs.StructRow.{StructRow}
use Rattle.ec_scopes.specs.Entries.{type_view, named_view}
use Rattle.ec_scopes.specs.Measures.{measured, rounded, joined_shape, is_small, IsSmallMeasure}
use Rattle.ec_scopes.specs.Structs.{shapes_of, shape_by, infos, measure_in, member_shape, arrays_within_in, IsKept, AreSmall}

pub small_within : (o : Option Shape) → is_within o ≡ is_small (measured o)
small_within None = refl
small_within (Some s) = by (nat_le s.size max_size)
  where
    by : (b : Bool) → b ≡ is_small (if b then Within s else TooLarge)
    by true = refl
    by false = refl

abbrev pub or_unknown : Option Measure → Measure
or_unknown None = Unknown
or_unknown (Some m) = m

measured-at : (os : List (Option Shape)) (k : ℕ) → measured (option_and_then (λ s. s) (slice_get os k)) ≡ or_unknown (slice_get (map measured os) k)
measured-at [] k = refl
measured-at (o ∷ os) zero = refl
measured-at (o ∷ os) (suc k) = measured-at os k

measured-map : (is : List StructInfo) → map measured (shapes_of is) ≡ map (λ s. measured s.shape) is
measured-map [] = refl
measured-map (s ∷ ss) = ap (λ l. measured s.shape ∷ l) (measured-map ss)

-- what is known of the size of a struct is what is kept of it
pub struct-measure : (rows : List StructRow) (ks : List ℕ) (k : ℕ) → IsKept rows ks → or_unknown (option_map (λ r. r.measure) (slice_get rows k)) ≡ measure_in (infos rows ks) (structure k)
struct-measure rows ks k kept =
    ap or_unknown (sym (slice_get-map (λ r. r.measure) rows k) ∙ ap (λ l. slice_get l k) (kept.measures ∙ sym (measured-map (infos rows ks))))
    ∙ sym (measured-at (shapes_of (infos rows ks)) k)

pub small-at : (rows : List StructRow) (k : ℕ) (r : StructRow) → AreSmall rows → slice_get rows k ≡ Some r → IsSmallMeasure r.measure
small-at [] k r all e = cc
small-at (x ∷ xs) zero r all e = let q : x ≡ r = cc in subst (λ (y : StructRow). IsSmallMeasure y.measure) q all.0
small-at (x ∷ xs) (suc k) r all e = small-at xs k r all.1 e

-- members one after the other
abbrev pub walked : List (Option Shape) → Option Shape → rule.Members → Option Shape
walked os o [] = o
walked os o (m ∷ ms) = walked os (joined_shape o (option_and_then (shape_among os) m.1)) ms

walked-none : (os : List (Option Shape)) (ms : rule.Members) → walked os None ms ≡ None
walked-none os [] = refl
walked-none os (m ∷ ms) = walked-none os ms

typed-walked : (os : List (Option Shape)) (before : Shape) (ms : rule.Members) → option_and_then (with_members os before) (typed_members ms) ≡ walked os (Some before) ms
typed-walked os before [] = refl
typed-walked os before (m ∷ ms) = by_type m.1 (λ b. typed-walked os b ms)
  where
    by_shape : (t : TyData) (s : Option Shape) (l : Option (List MemberData)) → ((b : Shape) → option_and_then (with_members os b) l ≡ walked os (Some b) ms)
        → option_and_then (λ all. option_and_then (λ member. with_members os (with_member before member) all) s) l ≡ walked os (option_map (with_member before) s) ms
    by_shape t None None rest = sym (walked-none os ms)
    by_shape t None (Some all) rest = sym (walked-none os ms)
    by_shape t (Some s) None rest = rest (with_member before s)
    by_shape t (Some s) (Some all) rest = rest (with_member before s)

    flat : (t : TyData) (l : Option (List MemberData)) → option_and_then (with_members os before) (option_and_then (λ more. Some ((m.0, t) ∷ more)) l) ≡ option_and_then (λ all. option_and_then (λ member. with_members os (with_member before member) all) (shape_among os t)) l
    flat t None = refl
    flat t (Some all) = refl

    by_type : (o : Option TyData) → ((b : Shape) → option_and_then (with_members os b) (typed_members ms) ≡ walked os (Some b) ms)
        → option_and_then (with_members os before) (elim o [ None ↦ None | Some t ↦ option_and_then (λ more. Some ((m.0, t) ∷ more)) (typed_members ms) ]) ≡ walked os (joined_shape (Some before) (option_and_then (shape_among os) o)) ms
    by_type None rest = sym (walked-none os ms)
    by_type (Some t) rest = flat t (typed_members ms) ∙ by_shape t (shape_among os t) (typed_members ms) rest

-- the shape of a struct by its members one after the other
pub shape-walked : (is : List StructInfo) (ms : rule.Members) → 0 < length ms → shape_by is ms ≡ option_map rounded (walked (shapes_of is) (Some no_members) ms)
shape-walked is [] h = absurd (omega (arith, h))
shape-walked is (m ∷ ms) h = by_type m.1 ∙ ap (option_map rounded) (typed-walked (shapes_of is) no_members (m ∷ ms))
  where
    more : (t : TyData) (l : Option (List MemberData)) → option_and_then (struct_shape (shapes_of is)) (option_and_then (λ more. Some ((m.0, t) ∷ more)) l)
        ≡ option_map rounded (option_and_then (with_members (shapes_of is) no_members) (option_and_then (λ more. Some ((m.0, t) ∷ more)) l))
    more t None = refl
    more t (Some all) = refl

    by_type : (o : Option TyData) → option_and_then (struct_shape (shapes_of is)) (elim o [ None ↦ None | Some t ↦ option_and_then (λ more. Some ((m.0, t) ∷ more)) (typed_members ms) ])
        ≡ option_map rounded (option_and_then (with_members (shapes_of is) no_members) (elim o [ None ↦ None | Some t ↦ option_and_then (λ more. Some ((m.0, t) ∷ more)) (typed_members ms) ]))
    by_type None = refl
    by_type (Some t) = more t (typed_members ms)

pub member-shape : (is : List StructInfo) (o : Option Ty) → member_shape is (Some o) ≡ option_and_then (shape_among (shapes_of is)) (type_view o)
member-shape is None = refl
member-shape is (Some t) = refl

-- an array is no larger than the limit, and nor are its elements
pub arrays-step : (is : List StructInfo) (ty : Ty) (of : Ty) (n : ℕ) (small : Bool) (m : Measure) → ty ≡ Array of n → m ≡ measure_in is (ty_view ty) → small ≡ is_small m
    → arrays_within_in is (ty_view ty) ≡ small && arrays_within_in is (ty_view of)
arrays-step is ty of n small m e h s =
    let v = ap ty_view e ∙ view-Array of n in
    ap (arrays_within_in is) v ∙ ap (λ b. b && arrays_within_in is (ty_view of)) (small_within (shape_among (shapes_of is) (array (ty_view of) n)) ∙ ap is_small (ap (measure_in is) (sym v) ∙ sym h) ∙ sym s)

drop-walked : (os : List (Option Shape)) (o : Option Shape) (ms : List (List ℕ × Option Ty)) (i : ℕ) (e : List ℕ × Option Ty) → slice_get ms i ≡ Some e
    → walked os o (named_view type_view (drop i ms)) ≡ walked os (joined_shape o (option_and_then (shape_among os) (type_view e.1))) (named_view type_view (drop (suc i) ms))
drop-walked os o [] i e h = cc
drop-walked os o (m ∷ ms) zero e h = let q : m ≡ e = cc in ap (λ x. walked os (joined_shape o (option_and_then (shape_among os) (type_view x.1))) (named_view type_view ms)) q
drop-walked os o (m ∷ ms) (suc i) e h = drop-walked os o ms i e h

got : {A : Type 0} (xs : List A) (i : ℕ) → i < length xs → (x : A) × (slice_get xs i ≡ Some x)
got [] i h = absurd (omega (arith, h))
got (x ∷ xs) zero h = (x, refl)
got (x ∷ xs) (suc i) h = got xs i (omega (arith, h))

-- one member more
pub walk-step : (is : List StructInfo) (o : Option Shape) (ms : List (List ℕ × Option Ty)) (i : ℕ) → i < length ms
    → walked (shapes_of is) o (named_view type_view (drop i ms)) ≡ walked (shapes_of is) (joined_shape o (member_shape is (option_map (λ e. e.1) (slice_get ms i)))) (named_view type_view (drop (i + 1) ms))
walk-step is o ms i h =
    let x = got ms i h in
    drop-walked (shapes_of is) o ms i x.0 x.1
    ∙ ap (λ p. walked (shapes_of is) (joined_shape o p) (named_view type_view (drop (suc i) ms))) (sym (member-shape is x.0.1))
    ∙ ap (λ e. walked (shapes_of is) (joined_shape o (member_shape is (option_map (λ e. e.1) e))) (named_view type_view (drop (suc i) ms))) (sym x.1)
    ∙ ap (λ n. walked (shapes_of is) (joined_shape o (member_shape is (option_map (λ e. e.1) (slice_get ms i)))) (named_view type_view (drop n ms))) (sym (add-one i))

pub named-length : (ms : List (List ℕ × Option Ty)) → length (named_view type_view ms) ≡ length ms
named-length [] = refl
named-length (m ∷ ms) = ap suc (named-length ms)
