-- Where the members of structs stand.
use Rattle.std.proofs.Common.{◌≡◌, ◌∙◌, ℕ, zero, suc, ◌+◌, ◌<◌, Bool, true, false, not, cond, nat_eq, nat_lt, List, [], ◌∷◌, ◌++◌, map, set, drop, length, Option, Some, None, IfSome, option_map, option_and_then, slice_get, if◌then◌else◌, nat_le, refl, sym, ap, subst, arith, add-one}
use Rattle.std.proofs.lemmas.Bool.Decides.{nat_tests}
use Rattle.std.specs.Cmp.Lexicographic.{pointwise}
use Rattle.std.specs.List.{position, position_or_len}
use Rattle.std.specs.Map.{keys_of}
use Rattle.ec_ctypes.specs.declared.types.ty.Ty.{Ty}
use Rattle.ec_ctypes.specs.declared.types.sizes.Shape.{Shape}
use Rattle.ec_ctypes.specs.trees.Types.{TyData, void, arithmetic, pointer, array, structure, MemberData}
use Rattle.ec_ctypes.specs.Layout.{no_members, repeated, with_member, offset_behind, shape_among, member_behind}
use Rattle.ec_known.proofs.Tables.{same_text_sym}
use Rattle.ec_language.specs.Letters.{Text, same_text}
use Rattle.ec_typing_defs.specs.Expressions.{Members, typed_members}
use Rattle.ec_typing_defs.specs.Tables.{Named}
use Rattle.ec_typing_defs.specs.Worlds.{MembersData, StructInfo, unlisted, begun, listed, max_size}
use Rattle.ec_scopes.specs.declared.measures.Measure.TheVariants.{Within, TooLarge}
use Rattle.ec_scopes.specs.declared.structs.StructRow.{StructRow}
use Rattle.ec_scopes.specs.Entries.{named_view, type_view}
use Rattle.ec_scopes.specs.Measures.{measured}
use Rattle.ec_scopes.specs.Offsets.{place_of, started, starts, offset_listed, offset_among, IsPlaced}
use Rattle.ec_scopes.specs.Structs.{members_view, listed_of, shapes_of, member_shape, members_or_none, members_in, IsStarted, IsKeptAt, AreStarted}
use Rattle.ec_scopes.proofs.Sizes.{member-shape, named-length}
use Rattle.ec_scopes.proofs.Tables.{Entries, row}

-- ---- the numbers of names

pub place-rows : {V : Type 0} (name : Text) (es : Entries V) → position (λ k. pointwise nat_eq name k.items) (keys_of es) ≡ place_of name (map row es)
place-rows name [] = refl
place-rows name (e ∷ es) = by (same_text name e.0.items) (position_or_len (λ k. pointwise nat_eq name k.items) (keys_of es)) (length (keys_of es)) (place_of name (map row es)) (place-rows name es)
  where
    more : (b : Bool) (n : ℕ) → cond b (Some (1 + n)) None ≡ option_map (λ i. suc i) (cond b (Some n) None)
    more true n = let e : 1 + n ≡ suc n = omega arith in λ i. Some (e i)
    more false n = refl

    later : (n l : ℕ) → nat_lt (1 + n) (suc l) ≡ nat_lt n l
    later n l = grind (arith, nat_tests)

    first : (l : ℕ) → nat_lt 0 (suc l) ≡ true
    first l = grind (arith, nat_tests)

    by : (b : Bool) (n l : ℕ) (o : Option ℕ) → cond (nat_lt n l) (Some n) None ≡ o → cond (nat_lt (cond (not b) (1 + n) 0) (suc l)) (Some (cond (not b) (1 + n) 0)) None ≡ (if b then Some 0 else option_map (λ i. suc i) o)
    by true n l o h = ap (λ t. cond t (Some 0) None) (first l)
    by false n l o h = ap (λ t. cond t (Some (1 + n)) None) (later n l) ∙ more (nat_lt n l) n ∙ ap (option_map (λ i. suc i)) h

pub place-view : {V W : Type 0} (f : V → W) (name : Text) (es : Named V) → place_of name (named_view f es) ≡ place_of name es
place-view f name [] = refl
place-view f name (e ∷ es) = ap (λ o. if same_text name e.0 then Some 0 else option_map (λ i. suc i) o) (place-view f name es)

-- ---- shapes that stay when others come

abbrev pub Extends : List (Option Shape) → List (Option Shape) → Type 0
Extends os qs = (t : TyData) (s : Shape) → shape_among os t ≡ Some s → shape_among qs t ≡ Some s

set-at : (os : List (Option Shape)) (j k : ℕ) (o : Option Shape) (s : Shape) → IfSome (slice_get os k) (λ x. x ≡ None) → option_and_then (λ s. s) (slice_get os j) ≡ Some s → option_and_then (λ s. s) (slice_get (set os k o) j) ≡ Some s
set-at [] j k o s n h = h
set-at (x ∷ xs) zero zero o s n h = cc
set-at (x ∷ xs) zero (suc k) o s n h = h
set-at (x ∷ xs) (suc j) zero o s n h = h
set-at (x ∷ xs) (suc j) (suc k) o s n h = set-at xs j k o s n h

pub set-extends : (os : List (Option Shape)) (k : ℕ) (o : Option Shape) → IfSome (slice_get os k) (λ x. x ≡ None) → Extends os (set os k o)
set-extends os k o n void s h = h
set-extends os k o n (arithmetic a) s h = h
set-extends os k o n (pointer t) s h = h
set-extends os k o n (array t zero) s h = h
set-extends os k o n (array t (suc c)) s h = by (shape_among os t) refl h (λ x. set-extends os k o n t x)
  where
    by : (p : Option Shape) → shape_among os t ≡ p → option_map (repeated (suc c)) p ≡ Some s → ((x : Shape) → shape_among os t ≡ Some x → shape_among (set os k o) t ≡ Some x)
        → option_map (repeated (suc c)) (shape_among (set os k o) t) ≡ Some s
    by None e h rest = cc
    by (Some x) e h rest = ap (option_map (repeated (suc c))) (rest x e) ∙ h
set-extends os k o n (structure j) s h = set-at os j k o s n h

starts-on : (os qs : List (Option Shape)) → Extends os qs → (used : ℕ) (ms : Members) → length (starts os used ms) ≡ length ms → starts qs used ms ≡ starts os used ms
starts-on os qs ext used [] h = refl
starts-on os qs ext used (m ∷ ms) h = by_type m.1 h (λ more. starts-on os qs ext more ms)
  where
    by_shape : (o p : Option Shape) → ((s : Shape) → o ≡ Some s → p ≡ Some s) → length (started used o (λ more. starts os more ms)) ≡ suc (length ms)
        → ((more : ℕ) → length (starts os more ms) ≡ length ms → starts qs more ms ≡ starts os more ms)
        → started used p (λ more. starts qs more ms) ≡ started used o (λ more. starts os more ms)
    by_shape None p e h rest = absurd (omega (arith, h))
    by_shape (Some s) p e h rest =
        ap (λ q. started used q (λ more. starts qs more ms)) (e s refl) ∙ ap (λ l. offset_behind used s ∷ l) (rest (offset_behind used s + s.size) (omega (arith, h)))

    by_type : (o : Option TyData) → length (started used (option_and_then (shape_among os) o) (λ more. starts os more ms)) ≡ suc (length ms)
        → ((more : ℕ) → length (starts os more ms) ≡ length ms → starts qs more ms ≡ starts os more ms)
        → started used (option_and_then (shape_among qs) o) (λ more. starts qs more ms) ≡ started used (option_and_then (shape_among os) o) (λ more. starts os more ms)
    by_type None h rest = refl
    by_type (Some t) h rest = by_shape (shape_among os t) (shape_among qs t) (λ s q. ext t s q) h rest

-- ---- offsets that are kept

pub started-on : (os qs : List (Option Shape)) → Extends os qs → (r : StructRow) → IsStarted os r → IsStarted qs r
started-on os qs ext r h whole = h whole ∙ sym (starts-on os qs ext 0 (members_in r) (ap length (sym (h whole)) ∙ whole))

pub all-on : (os qs : List (Option Shape)) → Extends os qs → (rows : List StructRow) → AreStarted os rows → AreStarted qs rows
all-on os qs ext [] all = tt
all-on os qs ext (r ∷ rs) all = (started-on os qs ext r all.0, all-on os qs ext rs all.1)

pub started-more : (os : List (Option Shape)) (rows : List StructRow) (r : StructRow) → AreStarted os rows → IsStarted os r → AreStarted os (rows ++ r ∷ [])
started-more os [] r all one = (one, tt)
started-more os (x ∷ xs) r all one = (all.0, started-more os xs r all.1 one)

pub started-set : (os : List (Option Shape)) (rows : List StructRow) (k : ℕ) (r : StructRow) → AreStarted os rows → IsStarted os r → AreStarted os (set rows k r)
started-set os [] k r all one = tt
started-set os (x ∷ xs) zero r all one = (one, all.1)
started-set os (x ∷ xs) (suc k) r all one = (all.0, started-set os xs k r all.1 one)

pub none-started : (os : List (Option Shape)) (ms : Members) → 0 ≡ length ms → [] ≡ starts os 0 ms
none-started os [] h = refl
none-started os (m ∷ ms) h = absurd (omega (arith, h))

pub blank-started : (os : List (Option Shape)) (r : StructRow) → r.offsets ≡ [] → IsStarted os r
blank-started os r e whole = e ∙ none-started os (members_in r) (sym (ap length e) ∙ whole)

pub started-at : (os : List (Option Shape)) (rows : List StructRow) (k : ℕ) (r : StructRow) → AreStarted os rows → slice_get rows k ≡ Some r → IsStarted os r
started-at os [] k r all e = cc
started-at os (x ∷ xs) zero r all e = let q : x ≡ r = cc in subst (λ y. IsStarted os y) q all.0
started-at os (x ∷ xs) (suc k) r all e = started-at os xs k r all.1 e

-- ---- one member after the other

pub some_shape : (o : Option Shape) (t : Shape) → Within t ≡ measured o → o ≡ Some t
some_shape None t h = cc
some_shape (Some s) t h = by (nat_le s.size max_size) h
  where
    by : (b : Bool) → Within t ≡ (if b then Within s else TooLarge) → Some s ≡ Some t
    by true e = cc
    by false e = cc

start-next : (is : List StructInfo) (used : ℕ) (ms : List (List ℕ × Option Ty)) (i : ℕ) → i < length ms
    → starts (shapes_of is) used (named_view type_view (drop i ms)) ≡ started used (member_shape is (option_map (λ e. e.1) (slice_get ms i))) (λ more. starts (shapes_of is) more (named_view type_view (drop (suc i) ms)))
start-next is used [] i h = absurd (omega (arith, h))
start-next is used (m ∷ ms) zero h = ap (λ o. started used o (λ more. starts (shapes_of is) more (named_view type_view ms))) (sym (member-shape is m.1))
start-next is used (m ∷ ms) (suc i) h = start-next is used ms i (omega (arith, h))

pub start-step : (is : List StructInfo) (used : ℕ) (place : ℕ × ℕ) (ms : List (List ℕ × Option Ty)) (i : ℕ) → i < length ms → IsPlaced used (member_shape is (option_map (λ e. e.1) (slice_get ms i))) place
    → starts (shapes_of is) used (named_view type_view (drop i ms)) ≡ place.0 ∷ starts (shapes_of is) place.1 (named_view type_view (drop (i + 1) ms))
start-step is used place ms i h p =
    start-next is used ms i h ∙ ap (λ o. started used o (λ more. starts (shapes_of is) more (named_view type_view (drop (suc i) ms)))) p.is
    ∙ (λ j. sym p.offset j ∷ starts (shapes_of is) (sym p.behind j) (named_view type_view (drop (sym (add-one i) j) ms)))

-- ---- the member of a name

typed-all : (os : List (Option Shape)) (used : ℕ) (ms : Members) → length (starts os used ms) ≡ length ms → (ds : List MemberData) × (typed_members ms ≡ Some ds)
typed-all os used [] h = ([], refl)
typed-all os used (m ∷ ms) h = by_type m.1 h (λ more. typed-all os more ms)
  where
    by_shape : (t : TyData) (o : Option Shape) → length (started used o (λ more. starts os more ms)) ≡ suc (length ms)
        → ((more : ℕ) → length (starts os more ms) ≡ length ms → (ds : List MemberData) × (typed_members ms ≡ Some ds))
        → (ds : List MemberData) × (option_and_then (λ more. Some ((m.0, t) ∷ more)) (typed_members ms) ≡ Some ds)
    by_shape t None h rest = absurd (omega (arith, h))
    by_shape t (Some s) h rest =
        let r = rest (offset_behind used s + s.size) (omega (arith, h)) in
        ((m.0, t) ∷ r.0, ap (option_and_then (λ more. Some ((m.0, t) ∷ more))) r.1)

    by_type : (o : Option TyData) → length (started used (option_and_then (shape_among os) o) (λ more. starts os more ms)) ≡ suc (length ms)
        → ((more : ℕ) → length (starts os more ms) ≡ length ms → (ds : List MemberData) × (typed_members ms ≡ Some ds))
        → (ds : List MemberData) × (elim o [ None ↦ None | Some t ↦ option_and_then (λ more. Some ((m.0, t) ∷ more)) (typed_members ms) ] ≡ Some ds)
    by_type None h rest = absurd (omega (arith, h))
    by_type (Some t) h rest = by_shape t (shape_among os t) h rest

-- the offset among members that all have types, behind others
abbrev pub over : List (Option Shape) → Shape → Text → Option (List MemberData) → Option ℕ
over os before name l = option_and_then (λ ds. option_map (λ d. d.0) (member_behind os before name ds)) l

-- the same of the members that are left behind a first one
abbrev Rest : List (Option Shape) → Shape → Text → Members → ℕ → Type 0
Rest os before name ms o = (s : Shape) (i : ℕ) → length (starts os (with_member before s).size ms) ≡ length ms → place_of name ms ≡ Some i → slice_get (starts os (with_member before s).size ms) i ≡ Some o
    → over os (with_member before s) name (typed_members ms) ≡ Some o

pub offset-found : (os : List (Option Shape)) (before : Shape) (name : Text) (ms : Members) (i o : ℕ) → length (starts os before.size ms) ≡ length ms → place_of name ms ≡ Some i → slice_get (starts os before.size ms) i ≡ Some o
    → over os before name (typed_members ms) ≡ Some o
offset-found os before name [] i o full p g = cc
offset-found os before name (m ∷ ms) i o full p g = by_type m.1 full g (λ s j. offset-found os (with_member before s) name ms j o)
  where
    by_place : (s : Shape) (ds : List MemberData) (q : Option ℕ) → typed_members ms ≡ Some ds → length (starts os (with_member before s).size ms) ≡ length ms → place_of name ms ≡ q → option_map (λ i. suc i) q ≡ Some i
        → slice_get (offset_behind before.size s ∷ starts os (with_member before s).size ms) i ≡ Some o → Rest os before name ms o → option_map (λ d. d.0) (member_behind os (with_member before s) name ds) ≡ Some o
    by_place s ds None d full e p g rest = cc
    by_place s ds (Some j) d full e p g rest =
        let q : suc j ≡ i = cc in
        sym (ap (over os (with_member before s) name) d) ∙ rest s j full e (ap (slice_get (offset_behind before.size s ∷ starts os (with_member before s).size ms)) q ∙ g)

    by_name : (t : TyData) (s : Shape) (ds : List MemberData) (b : Bool) → typed_members ms ≡ Some ds → same_text m.0 name ≡ b → length (starts os (with_member before s).size ms) ≡ length ms
        → (if b then Some 0 else option_map (λ i. suc i) (place_of name ms)) ≡ Some i → slice_get (offset_behind before.size s ∷ starts os (with_member before s).size ms) i ≡ Some o
        → Rest os before name ms o → option_map (λ d. d.0) (if b then Some (offset_behind before.size s, t) else member_behind os (with_member before s) name ds) ≡ Some o
    by_name t s ds true d e full p g rest = let q : 0 ≡ i = cc in ap (slice_get (offset_behind before.size s ∷ starts os (with_member before s).size ms)) q ∙ g
    by_name t s ds false d e full p g rest = by_place s ds (place_of name ms) d full refl p g rest

    by_shape : (t : TyData) (ds : List MemberData) (q : Option Shape) → typed_members ms ≡ Some ds → length (started before.size q (λ more. starts os more ms)) ≡ suc (length ms)
        → slice_get (started before.size q (λ more. starts os more ms)) i ≡ Some o
        → Rest os before name ms o → option_map (λ d. d.0) (option_and_then (λ member. if same_text m.0 name then Some (offset_behind before.size member, t) else member_behind os (with_member before member) name ds) q) ≡ Some o
    by_shape t ds None d full g rest = absurd (omega (arith, full))
    by_shape t ds (Some s) d full g rest =
        by_name t s ds (same_text m.0 name) d refl (omega (arith, full)) (ap (λ b. if b then Some 0 else option_map (λ i. suc i) (place_of name ms)) (same_text_sym m.0 name) ∙ p) g rest

    by_typed : (t : TyData) → (ds : List MemberData) × (typed_members ms ≡ Some ds) → length (started before.size (shape_among os t) (λ more. starts os more ms)) ≡ suc (length ms)
        → slice_get (started before.size (shape_among os t) (λ more. starts os more ms)) i ≡ Some o
        → Rest os before name ms o → over os before name (option_and_then (λ more. Some ((m.0, t) ∷ more)) (typed_members ms)) ≡ Some o
    by_typed t r full g rest = ap (λ l. over os before name (option_and_then (λ more. Some ((m.0, t) ∷ more)) l)) r.1 ∙ by_shape t r.0 (shape_among os t) r.1 full g rest

    typed_rest : (q : Option Shape) → length (started before.size q (λ more. starts os more ms)) ≡ suc (length ms) → (ds : List MemberData) × (typed_members ms ≡ Some ds)
    typed_rest None full = absurd (omega (arith, full))
    typed_rest (Some s) full = typed-all os (with_member before s).size ms (omega (arith, full))

    by_type : (u : Option TyData) → length (started before.size (option_and_then (shape_among os) u) (λ more. starts os more ms)) ≡ suc (length ms)
        → slice_get (started before.size (option_and_then (shape_among os) u) (λ more. starts os more ms)) i ≡ Some o
        → Rest os before name ms o → over os before name (elim u [ None ↦ None | Some t ↦ option_and_then (λ more. Some ((m.0, t) ∷ more)) (typed_members ms) ]) ≡ Some o
    by_type None full g rest = absurd (omega (arith, full))
    by_type (Some t) full g rest = by_typed t (typed_rest (shape_among os t) full) full g rest

as_listed : (os : List (Option Shape)) (name : Text) (m : MembersData) (ms : Members) → listed_of m ≡ Some ms → offset_among os name (Some m) ≡ offset_listed os name ms
as_listed os name unlisted ms h = cc
as_listed os name begun ms h = cc
as_listed os name (listed l) ms h = let q : l ≡ ms = cc in ap (offset_listed os name) q

-- what is kept of a member is where it stands
pub kept-at : (os : List (Option Shape)) (row : StructRow) (name : Text) (offset : ℕ) → IsStarted os row → IsKeptAt row name offset → offset_among os name (Some (members_view row.members)) ≡ Some offset
kept-at os row name offset started k =
    let own = ap members_or_none k.lists in
    let here = started (k.whole ∙ ap length (sym own)) ∙ ap (starts os 0) own in
    as_listed os name (members_view row.members) k.members k.lists
    ∙ offset-found os no_members name k.members k.number offset (ap length (sym here) ∙ k.whole) k.named (ap (λ l. slice_get l k.number) (sym here) ∙ k.kept)

-- what is read of a struct
pub row-kept : (row : StructRow) (name : Text) (ms : List (List ℕ × Option Ty)) (i : ℕ) (o : Option ℕ) → listed_of (members_view row.members) ≡ Some (named_view type_view ms) → length row.offsets ≡ length ms
    → Some i ≡ place_of name ms → o ≡ slice_get row.offsets i → IfSome o (IsKeptAt row name)
row-kept row name ms i None lists whole named kept = tt
row-kept row name ms i (Some offset) lists whole named kept =
    record { members = named_view type_view ms; number = i; lists = lists; whole = whole ∙ sym (named-length ms); named = place-view type_view name ms ∙ sym named; kept = sym kept }
