-- Shapes: what each of them keeps, and how the list of them is read.
use Rattle.std.proofs.Common.{◌≡◌, ℕ, zero, suc, ◌+◌, ◌*◌, ◌<◌, ◌≤◌, List, [], ◌∷◌, ◌++◌, map, length, take, drop, get_or, length-append, drop-cons, add-one, ◌≢◌, IsSome, IfSome, Option, Some, None, option_map, option_and_then, slice_get, refl, sym, ap, ◌∙◌, arith, rules}
use Rattle.std.specs.Int.{next_multiple_of}
use Rattle.std.proofs.lemmas.Grind.{common_steps}
use Rattle.std.proofs.lemmas.Bool.Decides.{nat_tests}
use Rattle.std.proofs.lemmas.Option.{slice_get-map, slice_get_past, slice_get_read}
use Rattle.std.proofs.lemmas.List.{take-map}
use Rattle.ec_ctypes.specs.declared.types.arith.Arith.TheVariants.{Bool, Char, UChar, Short, UShort, Int, UInt, Long, ULong, LLong, ULLong}
use Rattle.ec_ctypes.specs.declared.types.sizes.Shape.{Shape}
use Rattle.ec_ctypes.specs.declared.types.ty.Ty.{Ty, the_lemmas}
use Rattle.ec_ctypes.specs.declared.types.ty.Ty.TheViews.{Array}
use Rattle.ec_ctypes.specs.views.Types.{ty_view, member_view, struct_view, structs_view}
use Rattle.ec_ctypes.specs.declared.types.ty.StructDef.{StructDef}
use Rattle.ec_ctypes.specs.trees.Types.{TyData, void, arithmetic, pointer, array, structure, MemberData, StructData}
use Rattle.ec_ctypes.specs.Layout.{repeated, with_member, no_members, with_members, shape_among, struct_shape, shapes_behind, shapes_of, shape_of, member_behind, member_of, limited}

-- a shape takes a byte or more, and is aligned to at most 8
pub record IsSound (shape : Shape) : Type 0 where
  pub size : 0 < shape.size
  pub positive : 0 < shape.align
  pub align : shape.align ≤ 8

-- each shape of the list is sound
abbrev pub AreSound : List (Option Shape) → Type 0
AreSound [] = Unit {0}
AreSound (o ∷ os) = IfSome o IsSound × AreSound os

-- one more keeps the list sound
AreSound-more : (os : List (Option Shape)) (o : Option Shape) → AreSound os → IfSome o IsSound → AreSound (os ++ o ∷ [])
AreSound-more [] o all one = (one, tt)
AreSound-more (x ∷ xs) o all one = (all.0, AreSound-more xs o all.1 one)

-- the shape of this number is sound
AreSound-at : (os : List (Option Shape)) (k : ℕ) → AreSound os → IfSome (option_and_then (λ shape. shape) (slice_get os k)) IsSound
AreSound-at [] k all = tt
AreSound-at (o ∷ os) zero all = all.0
AreSound-at (o ∷ os) (suc k) all = AreSound-at os k all.1

-- many of a sound shape are sound
IsSound-repeated : (n : ℕ) (o : Option Shape) → IfSome o IsSound → IfSome (option_map (repeated (suc n)) o) IsSound
IsSound-repeated n None one = tt
IsSound-repeated n (Some shape) one = record { size = grind (arith, one.size); positive = one.positive; align = one.align }

-- the shape of a type is sound where those of the structs are
IsSound-among : (os : List (Option Shape)) → AreSound os → (ty : TyData) → IfSome (shape_among os ty) IsSound
IsSound-among os all void = tt
IsSound-among os all (arithmetic Bool) = record { size = omega arith; positive = omega arith; align = omega arith }
IsSound-among os all (arithmetic Char) = record { size = omega arith; positive = omega arith; align = omega arith }
IsSound-among os all (arithmetic UChar) = record { size = omega arith; positive = omega arith; align = omega arith }
IsSound-among os all (arithmetic Short) = record { size = omega arith; positive = omega arith; align = omega arith }
IsSound-among os all (arithmetic UShort) = record { size = omega arith; positive = omega arith; align = omega arith }
IsSound-among os all (arithmetic Int) = record { size = omega arith; positive = omega arith; align = omega arith }
IsSound-among os all (arithmetic UInt) = record { size = omega arith; positive = omega arith; align = omega arith }
IsSound-among os all (arithmetic Long) = record { size = omega arith; positive = omega arith; align = omega arith }
IsSound-among os all (arithmetic ULong) = record { size = omega arith; positive = omega arith; align = omega arith }
IsSound-among os all (arithmetic LLong) = record { size = omega arith; positive = omega arith; align = omega arith }
IsSound-among os all (arithmetic ULLong) = record { size = omega arith; positive = omega arith; align = omega arith }
IsSound-among os all (pointer ty) = record { size = omega arith; positive = omega arith; align = omega arith }
IsSound-among os all (array ty zero) = tt
IsSound-among os all (array ty (suc n)) = IsSound-repeated n (shape_among os ty) (IsSound-among os all ty)
IsSound-among os all (structure k) = AreSound-at os k all

-- members end no earlier than the members before them, and keep the alignment within its bounds
pub record IsAfter (before all : Shape) : Type 0 where
  pub size : before.size ≤ all.size
  pub positive : 0 < all.align
  pub align : all.align ≤ 8

-- one more member
IsAfter-member : (before member : Shape) → 0 < before.align → before.align ≤ 8 → IsSound member → IsAfter before (with_member before member)
IsAfter-member before member low high one =
    record { size = grind (arith, common_steps); positive = omega (arith, one.positive); align = omega (arith, one.align) }

IsAfter-step : (before member all : Shape) → IsAfter before member → IsAfter member all → IsAfter before all
IsAfter-step before member all p q = record { size = omega (arith, p.size, q.size); positive = q.positive; align = q.align }

-- a fact about a shape, weakened
IfSome-weaken : {P Q : Shape → Type 0} (o : Option Shape) → IfSome o P → ((shape : Shape) → P shape → Q shape) → IfSome o Q
IfSome-weaken None p f = tt
IfSome-weaken (Some shape) p f = f shape p

-- one more member, and then the rest
IsAfter-next : (os : List (Option Shape)) (ms : List MemberData) → ((b : Shape) → 0 < b.align → b.align ≤ 8 → IfSome (with_members os b ms) (IsAfter b)) →
    (before : Shape) (o : Option Shape) → IfSome o IsSound → 0 < before.align → before.align ≤ 8 →
    IfSome (option_and_then (λ member. with_members os (with_member before member) ms) o) (IsAfter before)
IsAfter-next os ms rest before None one low high = tt
IsAfter-next os ms rest before (Some member) one low high =
    let first = IsAfter-member before member low high one in
    IfSome-weaken (with_members os (with_member before member) ms) (rest (with_member before member) first.positive first.align) (λ all q. IsAfter-step before (with_member before member) all first q)

-- and then these members
pub IsAfter-members : (os : List (Option Shape)) → AreSound os → (ms : List MemberData) (before : Shape) → 0 < before.align → before.align ≤ 8 → IfSome (with_members os before ms) (IsAfter before)
IsAfter-members os all [] before low high = record { size = omega arith; positive = low; align = high }
IsAfter-members os all (m ∷ ms) before low high =
    IsAfter-next os ms (IsAfter-members os all ms) before (shape_among os m.1) (IsSound-among os all m.1) low high

-- a rounded size is no smaller
round_up : (n m : ℕ) → n ≤ next_multiple_of n m
round_up n m = omega arith

-- the size behind the first member
first_size : (member : Shape) → IsSound member → 0 < (with_member no_members member).size
first_size member one = omega (arith, one.size)

-- members behind some bytes, rounded
rounded : (o : Option Shape) (before : Shape) → 0 < before.size → IfSome o (IsAfter before) →
    IfSome (option_map (λ all. record { size = next_multiple_of all.size all.align; align = all.align }) o) IsSound
rounded None before h after = tt
rounded (Some all) before h after = record { size = omega (arith, round_up all.size all.align, after.size, h); positive = after.positive; align = after.align }

-- the members of a struct, of which the first is `o`
IsSound-members : (os : List (Option Shape)) → AreSound os → (ms : List MemberData) (o : Option Shape) → IfSome o IsSound →
    IfSome (option_map (λ all. record { size = next_multiple_of all.size all.align; align = all.align }) (option_and_then (λ member. with_members os (with_member no_members member) ms) o)) IsSound
IsSound-members os all ms None one = tt
IsSound-members os all ms (Some member) one =
    let first = IsAfter-member no_members member (omega arith) (omega arith) one in
    rounded (with_members os (with_member no_members member) ms) (with_member no_members member) (first_size member one) (IsAfter-members os all ms (with_member no_members member) first.positive first.align)

-- the shape of a struct is sound
IsSound-struct : (os : List (Option Shape)) → AreSound os → (ms : List MemberData) → IfSome (struct_shape os ms) IsSound
IsSound-struct os all [] = tt
IsSound-struct os all (m ∷ ms) = IsSound-members os all ms (shape_among os m.1) (IsSound-among os all m.1)

-- the shapes of all structs are sound
AreSound-behind : (ds : List StructData) (os : List (Option Shape)) → AreSound os → AreSound (shapes_behind os ds)
AreSound-behind [] os all = all
AreSound-behind (d ∷ ds) os all = AreSound-behind ds (os ++ struct_shape os d.members ∷ []) (AreSound-more os _ all (IsSound-struct os all d.members))

pub AreSound-of : (ds : List StructData) → AreSound (shapes_of ds)
AreSound-of ds = AreSound-behind ds [] tt

-- every complete type takes a byte or more, and is aligned to at most 8
pub IsSound-of : (ds : List StructData) (ty : TyData) → IfSome (shape_of ds ty) IsSound
IsSound-of ds ty = IsSound-among (shapes_of ds) (AreSound-of ds) ty

-- what stands in a list stays where more is put behind it
slice_get-kept : {X : Type 0} (xs ys : List X) (k : ℕ) → k < length xs → slice_get (xs ++ ys) k ≡ slice_get xs k
slice_get-kept [] ys k h = absurd (omega (arith, h))
slice_get-kept (x ∷ xs) ys zero h = refl
slice_get-kept (x ∷ xs) ys (suc k) h = slice_get-kept xs ys k (omega (arith, h))

-- what stands behind a list
slice_get-seam : {X : Type 0} (xs : List X) (y : X) → slice_get (xs ++ y ∷ []) (length xs) ≡ Some y
slice_get-seam [] y = refl
slice_get-seam (x ∷ xs) y = slice_get-seam xs y

-- the shapes that are known already stay
behind-kept : (ds : List StructData) (os : List (Option Shape)) (k : ℕ) → k < length os → slice_get (shapes_behind os ds) k ≡ slice_get os k
behind-kept [] os k h = refl
behind-kept (d ∷ ds) os k h =
    let more = struct_shape os d.members ∷ [] in
    behind-kept ds (os ++ more) k (omega (arith, length-append os more, h)) ∙ slice_get-kept os more k h

-- each further one is over those before it
behind-at : (ds : List StructData) (os : List (Option Shape)) (k : ℕ) →
    slice_get (shapes_behind os ds) (length os + k) ≡ option_map (λ d. struct_shape (shapes_behind os (take k ds)) d.members) (slice_get ds k)
behind-at [] os k = slice_get_past os (length os + k) (omega arith)
behind-at (d ∷ ds) os zero =
    let more = struct_shape os d.members ∷ [] in
    ap (slice_get (shapes_behind (os ++ more) ds)) (omega arith) ∙ behind-kept ds (os ++ more) (length os) (omega (arith, length-append os more)) ∙ slice_get-seam os (struct_shape os d.members)
behind-at (d ∷ ds) os (suc k) =
    let more = struct_shape os d.members ∷ [] in
    ap (slice_get (shapes_behind (os ++ more) ds)) (omega (arith, length-append os more)) ∙ behind-at ds (os ++ more) k

-- the shape of a struct is that of its members among the structs before it
pub shape-structure : (ds : List StructData) (k : ℕ) →
    shape_of ds (structure k) ≡ option_and_then (λ d. struct_shape (shapes_of (take k ds)) d.members) (slice_get ds k)
shape-structure ds k = ap (option_and_then (λ shape. shape)) (ap (slice_get (shapes_of ds)) (omega arith) ∙ behind-at ds [] k) ∙ flat (slice_get ds k)
  where
    flat : (o : Option StructData) → option_and_then (λ shape. shape) (option_map (λ d. struct_shape (shapes_of (take k ds)) d.members) o) ≡ option_and_then (λ d. struct_shape (shapes_of (take k ds)) d.members) o
    flat None = refl
    flat (Some d) = refl

-- a shape above the limit
pub above : (o : Option Shape) → IfSome o (λ shape. 16777216 < shape.size) → limited o ≡ None
above None h = refl
above (Some shape) h = grind (arith, nat_tests, h)

-- no shape within the limit
pub above-back : (o : Option Shape) → limited o ≡ None → IfSome o (λ shape. 16777216 < shape.size)
above-back None e = tt
above-back (Some shape) e = grind (arith, nat_tests, e)

-- a shape within the limit
pub within-back : (o : Option Shape) (shape : Shape) → Some shape ≡ limited o → o ≡ Some shape
within-back None shape e = cc
within-back (Some other) shape e = grind (arith, nat_tests, e)

-- more of a sound shape than the limit has bytes
too_many : (n size : ℕ) → 0 < size → 16777216 < n → 16777216 < n * size
too_many n size h k = grind (arith, h, k)

-- many of more bytes than the limit
pub too_large : (n size : ℕ) → 0 < n → 16777216 < size → 16777216 < n * size
too_large n size h k = grind (arith, h, k)

-- many of many
repeated-twice : (a b : ℕ) (o : Option Shape) → option_map (repeated a) (option_map (repeated b) o) ≡ option_map (repeated (a * b)) o
repeated-twice a b None = refl
repeated-twice a b (Some shape) = ap (λ n. Some (record { size = n; align = shape.align })) (omega arith)

-- an array of one element or more
array-shape : (ds : List StructData) (ty : TyData) (n : ℕ) → 0 < n → shape_of ds (array ty n) ≡ option_map (repeated n) (shape_of ds ty)
array-shape ds ty zero h = absurd (omega (arith, h))
array-shape ds ty (suc n) h = refl

-- the elements of elements that are arrays
pub rows : (ds : List StructData) (whole : Option Shape) (ty : TyData) (count more : ℕ) → whole ≡ option_map (repeated count) (shape_of ds (array ty more)) → 0 < more →
    whole ≡ option_map (repeated (count * more)) (shape_of ds ty)
rows ds whole ty count more e h = e ∙ ap (option_map (repeated count)) (array-shape ds ty more h) ∙ repeated-twice count more (shape_of ds ty)

-- so many elements are above the limit
above-many : (n : ℕ) (o : Option Shape) → IfSome o IsSound → 16777216 < n → limited (option_map (repeated n) o) ≡ None
above-many n None one h = refl
above-many n (Some shape) one h = above (Some (repeated n shape)) (too_many n shape.size one.size h)

-- too many elements, or an array without a length
pub no_room : (ds : List StructData) (whole : Option Shape) (ty : TyData) (count more : ℕ) → whole ≡ option_map (repeated count) (shape_of ds (array ty more)) → (0 < more → 16777216 < count * more) →
    limited whole ≡ None
no_room ds whole ty count zero e h = ap limited e
no_room ds whole ty count (suc n) e h =
    ap limited (rows ds whole ty count (suc n) e (omega arith)) ∙ above-many (count * suc n) (shape_of ds ty) (IsSound-of ds ty) (h (omega arith))

-- the elements are above the limit, or have no shape
pub no_element : (count : ℕ) (o : Option Shape) → 0 < count → limited o ≡ None → limited (option_map (repeated count) o) ≡ None
no_element count None h e = refl
no_element count (Some shape) h e = above (Some (repeated count shape)) (too_large count shape.size h (above-back (Some shape) e))

-- the data of an array
pub view-Array : (inner : Ty) (n : ℕ) → ty_view (Array inner n) ≡ array (ty_view inner) n
view-Array inner n = search (rules, the_lemmas)

-- the data of what is left, where that is an array
pub left-Array : (ds : List StructData) (whole : Option Shape) (count more : ℕ) (element inner : Ty) → whole ≡ option_map (repeated count) (shape_of ds (ty_view element)) → element ≡ Array inner more →
    whole ≡ option_map (repeated count) (shape_of ds (array (ty_view inner) more))
left-Array ds whole count more element inner e is =
    e ∙ ap (λ t. option_map (repeated count) (shape_of ds (ty_view t))) is ∙ ap (λ t. option_map (repeated count) (shape_of ds t)) (view-Array inner more)

-- where the first members are above the limit or have no shape, so are all
pub members-stop : (ds : List StructData) (ms : List MemberData) (before : Shape) (o : Option Shape) → IfSome o IsSound → 0 < before.align → before.align ≤ 8 →
    limited (option_and_then (λ member. Some (with_member before member)) o) ≡ None →
    limited (option_and_then (λ member. with_members (shapes_of ds) (with_member before member) ms) o) ≡ None
members-stop ds ms before None one low high e = refl
members-stop ds ms before (Some member) one low high e =
    let first = IsAfter-member before member low high one in
    let all = with_members (shapes_of ds) (with_member before member) ms in
    above all
    (IfSome-weaken all (IsAfter-members (shapes_of ds) (AreSound-of ds) ms (with_member before member) first.positive first.align)
    (λ shape q. later (with_member before member) shape (above-back (Some (with_member before member)) e) q))
  where
    later : (before all : Shape) → 16777216 < before.size → IsAfter before all → 16777216 < all.size
    later before all h q = omega (arith, h, q.size)

-- a member alone is above the limit, or has no shape
pub member-stop : (before : Shape) (o : Option Shape) → limited o ≡ None → limited (option_and_then (λ member. Some (with_member before member)) o) ≡ None
member-stop before None e = refl
member-stop before (Some member) e = above (Some (with_member before member)) (later (above-back (Some member) e))
  where
    later : 16777216 < member.size → 16777216 < (with_member before member).size
    later h = omega (arith, h)

-- the list from one of its items on
pub drop_item : {A : Type 0} (xs : List A) (i : ℕ) (x : A) → i < length xs → x ≡ get_or xs i x → drop i xs ≡ x ∷ drop (i + 1) xs
drop_item xs i x h e = drop-cons xs i x h ∙ ap (λ y. y ∷ drop (suc i) xs) (sym e) ∙ ap (λ n. x ∷ drop n xs) (sym (add-one i))

-- the members from one of them on
pub members-left : (os : List (Option Shape)) (members : List (List ℕ × Ty)) (i : ℕ) (item : List ℕ × Ty) (before : Shape) → i < length members → item ≡ get_or members i item →
    with_members os before (map member_view (drop i members))
    ≡ option_and_then (λ member. with_members os (with_member before member) (map member_view (drop (i + 1) members))) (shape_among os (ty_view item.1))
members-left os members i item before h e = ap (λ l. with_members os before (map member_view l)) (drop_item members i item h e)

-- the members from one of them on are above the limit or have no shape, where it ends there or has none itself
pub members-fail : (ds : List StructData) (members : List (List ℕ × Ty)) (i : ℕ) (item : List ℕ × Ty) (before : Shape) → i < length members → item ≡ get_or members i item → 0 < before.align → before.align ≤ 8 →
    limited (option_and_then (λ member. Some (with_member before member)) (shape_of ds (ty_view item.1))) ≡ None →
    limited (with_members (shapes_of ds) before (map member_view (drop i members))) ≡ None
members-fail ds members i item before h e low high stop =
    ap limited (members-left (shapes_of ds) members i item before h e)
    ∙ members-stop ds (map member_view (drop (i + 1) members)) before (shape_of ds (ty_view item.1)) (IsSound-of ds (ty_view item.1)) low high stop

-- no struct has this number
pub struct-past : (structs : List StructDef) (k : ℕ) → length structs ≤ k → shape_of (structs_view structs) (structure k) ≡ None
struct-past structs k h =
    shape-structure (structs_view structs) k
    ∙ ap (option_and_then (λ d. struct_shape (shapes_of (take k (structs_view structs))) d.members)) (slice_get-map struct_view structs k ∙ ap (option_map struct_view) (slice_get_past structs k h))

-- the struct of this number
pub struct-at : (structs : List StructDef) (k : ℕ) (d : StructDef) (members : List (List ℕ × Ty)) → k < length structs → d ≡ get_or structs k d → members ≡ d.members →
    shape_of (structs_view structs) (structure k) ≡ struct_shape (shapes_of (structs_view (take k structs))) (map member_view members)
struct-at structs k d members h e m =
    shape-structure (structs_view structs) k
    ∙ ap (option_and_then (λ d. struct_shape (shapes_of (take k (structs_view structs))) d.members)) (slice_get-map struct_view structs k ∙ ap (option_map struct_view) (slice_get_read structs (length structs) k d refl h e))
    ∙ ap (λ l. struct_shape (shapes_of l) (map member_view d.members)) (take-map struct_view k structs)
    ∙ ap (λ l. struct_shape (shapes_of (structs_view (take k structs))) (map member_view l)) (sym m)

-- a struct without members
pub struct-bare : (os : List (Option Shape)) (members : List (List ℕ × Ty)) → length members ≡ 0 → struct_shape os (map member_view members) ≡ None
struct-bare os [] h = refl
struct-bare os (m ∷ ms) h = absurd (omega (arith, h))

-- a shape whose size is rounded up to its alignment
abbrev pub round : Shape → Shape
round all = record { size = next_multiple_of all.size all.align; align = all.align }

-- a struct with members
pub struct-rounded : (os : List (Option Shape)) (members : List (List ℕ × Ty)) → length members ≢ 0 →
    struct_shape os (map member_view members) ≡ option_map round (with_members os no_members (map member_view members))
struct-rounded os [] h = absurd (h refl)
struct-rounded os (m ∷ ms) h = refl

-- rounding keeps what is above the limit there
pub round-stop : (o : Option Shape) → limited o ≡ None → limited (option_map round o) ≡ None
round-stop None e = refl
round-stop (Some all) e = above (Some (round all)) (later (above-back (Some all) e))
  where
    later : 16777216 < all.size → 16777216 < (round all).size
    later h = omega (arith, h, round_up all.size all.align)

-- there is a value and there is none
pub no_value : {X : Type 0} (o : Option X) → IsSome o → o ≡ None → ⊥
no_value None h e = cc
no_value (Some x) h e = cc

-- members end within the limit where the struct does
fits-round : (o : Option Shape) → IsSome (option_map round o) → IfSome (option_map round o) (λ shape. shape.size ≤ 16777216) → IsSome (limited o)
fits-round None some small = some
fits-round (Some all) some small = fits (omega (arith, small, round_up all.size all.align))
  where
    fits : all.size ≤ 16777216 → IsSome (limited (Some all))
    fits h = grind (arith, nat_tests, h)

-- the members of a struct that is within the limit
pub fits-members : (os : List (Option Shape)) (members : List (List ℕ × Ty)) → IsSome (struct_shape os (map member_view members)) → IfSome (struct_shape os (map member_view members)) (λ shape. shape.size ≤ 16777216) →
    IsSome (limited (with_members os no_members (map member_view members)))
fits-members os [] some small = cc
fits-members os (m ∷ ms) some small = fits-round (with_members os no_members (map member_view (m ∷ ms))) some small

-- the member of the struct of this number
pub member-at : (structs : List StructDef) (k : ℕ) (name : List ℕ) (d : StructDef) (members : List (List ℕ × Ty)) → k < length structs → d ≡ get_or structs k d → members ≡ d.members →
    member_of (structs_view structs) k name ≡ member_behind (shapes_of (structs_view (take k structs))) no_members name (map member_view members)
member-at structs k name d members h e m =
    ap (option_and_then (λ d. member_behind (shapes_of (take k (structs_view structs))) no_members name d.members)) (slice_get-map struct_view structs k ∙ ap (option_map struct_view) (slice_get_read structs (length structs) k d refl h e))
    ∙ ap (λ l. member_behind (shapes_of l) no_members name (map member_view d.members)) (take-map struct_view k structs)
    ∙ ap (λ l. member_behind (shapes_of (structs_view (take k structs))) no_members name (map member_view l)) (sym m)

-- the shapes of structs and of more behind them
pub behind-append : (ds es : List StructData) (os : List (Option Shape)) → shapes_behind os (ds ++ es) ≡ shapes_behind (shapes_behind os ds) es
behind-append [] es os = refl
behind-append (d ∷ ds) es os = behind-append ds es (os ++ struct_shape os d.members ∷ [])

-- a struct with a shape is one of the list
known-within : (os : List (Option Shape)) (k : ℕ) → IsSome (option_and_then (λ shape. shape) (slice_get os k)) → k < length os
known-within [] k h = cc
known-within (o ∷ os) zero h = omega arith
known-within (o ∷ os) (suc k) h = omega (arith, known-within os k h)

-- an element of an array with a shape has one
some-element : (n : ℕ) (o : Option Shape) → IsSome (option_map (repeated n) o) → IsSome o
some-element n None h = h
some-element n (Some shape) h = refl

-- a type keeps its shape where more structs come behind
pub shape-kept : (ds es : List StructData) (ty : TyData) → IsSome (shape_of ds ty) → shape_of (ds ++ es) ty ≡ shape_of ds ty
shape-kept ds es void h = refl
shape-kept ds es (arithmetic t) h = refl
shape-kept ds es (pointer ty) h = refl
shape-kept ds es (array ty zero) h = refl
shape-kept ds es (array ty (suc n)) h = ap (option_map (repeated (suc n))) (shape-kept ds es ty (some-element (suc n) (shape_of ds ty) h))
shape-kept ds es (structure k) h =
    ap (λ os. option_and_then (λ shape. shape) (slice_get os k)) (behind-append ds es [])
    ∙ ap (option_and_then (λ shape. shape)) (behind-kept es (shapes_of ds) k (known-within (shapes_of ds) k h))
