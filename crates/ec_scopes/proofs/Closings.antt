-- Structs that close one after the other.
use Rattle.std.proofs.Common.{◌≡◌, ◌≢◌, ◌∙◌, ℕ, zero, suc, ◌+◌, ◌<◌, List, [], ◌∷◌, ◌++◌, map, set, length, Option, Some, None, Bool, true, false, IsSome, IfSome, option_map, option_and_then, slice_get, refl, sym, ap, arith, subst}
use Rattle.std.proofs.lemmas.List.{map-append, map-set, length-set}
use Rattle.std.proofs.lemmas.Option.{slice_get-map}
use Rattle.ec_ctypes.specs.declared.types.sizes.Shape.{Shape}
use Rattle.ec_ctypes.specs.trees.Types.{TyData, void, arithmetic, pointer, array, structure, MemberData}
use Rattle.ec_ctypes.specs.Layout.{repeated, with_member, no_members, with_members, shape_among, struct_shape}
use Rattle.ec_language.specs.Letters.{Text}
use Rattle.ec_typing_defs.specs.Worlds.{MembersData, StructInfo, struct_named, unlisted, begun, listed}
use Rattle.ec_typing_defs.specs.Expressions.{first_types, first_of_members, typed_members}
use Rattle.ec_typing_defs.specs.Expressions as rule
use Rattle.ec_scopes.specs.declared.structs.StructRow.{StructRow}
use Rattle.ec_scopes.specs.Counts.{counted}
use Rattle.ec_scopes.specs.Measures.{rounded, measured, IsSmallMeasure}
use Rattle.ec_scopes.specs.Offsets.{offset_among}
use Rattle.ec_scopes.specs.Structs.{members_view, listed_of, shapes_of, shape_by, stands_by, closed_of, opened, close_as, close_at, closings, infos, listed_at, members_at, is_begun, AreListed, AreSmall, AreStarted, IsKept, IsKeptAt, IsStarted}
use Rattle.ec_scopes.specs.declared.measures.Measure.TheVariants.{Unknown}
use Rattle.ec_scopes.proofs.Starting.{set-extends, started-on, all-on, started-more, started-set, blank-started, started-at, kept-at}

-- ---- lists

get-append : {A : Type 0} (xs : List A) (y : A) (k : ℕ) → k < length xs → slice_get (xs ++ y ∷ []) k ≡ slice_get xs k
get-append [] y k h = absurd (omega (arith, h))
get-append (x ∷ xs) y zero h = refl
get-append (x ∷ xs) y (suc k) h = get-append xs y k (omega (arith, h))

set-append : {A : Type 0} (xs : List A) (y z : A) (k : ℕ) → k < length xs → set (xs ++ y ∷ []) k z ≡ set xs k z ++ y ∷ []
set-append [] y z k h = absurd (omega (arith, h))
set-append (x ∷ xs) y z zero h = refl
set-append (x ∷ xs) y z (suc k) h = ap (λ l. x ∷ l) (set-append xs y z k (omega (arith, h)))

pub get-set-other : {A : Type 0} (xs : List A) (j k : ℕ) (y : A) → j ≢ k → slice_get (set xs k y) j ≡ slice_get xs j
get-set-other [] j k y h = refl
get-set-other (x ∷ xs) zero zero y h = absurd (h refl)
get-set-other (x ∷ xs) zero (suc k) y h = refl
get-set-other (x ∷ xs) (suc j) zero y h = refl
get-set-other (x ∷ xs) (suc j) (suc k) y h = get-set-other xs j k y (λ e. h (ap suc e))

pub get-set-same : {A : Type 0} (xs : List A) (k : ℕ) (y : A) → k < length xs → slice_get (set xs k y) k ≡ Some y
get-set-same [] k y h = absurd (omega (arith, h))
get-set-same (x ∷ xs) zero y h = refl
get-set-same (x ∷ xs) (suc k) y h = get-set-same xs k y (omega (arith, h))

set-swap : {A : Type 0} (xs : List A) (j k : ℕ) (y z : A) → j ≢ k → set (set xs k y) j z ≡ set (set xs j z) k y
set-swap [] j k y z h = refl
set-swap (x ∷ xs) zero zero y z h = absurd (h refl)
set-swap (x ∷ xs) zero (suc k) y z h = refl
set-swap (x ∷ xs) (suc j) zero y z h = refl
set-swap (x ∷ xs) (suc j) (suc k) y z h = ap (λ l. x ∷ l) (set-swap xs j k y z (λ e. h (ap suc e)))

set-twice : {A : Type 0} (xs : List A) (k : ℕ) (y z : A) → set (set xs k y) k z ≡ set xs k z
set-twice [] k y z = refl
set-twice (x ∷ xs) zero y z = refl
set-twice (x ∷ xs) (suc k) y z = ap (λ l. x ∷ l) (set-twice xs k y z)

-- ---- a struct more that has no shape and begins with nothing

none-at : (os : List (Option Shape)) (k : ℕ) → option_and_then (λ s. s) (slice_get (os ++ None ∷ []) k) ≡ option_and_then (λ s. s) (slice_get os k)
none-at [] zero = refl
none-at [] (suc k) = refl
none-at (o ∷ os) zero = refl
none-at (o ∷ os) (suc k) = none-at os k

none-shape : (os : List (Option Shape)) (t : TyData) → shape_among (os ++ None ∷ []) t ≡ shape_among os t
none-shape os void = refl
none-shape os (arithmetic a) = refl
none-shape os (pointer t) = refl
none-shape os (array t zero) = refl
none-shape os (array t (suc n)) = ap (option_map (repeated (suc n))) (none-shape os t)
none-shape os (structure k) = none-at os k

none-members : (os : List (Option Shape)) (before : Shape) (ms : List MemberData) → with_members (os ++ None ∷ []) before ms ≡ with_members os before ms
none-members os before [] = refl
none-members os before (m ∷ ms) = λ i. option_and_then (λ member. none-members os (with_member before member) ms i) (none-shape os m.1 i)

none-struct : (os : List (Option Shape)) (ms : List MemberData) → struct_shape (os ++ None ∷ []) ms ≡ struct_shape os ms
none-struct os [] = refl
none-struct os (m ∷ ms) = ap (option_map rounded) (none-members os no_members (m ∷ ms))

-- what a struct is before its members close
pub record IsBlank (s : StructInfo) : Type 0 where
  pub no_shape : s.shape ≡ None
  pub no_first : s.first ≡ []
  pub no_host : s.stands_for ≡ 0

shapes-more : (is : List StructInfo) (x : StructInfo) → IsBlank x → shapes_of (is ++ x ∷ []) ≡ shapes_of is ++ None ∷ []
shapes-more is x b = map-append (λ s. s.shape) is (x ∷ []) ∙ ap (λ o. shapes_of is ++ o ∷ []) b.no_shape

first-more : (is : List StructInfo) (x : StructInfo) (t : TyData) → x.first ≡ [] → first_types (is ++ x ∷ []) t ≡ first_types is t
first-more is x void e = refl
first-more is x (arithmetic a) e = refl
first-more is x (pointer t) e = refl
first-more is x (array t n) e = ap (λ ts. array t n ∷ ts) (first-more is x t e)
first-more [] x (structure zero) e = ap (λ ts. structure zero ∷ ts) e
first-more [] x (structure (suc k)) e = refl
first-more (s ∷ ss) x (structure zero) e = refl
first-more (s ∷ ss) x (structure (suc k)) e = ap tail (first-more ss x (structure k) e)
  where
    tail : List TyData → List TyData
    tail [] = []
    tail (t ∷ ts) = structure (suc k) ∷ ts

first-members : (is js : List StructInfo) (ms : rule.Members) → ((t : TyData) → first_types is t ≡ first_types js t) → first_of_members is ms ≡ first_of_members js ms
first-members is js [] e = refl
first-members is js ((n, None) ∷ ms) e = refl
first-members is js ((n, Some t) ∷ ms) e = e t

-- what a type stands for
stands-more : (is : List StructInfo) (x : StructInfo) (t : TyData) → x.stands_for ≡ 0 → rule.stands_for (is ++ x ∷ []) t ≡ rule.stands_for is t
stands-more is x void e = refl
stands-more is x (arithmetic a) e = refl
stands-more is x (pointer t) e = refl
stands-more is x (array t n) e = refl
stands-more [] x (structure zero) e = e
stands-more [] x (structure (suc k)) e = refl
stands-more (s ∷ ss) x (structure zero) e = refl
stands-more (s ∷ ss) x (structure (suc k)) e = stands-more ss x (structure k) e

stands-members : (is js : List StructInfo) (v : Bool) (ms : rule.Members) → ((t : TyData) → rule.stands_for is t ≡ rule.stands_for js t) → stands_by v is ms ≡ stands_by v js ms
stands-members is js true ms e = refl
stands-members is js false ms e = all ms
  where
    all : (ms : rule.Members) → rule.stands_for_all is ms ≡ rule.stands_for_all js ms
    all [] = refl
    all ((n, None) ∷ ms) = ap (λ k. 1 + k) (all ms)
    all ((n, Some t) ∷ ms) = λ i. e t i + all ms i

closed-as : (is js : List StructInfo) (tag : Option Text) (v : Bool) (ms : rule.Members) → ((l : List MemberData) → struct_shape (shapes_of is) l ≡ struct_shape (shapes_of js) l) → ((t : TyData) → first_types is t ≡ first_types js t)
    → ((t : TyData) → rule.stands_for is t ≡ rule.stands_for js t) → closed_of tag v ms is ≡ closed_of tag v ms js
closed-as is js tag v ms s f h = λ i. record { tag = tag; varchar = v; members = listed ms; shape = option_and_then (λ l. s l i) (typed_members ms); first = first-members is js ms f i; stands_for = stands-members is js v ms h i }

pub closed-more : (is : List StructInfo) (x : StructInfo) (tag : Option Text) (v : Bool) (ms : rule.Members) → IsBlank x → closed_of tag v ms (is ++ x ∷ []) ≡ closed_of tag v ms is
closed-more is x tag v ms b = closed-as (is ++ x ∷ []) is tag v ms (λ l. ap (λ os. struct_shape os l) (shapes-more is x b) ∙ none-struct (shapes_of is) l) (λ t. first-more is x t b.no_first) (λ t. stands-more is x t b.no_host)

close-more : (r : StructRow) (k : ℕ) (o : Option rule.Members) (is : List StructInfo) (x : StructInfo) → IsBlank x → k < length is → close_as r k o (is ++ x ∷ []) ≡ close_as r k o is ++ x ∷ []
close-more r k None is x b h = refl
close-more r k (Some ms) is x b h = ap (set (is ++ x ∷ []) k) (closed-more is x r.tag r.varchar ms b) ∙ set-append is x (closed_of r.tag r.varchar ms is) k h

close-length : (r : StructRow) (k : ℕ) (o : Option rule.Members) (is : List StructInfo) → length (close_as r k o is) ≡ length is
close-length r k None is = refl
close-length r k (Some ms) is = length-set is k (closed_of r.tag r.varchar ms is)

close-at-more : (o : Option StructRow) (k : ℕ) (is : List StructInfo) (x : StructInfo) → IsBlank x → k < length is → close_at o k (is ++ x ∷ []) ≡ close_at o k is ++ x ∷ []
close-at-more None k is x b h = refl
close-at-more (Some r) k is x b h = close-more r k (listed_of (members_view r.members)) is x b h

close-at-length : (o : Option StructRow) (k : ℕ) (is : List StructInfo) → length (close_at o k is) ≡ length is
close-at-length None k is = refl
close-at-length (Some r) k is = close-length r k (listed_of (members_view r.members)) is

-- a struct that lists its members is there
listed-within : (rows : List StructRow) (k : ℕ) → IsSome (listed_at rows k) → k < length rows
listed-within [] k h = cc
listed-within (r ∷ rs) zero h = omega arith
listed-within (r ∷ rs) (suc k) h = omega (arith, listed-within rs k h)

closings-more : (rows : List StructRow) (r : StructRow) (ks : List ℕ) (is : List StructInfo) (x : StructInfo) → IsBlank x → AreListed rows ks → length is ≡ length rows
    → closings (rows ++ r ∷ []) ks (is ++ x ∷ []) ≡ closings rows ks is ++ x ∷ []
closings-more rows r [] is x b all e = refl
closings-more rows r (k ∷ ks) is x b all e =
    let within = listed-within rows k all.0 in
    ap (closings (rows ++ r ∷ []) ks) (ap (λ o. close_at o k (is ++ x ∷ [])) (get-append rows r k within) ∙ close-at-more (slice_get rows k) k is x b (omega (arith, within, e)))
    ∙ closings-more rows r ks (close_at (slice_get rows k) k is) x b all.1 (close-at-length (slice_get rows k) k is ∙ e)

map-length : {A B : Type 0} (f : A → B) (xs : List A) → length (map f xs) ≡ length xs
map-length f [] = refl
map-length f (x ∷ xs) = ap suc (map-length f xs)

pub infos-more : (rows : List StructRow) (r : StructRow) (ks : List ℕ) → AreListed rows ks → infos (rows ++ r ∷ []) ks ≡ infos rows ks ++ opened r ∷ []
infos-more rows r ks all =
    ap (closings (rows ++ r ∷ []) ks) (map-append opened rows (r ∷ []))
    ∙ closings-more rows r ks (map opened rows) (opened r) (record { no_shape = refl; no_first = refl; no_host = refl }) all (map-length opened rows)

-- ---- a struct whose members have not closed is another

abbrev pub Apart : ℕ → List ℕ → Type 0
Apart k [] = Unit {0}
Apart k (j ∷ js) = (j ≢ k) × Apart k js

abbrev pub BlankAt : List StructInfo → ℕ → Type 0
BlankAt is k = IfSome (slice_get is k) IsBlank

shapes-same : (is : List StructInfo) (k : ℕ) (y : StructInfo) → IsBlank y → BlankAt is k → shapes_of (set is k y) ≡ shapes_of is
shapes-same [] k y b h = refl
shapes-same (s ∷ ss) zero y b h = ap (λ o. o ∷ shapes_of ss) (b.no_shape ∙ sym h.no_shape)
shapes-same (s ∷ ss) (suc k) y b h = ap (λ os. s.shape ∷ os) (shapes-same ss k y b h)

first-same : (is : List StructInfo) (k : ℕ) (y : StructInfo) (t : TyData) → IsBlank y → BlankAt is k → first_types (set is k y) t ≡ first_types is t
first-same is k y void b h = refl
first-same is k y (arithmetic a) b h = refl
first-same is k y (pointer t) b h = refl
first-same is k y (array t n) b h = ap (λ ts. array t n ∷ ts) (first-same is k y t b h)
first-same [] k y (structure j) b h = refl
first-same (s ∷ ss) zero y (structure zero) b h = ap (λ ts. structure zero ∷ ts) (b.no_first ∙ sym h.no_first)
first-same (s ∷ ss) zero y (structure (suc j)) b h = refl
first-same (s ∷ ss) (suc k) y (structure zero) b h = refl
first-same (s ∷ ss) (suc k) y (structure (suc j)) b h = ap tail (first-same ss k y (structure j) b h)
  where
    tail : List TyData → List TyData
    tail [] = []
    tail (t ∷ ts) = structure (suc j) ∷ ts

stands-same : (is : List StructInfo) (k : ℕ) (y : StructInfo) (t : TyData) → IsBlank y → BlankAt is k → rule.stands_for (set is k y) t ≡ rule.stands_for is t
stands-same is k y void b h = refl
stands-same is k y (arithmetic a) b h = refl
stands-same is k y (pointer t) b h = refl
stands-same is k y (array t n) b h = refl
stands-same [] k y (structure j) b h = refl
stands-same (s ∷ ss) zero y (structure zero) b h = b.no_host ∙ sym h.no_host
stands-same (s ∷ ss) zero y (structure (suc j)) b h = refl
stands-same (s ∷ ss) (suc k) y (structure zero) b h = refl
stands-same (s ∷ ss) (suc k) y (structure (suc j)) b h = stands-same ss k y (structure j) b h

closed-same : (is : List StructInfo) (k : ℕ) (y : StructInfo) (tag : Option Text) (v : Bool) (ms : rule.Members) → IsBlank y → BlankAt is k → closed_of tag v ms (set is k y) ≡ closed_of tag v ms is
closed-same is k y tag v ms b h = closed-as (set is k y) is tag v ms (λ l. ap (λ os. struct_shape os l) (shapes-same is k y b h)) (λ t. first-same is k y t b h) (λ t. stands-same is k y t b h)

close-same : (r : StructRow) (j k : ℕ) (o : Option rule.Members) (is : List StructInfo) (y : StructInfo) → IsBlank y → BlankAt is k → j ≢ k → close_as r j o (set is k y) ≡ set (close_as r j o is) k y
close-same r j k None is y b h d = refl
close-same r j k (Some ms) is y b h d = ap (set (set is k y) j) (closed-same is k y r.tag r.varchar ms b h) ∙ set-swap is j k y (closed_of r.tag r.varchar ms is) d

close-at-same : (o : Option StructRow) (j k : ℕ) (is : List StructInfo) (y : StructInfo) → IsBlank y → BlankAt is k → j ≢ k → close_at o j (set is k y) ≡ set (close_at o j is) k y
close-at-same None j k is y b h d = refl
close-at-same (Some r) j k is y b h d = close-same r j k (listed_of (members_view r.members)) is y b h d

close-at-other : (o : Option StructRow) (j k : ℕ) (is : List StructInfo) → j ≢ k → slice_get (close_at o j is) k ≡ slice_get is k
close-at-other None j k is d = refl
close-at-other (Some r) j k is d = by (listed_of (members_view r.members))
  where
    by : (o : Option rule.Members) → slice_get (close_as r j o is) k ≡ slice_get is k
    by None = refl
    by (Some ms) = get-set-other is k j (closed_of r.tag r.varchar ms is) (λ e. d (sym e))

blank-kept : (rows : List StructRow) (ks : List ℕ) (is : List StructInfo) (k : ℕ) → Apart k ks → slice_get (closings rows ks is) k ≡ slice_get is k
blank-kept rows [] is k d = refl
blank-kept rows (j ∷ js) is k d = blank-kept rows js (close_at (slice_get rows j) j is) k d.1 ∙ close-at-other (slice_get rows j) j k is d.0

closings-same : (rows : List StructRow) (r : StructRow) (ks : List ℕ) (is : List StructInfo) (k : ℕ) (y : StructInfo) → IsBlank y → BlankAt is k → Apart k ks
    → closings (set rows k r) ks (set is k y) ≡ set (closings rows ks is) k y
closings-same rows r [] is k y b h d = refl
closings-same rows r (j ∷ js) is k y b h d =
    ap (closings (set rows k r) js) (ap (λ o. close_at o j (set is k y)) (get-set-other rows j k r d.0) ∙ close-at-same (slice_get rows j) j k is y b h d.0)
    ∙ closings-same rows r js (close_at (slice_get rows j) j is) k y b (subst (λ (o : Option StructInfo). IfSome o IsBlank) (sym (close-at-other (slice_get rows j) j k is d.0)) h) d.1

opened-blank : (rows : List StructRow) (k : ℕ) → BlankAt (map opened rows) k
opened-blank [] k = tt
opened-blank (r ∷ rs) zero = record { no_shape = refl; no_first = refl; no_host = refl }
opened-blank (r ∷ rs) (suc k) = opened-blank rs k

infos-blank : (rows : List StructRow) (ks : List ℕ) (k : ℕ) → Apart k ks → BlankAt (infos rows ks) k
infos-blank rows ks k d = subst (λ (o : Option StructInfo). IfSome o IsBlank) (sym (blank-kept rows ks (map opened rows) k d)) (opened-blank rows k)

pub infos-set : (rows : List StructRow) (r : StructRow) (ks : List ℕ) (k : ℕ) → Apart k ks → infos (set rows k r) ks ≡ set (infos rows ks) k (opened r)
infos-set rows r ks k d =
    ap (closings (set rows k r) ks) (map-set opened rows k r)
    ∙ closings-same rows r ks (map opened rows) k (opened r) (record { no_shape = refl; no_first = refl; no_host = refl }) (opened-blank rows k) d

closings-append : (rows : List StructRow) (ks : List ℕ) (k : ℕ) (is : List StructInfo) → closings rows (ks ++ k ∷ []) is ≡ close_at (slice_get rows k) k (closings rows ks is)
closings-append rows [] k is = refl
closings-append rows (j ∷ js) k is = closings-append rows js k (close_at (slice_get rows j) j is)

-- a struct lists its members, and closes
pub infos-close : (rows : List StructRow) (r : StructRow) (ks : List ℕ) (k : ℕ) (ms : rule.Members) → Apart k ks → k < length rows → listed_of (members_view r.members) ≡ Some ms
    → infos (set rows k r) (ks ++ k ∷ []) ≡ set (infos rows ks) k (closed_of r.tag r.varchar ms (infos rows ks))
infos-close rows r ks k ms d h e =
    let is = infos rows ks in
    closings-append (set rows k r) ks k (map opened (set rows k r))
    ∙ ap (close_at (slice_get (set rows k r) k) k) (infos-set rows r ks k d)
    ∙ ap (λ o. close_at o k (set is k (opened r))) (get-set-same rows k r h)
    ∙ ap (λ o. close_as r k o (set is k (opened r))) e
    ∙ ap (set (set is k (opened r)) k) (closed-same is k (opened r) r.tag r.varchar ms (record { no_shape = refl; no_first = refl; no_host = refl }) (infos-blank rows ks k d))
    ∙ set-twice is k (opened r) (closed_of r.tag r.varchar ms is)

-- ---- those that have closed list their members

pub apart-of : (rows : List StructRow) (ks : List ℕ) (k : ℕ) → AreListed rows ks → listed_at rows k ≡ None → Apart k ks
apart-of rows [] k all e = tt
apart-of rows (j ∷ js) k all e = ((λ d. no_value (listed_at rows k) (subst (λ n. IsSome (listed_at rows n)) d all.0) e), apart-of rows js k all.1 e)
  where
    no_value : {X : Type 0} (o : Option X) → IsSome o → o ≡ None → ⊥
    no_value None h e = cc
    no_value (Some x) h e = cc

at-append : (rows : List StructRow) (r : StructRow) (k : ℕ) → IsSome (listed_at rows k) → IsSome (listed_at (rows ++ r ∷ []) k)
at-append rows r k h = subst (λ (o : Option StructRow). IsSome (option_and_then (λ r. listed_of (members_view r.members)) o)) (sym (get-append rows r k (listed-within rows k h))) h

pub listed-more : (rows : List StructRow) (r : StructRow) (ks : List ℕ) → AreListed rows ks → AreListed (rows ++ r ∷ []) ks
listed-more rows r [] all = tt
listed-more rows r (k ∷ ks) all = (at-append rows r k all.0, listed-more rows r ks all.1)

pub listed-set : (rows : List StructRow) (r : StructRow) (k : ℕ) (ks : List ℕ) → Apart k ks → AreListed rows ks → AreListed (set rows k r) ks
listed-set rows r k [] d all = tt
listed-set rows r k (j ∷ js) d all = (subst (λ (o : Option StructRow). IsSome (option_and_then (λ r. listed_of (members_view r.members)) o)) (sym (get-set-other rows j k r d.0)) all.0, listed-set rows r k js d.1 all.1)

pub listed-last : (rows : List StructRow) (ks : List ℕ) (k : ℕ) → AreListed rows ks → IsSome (listed_at rows k) → AreListed rows (ks ++ k ∷ [])
listed-last rows [] k all h = (h, tt)
listed-last rows (j ∷ js) k all h = (all.0, listed-last rows js k all.1 h)

pub small-more : (rows : List StructRow) (r : StructRow) → AreSmall rows → IsSmallMeasure r.measure → AreSmall (rows ++ r ∷ [])
small-more [] r all one = (one, tt)
small-more (x ∷ xs) r all one = (all.0, small-more xs r all.1 one)

pub small-set : (rows : List StructRow) (k : ℕ) (r : StructRow) → AreSmall rows → IsSmallMeasure r.measure → AreSmall (set rows k r)
small-set [] k r all one = tt
small-set (x ∷ xs) zero r all one = (one, all.1)
small-set (x ∷ xs) (suc k) r all one = (all.0, small-set xs k r all.1 one)

blank-none : (is : List StructInfo) (k : ℕ) → BlankAt is k → IfSome (slice_get (shapes_of is) k) (λ o. o ≡ None)
blank-none [] k h = tt
blank-none (s ∷ ss) zero h = h.no_shape
blank-none (s ∷ ss) (suc k) h = blank-none ss k h

-- ---- what is kept

pub none-listed : (o : Option StructRow) {m : MembersData} → option_map (λ r. members_view r.members) o ≡ Some m → listed_of m ≡ None → option_and_then (λ r. listed_of (members_view r.members)) o ≡ None
none-listed None h e = refl
none-listed (Some r) h e = let q : members_view r.members ≡ _ = cc in ap listed_of q ∙ e

pub kept-push : (rows rows' : List StructRow) (ks : List ℕ) (r : StructRow) → rows' ≡ rows ++ r ∷ [] → r.measure ≡ Unknown → r.stands_for ≡ 0 → r.offsets ≡ [] → IsKept rows ks → IsKept rows' ks
kept-push rows rows' ks r e m n z k = subst (λ l. IsKept l ks) (sym e) (record {
  lists = listed-more rows r ks k.lists;
  fits = small-more rows r k.fits (subst (λ x. IsSmallMeasure x) (sym m) tt);
  measures = map-append (λ x. x.measure) rows (r ∷ []) ∙ (λ i. k.measures i ++ m i ∷ [])
      ∙ sym (ap (map (λ s. measured s.shape)) (infos-more rows r ks k.lists) ∙ map-append (λ s. measured s.shape) (infos rows ks) (opened r ∷ []));
  counts = map-append (λ x. x.stands_for) rows (r ∷ []) ∙ (λ i. k.counts i ++ n i ∷ [])
      ∙ sym (ap (map (λ s. counted s.stands_for)) (infos-more rows r ks k.lists) ∙ map-append (λ s. counted s.stands_for) (infos rows ks) (opened r ∷ []));
  starts =
      let os = shapes_of (infos rows ks) in
      subst (λ qs. AreStarted qs (rows ++ r ∷ [])) (sym (ap shapes_of (infos-more rows r ks k.lists) ∙ shapes-more (infos rows ks) (opened r) (record { no_shape = refl; no_first = refl; no_host = refl })))
      (started-more (os ++ None ∷ []) rows r (all-on os (os ++ None ∷ []) (λ t s h. none-shape os t ∙ h) rows k.starts) (blank-started (os ++ None ∷ []) r z));
})

pub kept-begin : (rows rows' : List StructRow) (ks : List ℕ) (k : ℕ) (r : StructRow) → rows' ≡ set rows k r → r.measure ≡ Unknown → r.stands_for ≡ 0 → r.offsets ≡ [] → listed_at rows k ≡ None → IsKept rows ks → IsKept rows' ks
kept-begin rows rows' ks k r e m n z none kept =
    let d = apart-of rows ks k kept.lists none in
    subst (λ l. IsKept l ks) (sym e) (record {
      lists = listed-set rows r k ks d kept.lists;
      fits = small-set rows k r kept.fits (subst (λ x. IsSmallMeasure x) (sym m) tt);
      measures = map-set (λ x. x.measure) rows k r ∙ (λ i. set (kept.measures i) k (m i))
          ∙ sym (ap (map (λ s. measured s.shape)) (infos-set rows r ks k d) ∙ map-set (λ s. measured s.shape) (infos rows ks) k (opened r));
      counts = map-set (λ x. x.stands_for) rows k r ∙ (λ i. set (kept.counts i) k (n i))
          ∙ sym (ap (map (λ s. counted s.stands_for)) (infos-set rows r ks k d) ∙ map-set (λ s. counted s.stands_for) (infos rows ks) k (opened r));
      starts =
          let os = shapes_of (infos rows ks) in
          subst (λ qs. AreStarted qs (set rows k r)) (sym (ap shapes_of (infos-set rows r ks k d) ∙ shapes-same (infos rows ks) k (opened r) (record { no_shape = refl; no_first = refl; no_host = refl }) (infos-blank rows ks k d)))
          (started-set os rows k r kept.starts (blank-started os r z));
    })

pub kept-close : (rows rows' : List StructRow) (ks ks' : List ℕ) (k : ℕ) (r : StructRow) (ms : rule.Members) → rows' ≡ set rows k r → ks' ≡ ks ++ k ∷ [] → listed_of (members_view r.members) ≡ Some ms
    → r.measure ≡ measured (shape_by (infos rows ks) ms) → IsSmallMeasure r.measure → r.stands_for ≡ counted (stands_by r.varchar (infos rows ks) ms) → IsStarted (shapes_of (infos rows ks)) r → listed_at rows k ≡ None → k < length rows → IsKept rows ks → IsKept rows' ks'
kept-close rows rows' ks ks' k r ms e f l m small n st none h kept =
    let d = apart-of rows ks k kept.lists none in
    subst (λ l. IsKept l ks') (sym e) (subst (λ l. IsKept (set rows k r) l) (sym f) (record {
      lists = listed-last (set rows k r) ks k (listed-set rows r k ks d kept.lists) (subst (λ (o : Option StructRow). IsSome (option_and_then (λ r. listed_of (members_view r.members)) o)) (sym (get-set-same rows k r h)) (subst (λ (o : Option rule.Members). IsSome o) (sym l) refl));
      fits = small-set rows k r kept.fits small;
      measures = map-set (λ x. x.measure) rows k r ∙ (λ i. set (kept.measures i) k (m i))
          ∙ sym (ap (map (λ s. measured s.shape)) (infos-close rows r ks k ms d h l) ∙ map-set (λ s. measured s.shape) (infos rows ks) k (closed_of r.tag r.varchar ms (infos rows ks)));
      counts = map-set (λ x. x.stands_for) rows k r ∙ (λ i. set (kept.counts i) k (n i))
          ∙ sym (ap (map (λ s. counted s.stands_for)) (infos-close rows r ks k ms d h l) ∙ map-set (λ s. counted s.stands_for) (infos rows ks) k (closed_of r.tag r.varchar ms (infos rows ks)));
      starts =
          let os = shapes_of (infos rows ks) in
          let own = closed_of r.tag r.varchar ms (infos rows ks) in
          let ext = set-extends os k own.shape (blank-none (infos rows ks) k (infos-blank rows ks k d)) in
          subst (λ qs. AreStarted qs (set rows k r)) (sym (ap shapes_of (infos-close rows r ks k ms d h l) ∙ map-set (λ s. s.shape) (infos rows ks) k own))
          (started-set (set os k own.shape) rows k r (all-on os (set os k own.shape) ext rows kept.starts) (started-on os (set os k own.shape) ext r st));
    }))

-- ---- members

set-read : {A : Type 0} (xs : List A) (k : ℕ) (y : A) → slice_get xs k ≡ Some y → set xs k y ≡ xs
set-read [] k y e = refl
set-read (x ∷ xs) zero y e = let q : y ≡ x = cc in ap (λ z. z ∷ xs) q
set-read (x ∷ xs) (suc k) y e = ap (λ l. x ∷ l) (set-read xs k y e)

members-as : (rows : List StructRow) (r : StructRow) (k : ℕ) (is : List StructInfo) (m : MembersData) → map (λ s. s.members) is ≡ map (λ r. members_view r.members) rows → slice_get rows k ≡ Some r → members_view r.members ≡ m
    → map (λ s. s.members) (close_as r k (listed_of m) is) ≡ map (λ r. members_view r.members) rows
members-as rows r k is unlisted e h q = e
members-as rows r k is begun e h q = e
members-as rows r k is (listed ms) e h q =
    map-set (λ s. s.members) is k (closed_of r.tag r.varchar ms is) ∙ ap (λ l. set l k (listed ms)) e
    ∙ set-read (map (λ r. members_view r.members) rows) k (listed ms) (slice_get-map (λ r. members_view r.members) rows k ∙ ap (option_map (λ r. members_view r.members)) h ∙ ap Some q)

members-at : (rows : List StructRow) (o : Option StructRow) (k : ℕ) (is : List StructInfo) → map (λ s. s.members) is ≡ map (λ r. members_view r.members) rows → slice_get rows k ≡ o
    → map (λ s. s.members) (close_at o k is) ≡ map (λ r. members_view r.members) rows
members-at rows None k is e h = e
members-at rows (Some r) k is e h = members-as rows r k is (members_view r.members) e h refl

members-closings : (rows : List StructRow) (ks : List ℕ) (is : List StructInfo) → map (λ s. s.members) is ≡ map (λ r. members_view r.members) rows → map (λ s. s.members) (closings rows ks is) ≡ map (λ r. members_view r.members) rows
members-closings rows [] is e = e
members-closings rows (k ∷ ks) is e = members-closings rows ks (close_at (slice_get rows k) k is) (members-at rows (slice_get rows k) k is e refl)

members-opened : (rows : List StructRow) → map (λ s. s.members) (map opened rows) ≡ map (λ r. members_view r.members) rows
members-opened [] = refl
members-opened (r ∷ rs) = ap (λ l. members_view r.members ∷ l) (members-opened rs)

-- the members of a struct are those that are kept of it
pub members-kept : (rows : List StructRow) (ks : List ℕ) (k : ℕ) → option_map (λ r. members_view r.members) (slice_get rows k) ≡ members_at rows ks k
members-kept rows ks k =
    sym (slice_get-map (λ r. members_view r.members) rows k) ∙ ap (λ l. slice_get l k) (sym (members-closings rows ks (map opened rows) (members-opened rows))) ∙ slice_get-map (λ s. s.members) (infos rows ks) k

-- a struct that is begun is there, and lists no members
pub begun-within : (rows : List StructRow) (k : ℕ) → is_begun (slice_get rows k) ≡ true → k < length rows
begun-within [] k h = cc
begun-within (r ∷ rs) zero h = omega arith
begun-within (r ∷ rs) (suc k) h = omega (arith, begun-within rs k h)

pub begun-none : (rows : List StructRow) (k : ℕ) → is_begun (slice_get rows k) ≡ true → listed_at rows k ≡ None
begun-none [] k h = refl
begun-none (r ∷ rs) zero h = by (members_view r.members) h
  where
    by : (m : MembersData) → elim m [ unlisted ↦ false | begun ↦ true | listed ms ↦ false ] ≡ true → listed_of m ≡ None
    by unlisted h = refl
    by begun h = refl
    by (listed ms) h = cc
begun-none (r ∷ rs) (suc k) h = begun-none rs k h

-- a struct that closes as soon as it is met
pub set-last : (is : List StructInfo) (x y : StructInfo) → set (is ++ x ∷ []) (length is) y ≡ is ++ y ∷ []
set-last [] x y = refl
set-last (s ∷ ss) x y = ap (λ l. s ∷ l) (set-last ss x y)

closings-length : (rows : List StructRow) (ks : List ℕ) (is : List StructInfo) → length (closings rows ks is) ≡ length is
closings-length rows [] is = refl
closings-length rows (k ∷ ks) is = closings-length rows ks (close_at (slice_get rows k) k is) ∙ close-at-length (slice_get rows k) k is

pub infos-length : (rows : List StructRow) (ks : List ℕ) → length (infos rows ks) ≡ length rows
infos-length rows ks = closings-length rows ks (map opened rows) ∙ map-length opened rows

pub blank-named : (tag : Option Text) (m : MembersData) → IsBlank (struct_named tag m)
blank-named tag m = record { no_shape = refl; no_first = refl; no_host = refl }

pub closed-last : (is : List StructInfo) (own : Option Text) (m : MembersData) (tag : Option Text) (v : Bool) (ms : rule.Members)
    → set (is ++ struct_named own m ∷ []) (length is) (closed_of tag v ms (is ++ struct_named own m ∷ [])) ≡ is ++ closed_of tag v ms is ∷ []
closed-last is own m tag v ms =
    ap (set (is ++ struct_named own m ∷ []) (length is)) (closed-more is (struct_named own m) tag v ms (blank-named own m)) ∙ set-last is (struct_named own m) (closed_of tag v ms is)

-- the offset of a member is what is kept of it
pub offset-kept : (rows : List StructRow) (ks : List ℕ) (k : ℕ) (row : StructRow) (name : Text) (o : Option ℕ) → IsKept rows ks → slice_get rows k ≡ Some row → IfSome o (IsKeptAt row name)
    → IfSome o (λ offset. offset_among (shapes_of (infos rows ks)) name (members_at rows ks k) ≡ Some offset)
offset-kept rows ks k row name None kept e h = tt
offset-kept rows ks k row name (Some offset) kept e h =
    let os = shapes_of (infos rows ks) in
    ap (offset_among os name) (sym (members-kept rows ks k) ∙ ap (option_map (λ r. members_view r.members)) e) ∙ kept-at os row name offset (started-at os rows k row kept.starts e) h
