-- What is counted of structs is what their leaves are.
use Rattle.std.proofs.Common.{◌≡◌, ℕ, zero, suc, ◌+◌, ◌-◌, ◌<◌, Bool, true, false, List, [], ◌∷◌, ◌++◌, map, drop, length, length-append, append_assoc, Option, Some, None, option_map, refl, sym, ap, ◌∙◌, subst, arith, add-one}
use Rattle.std.proofs.lemmas.Bool.Decides.{nat_tests}
use Rattle.std.specs.Prelude.{slice_get, option_and_then, ◌&&◌, ◌==◌, is_some}
use Rattle.std.specs.List.{list_all}
use Rattle.ec_language.specs.Letters.{Text}
use Rattle.ec_ctypes.specs.trees.Types.{TyData, void, arithmetic, pointer, array, structure, MemberData, StructData}
use Rattle.ec_host_defs.specs.Elements.{is_element, is_indicator, plain_struct}
use Rattle.ec_host_defs.specs.Faults as faults
use Rattle.ec_host_defs.specs.Leaves as hosts
use Rattle.ec_host_defs.specs.Leaves.{LeafData, Way, both, with_step, member_ways, members_ways, ways_within, ways, leaf_of_struct, leaf_of_structs, is_pointer}
use Rattle.ec_leaves.specs.Cases.{leaves_by, other_by, array_by, elements_by, one_leaves, many_leaves}
use Rattle.ec_leaves.proofs.Stepping.{all_cases}
use Rattle.ec_params.specs.declared.tallies.Tally.{Tally}
use Rattle.ec_params.specs.Tallies.{most, counted, leaves_tally, ways_tally, no_leaves, element_tally, both_tallies, struct_tally, member_tally, members_tally, with_tallies, tallies_of, elements_tally, other_tally, known_tally, all_indicators}

-- ---- counts and tests

counted_sum : (a b : ℕ) → counted (counted a + counted b) ≡ counted (a + b)
counted_sum a b = grind (arith, nat_tests)

pub counts_equal : (a b m n : ℕ) → a ≡ counted m → b ≡ counted n → (a == most && b == most) ≡ false → (a == b) ≡ (m == n)
counts_equal a b m n e f h = grind (arith, nat_tests)

and_true : (b : Bool) → (b && true) ≡ b
and_true true = refl
and_true false = refl

and_moved : (a b c : Bool) → ((a && b) && c) ≡ (a && (b && c))
and_moved true b c = refl
and_moved false b c = refl

all_joined : {A : Type 0} (test : A → Bool) (xs ys : List A) → list_all test (xs ++ ys) ≡ (list_all test xs && list_all test ys)
all_joined test [] ys = refl
all_joined test (x ∷ xs) ys = ap (λ b. test x && b) (all_joined test xs ys) ∙ sym (and_moved (test x) (list_all test xs) (list_all test ys))

all_mapped : {A B : Type 0} (f : A → B) (test : B → Bool) (other : A → Bool) → ((x : A) → test (f x) ≡ other x) → (xs : List A) → list_all test (map f xs) ≡ list_all other xs
all_mapped f test other h [] = refl
all_mapped f test other h (x ∷ xs) = λ i. h x i && all_mapped f test other h xs i

map_length : {A B : Type 0} (f : A → B) (xs : List A) → length (map f xs) ≡ length xs
map_length f [] = refl
map_length f (x ∷ xs) = ap suc (map_length f xs)

-- ---- of ways

ways_joined : (a b : Option (List Way)) → ways_tally (both a b) ≡ both_tallies (ways_tally a) (ways_tally b)
ways_joined None b = refl
ways_joined (Some xs) None = refl
ways_joined (Some xs) (Some ys) =
    let n : counted (length (xs ++ ys)) ≡ counted (counted (length xs) + counted (length ys)) = ap counted (length-append xs ys) ∙ sym (counted_sum (length xs) (length ys)) in
    let t = all_joined (λ (w : Way). is_indicator w.1) xs ys in
    λ i. Some (record { count = n i; indicators = t i })

ways_stepped : (s : ℕ × Text) (o : Option (List Way)) → ways_tally (option_map (map (with_step s)) o) ≡ ways_tally o
ways_stepped s None = refl
ways_stepped s (Some ws) =
    let n = ap counted (map_length (with_step s) ws) in
    let t = all_mapped (with_step s) (λ (w : Way). is_indicator w.1) (λ (w : Way). is_indicator w.1) (λ w. refl) ws in
    λ i. Some (record { count = n i; indicators = t i })

both_empty : (a : Option (List Way)) → both a (Some []) ≡ a
both_empty None = refl
both_empty (Some xs) = ap Some (nothing_behind xs)
  where
    nothing_behind : (ws : List Way) → ws ++ [] ≡ ws
    nothing_behind [] = refl
    nothing_behind (w ∷ ws) = ap (λ l. w ∷ l) (nothing_behind ws)

empty_both : (a : Option (List Way)) → both (Some []) a ≡ a
empty_both None = refl
empty_both (Some xs) = refl

both_moved : (a b c : Option (List Way)) → both (both a b) c ≡ both a (both b c)
both_moved None b c = refl
both_moved (Some xs) None c = refl
both_moved (Some xs) (Some ys) None = refl
both_moved (Some xs) (Some ys) (Some zs) = ap Some (append_assoc xs ys zs)

-- ---- of structs

-- The struct of this number has these leaves, and its structs lie no deeper in one another than its number says.
record Stands (structs : List StructData) (j : ℕ) (t : Option Tally) : Type 0 where
  there : j < length structs
  settled : (e : ℕ) → ways_within (e + suc j) structs j ≡ ways_within (suc j) structs j
  tally : t ≡ ways_tally (ways_within (suc j) structs j)

abbrev AllStand : List StructData → List (Option Tally) → Type 0
AllStand structs ts = (j : ℕ) (t : Option Tally) → slice_get ts j ≡ Some t → Stands structs j t

below : {A : Type 0} (xs : List A) (j : ℕ) (x : A) → slice_get xs j ≡ Some x → j < length xs
below [] j x h = absurd cc
below (y ∷ xs) zero x h = omega arith
below (y ∷ xs) (suc j) x h = let b = below xs j x h in omega (arith, b)

at_depth : (structs : List StructData) (j : ℕ) (t : Option Tally) → Stands structs j t → (d : ℕ) → j < d → ways_within d structs j ≡ ways_within (suc j) structs j
at_depth structs j t s d h =
    let e : d ≡ (d - suc j) + suc j = omega (arith, h) in
    ap (λ n. ways_within n structs j) e ∙ s.settled (d - suc j)

-- ---- of members

record MemberStands (structs : List StructData) (k e id : ℕ) (m : MemberData) (t : Option Tally) : Type 0 where
  settled : member_ways structs (ways_within (e + k) structs) id m ≡ member_ways structs (ways_within k structs) id m
  tally : t ≡ ways_tally (member_ways structs (ways_within k structs) id m)

member_stands : (structs : List StructData) (ts : List (Option Tally)) → AllStand structs ts → (e id : ℕ) (m : MemberData) (t : Option Tally) → member_tally structs ts m.1 ≡ Some t → MemberStands structs (length ts) e id m t
member_stands structs ts all e id m t = λ h. let r = by_element (is_element structs m.1) h in record { settled = r.0; tally = r.1 }
  where
    k : ℕ
    k = length ts

    step : ℕ × Text
    step = (id, m.0)

    through : (ℕ → Option (List Way)) → Option ℕ → Option (List Way)
    through inside o = option_map (map (with_step step)) (option_and_then inside o)

    by_struct : (o : Option ℕ) → struct_tally ts o ≡ Some t → (through (ways_within (e + k) structs) o ≡ through (ways_within k structs) o) × (t ≡ ways_tally (through (ways_within k structs) o))
    by_struct None h = (refl, cc)
    by_struct (Some j) h =
        let s = all j t h in
        let b = below ts j t h in
        let far = at_depth structs j t s (e + k) (omega (arith, b)) in
        let near = at_depth structs j t s k b in
        (ap (option_map (map (with_step step))) (far ∙ sym near), s.tally ∙ ap ways_tally (sym near) ∙ sym (ways_stepped step (ways_within k structs j)))

    by_element : (b : Bool) → (elim b [ true ↦ Some (Some (element_tally m.1)) | false ↦ struct_tally ts (plain_struct structs m.1) ]) ≡ Some t
        → (◌≡◌ {A = Option (List Way)} (elim b [ true ↦ Some ((step ∷ [], m.1) ∷ []) | false ↦ through (ways_within (e + k) structs) (plain_struct structs m.1) ]) (elim b [ true ↦ Some ((step ∷ [], m.1) ∷ []) | false ↦ through (ways_within k structs) (plain_struct structs m.1) ]))
        × (t ≡ ways_tally (elim b [ true ↦ Some ((step ∷ [], m.1) ∷ []) | false ↦ through (ways_within k structs) (plain_struct structs m.1) ]))
    by_element true h =
        let p : t ≡ Some (element_tally m.1) = cc in
        (refl, p ∙ (λ i. Some (record { count = 1; indicators = sym (and_true (is_indicator m.1)) i })))
    by_element false h = by_struct (plain_struct structs m.1) h

record MembersStand (structs : List StructData) (k e id : ℕ) (ms : List MemberData) (acc : Option (List Way)) (t : Option Tally) : Type 0 where
  settled : members_ways structs (ways_within (e + k) structs) id ms ≡ members_ways structs (ways_within k structs) id ms
  tally : t ≡ ways_tally (both acc (members_ways structs (ways_within k structs) id ms))

members_stand : (structs : List StructData) (ts : List (Option Tally)) → AllStand structs ts → (e id : ℕ) (ms : List MemberData) (acc : Option (List Way)) (total t : Option Tally) → total ≡ ways_tally acc → members_tally structs ts total ms ≡ Some t → MembersStand structs (length ts) e id ms acc t
members_stand structs ts all e id [] acc total t p h =
    let q : t ≡ total = cc in
    record { settled = refl; tally = q ∙ p ∙ ap ways_tally (sym (both_empty acc)) }
members_stand structs ts all e id (m ∷ ms) acc total t p h = by_member (λ one q f. members_stand structs ts all e id ms (both acc own) (both_tallies total one) t q f) (member_tally structs ts m.1) refl h
  where
    k : ℕ
    k = length ts

    own : Option (List Way)
    own = member_ways structs (ways_within k structs) id m

    rest : Option (List Way)
    rest = members_ways structs (ways_within k structs) id ms

    by_member : ((one : Option Tally) → both_tallies total one ≡ ways_tally (both acc own) → members_tally structs ts (both_tallies total one) ms ≡ Some t → MembersStand structs k e id ms (both acc own) t) → (o : Option (Option Tally)) → member_tally structs ts m.1 ≡ o → option_and_then (λ t. members_tally structs ts (both_tallies total t) ms) o ≡ Some t → MembersStand structs k e id (m ∷ ms) acc t
    by_member others None g f = absurd cc
    by_member others (Some one) g f =
        let s = member_stands structs ts all e id m one g in
        let q : both_tallies total one ≡ ways_tally (both acc own) = (λ i. both_tallies (p i) (s.tally i)) ∙ sym (ways_joined acc own) in
        let r = others one q f in
        record { settled = λ i. both (s.settled i) (r.settled i); tally = r.tally ∙ ap ways_tally (both_moved acc own rest) }

-- ---- one struct more

struct_stands : (structs : List StructData) (ts : List (Option Tally)) → AllStand structs ts → (d : StructData) (t : Option Tally) → slice_get structs (length ts) ≡ Some d → members_tally structs ts (Some no_leaves) d.members ≡ Some t → Stands structs (length ts) t
struct_stands structs ts all d t got h = record { there = below structs k d got; settled = settled; tally = tally }
  where
    k : ℕ
    k = length ts

    shown : (n : ℕ) → ways_within (suc n) structs k ≡ members_ways structs (ways_within n structs) k d.members
    shown n = ap (option_and_then (λ (x : StructData). members_ways structs (ways_within n structs) k x.members)) got

    settled : (e : ℕ) → ways_within (e + suc k) structs k ≡ ways_within (suc k) structs k
    settled e =
        let n : e + suc k ≡ suc (e + k) = omega arith in
        let r = members_stand structs ts all e k d.members (Some []) (Some no_leaves) t refl h in
        ap (λ x. ways_within x structs k) n ∙ shown (e + k) ∙ r.settled ∙ sym (shown k)

    tally : t ≡ ways_tally (ways_within (suc k) structs k)
    tally =
        let r = members_stand structs ts all 0 k d.members (Some []) (Some no_leaves) t refl h in
        r.tally ∙ ap ways_tally (empty_both (members_ways structs (ways_within k structs) k d.members) ∙ sym (shown k))

-- an item more at the end
one_behind : {A : Type 0} (P : ℕ → A → Type 0) (xs : List A) (y : A) → ((j : ℕ) (x : A) → slice_get xs j ≡ Some x → P j x) → P (length xs) y → (j : ℕ) (x : A) → slice_get (xs ++ y ∷ []) j ≡ Some x → P j x
one_behind P [] y all last zero x h = let e : y ≡ x = cc in subst (P 0) e last
one_behind P [] y all last (suc j) x h = absurd cc
one_behind P (z ∷ xs) y all last zero x h = all zero x h
one_behind P (z ∷ xs) y all last (suc j) x h = one_behind (λ i. P (suc i)) xs y (λ i. all (suc i)) last j x h

first_left : {A : Type 0} (xs : List A) (n : ℕ) (y : A) (ys : List A) → drop n xs ≡ y ∷ ys → slice_get xs n ≡ Some y
first_left [] zero y ys h = absurd cc
first_left [] (suc n) y ys h = absurd cc
first_left (x ∷ xs) zero y ys h = cc
first_left (x ∷ xs) (suc n) y ys h = first_left xs n y ys h

rest_left : {A : Type 0} (xs : List A) (n : ℕ) (y : A) (ys : List A) → drop n xs ≡ y ∷ ys → drop (suc n) xs ≡ ys
rest_left [] zero y ys h = absurd cc
rest_left [] (suc n) y ys h = absurd cc
rest_left (x ∷ xs) zero y ys h = cc
rest_left (x ∷ xs) (suc n) y ys h = rest_left xs n y ys h

all_stand : (structs : List StructData) (ts : List (Option Tally)) (ds : List StructData) → AllStand structs ts → drop (length ts) structs ≡ ds → AllStand structs (with_tallies structs ts ds)
all_stand structs ts [] all h = all
all_stand structs ts (d ∷ ds) all h =
    by_members (λ t more. all_stand structs (ts ++ t ∷ []) ds more (ap (λ n. drop n structs) (longer t) ∙ rest_left structs (length ts) d ds h)) (members_tally structs ts (Some no_leaves) d.members) refl
  where
    longer : (t : Option Tally) → length (ts ++ t ∷ []) ≡ suc (length ts)
    longer t = length-append ts (t ∷ []) ∙ add-one (length ts)

    by_members : ((t : Option Tally) → AllStand structs (ts ++ t ∷ []) → AllStand structs (with_tallies structs (ts ++ t ∷ []) ds)) → (o : Option (Option Tally)) → members_tally structs ts (Some no_leaves) d.members ≡ o → AllStand structs (elim o [ None ↦ ts | Some t ↦ with_tallies structs (ts ++ t ∷ []) ds ])
    by_members others None g = all
    by_members others (Some t) g =
        let one = struct_stands structs ts all d t (first_left structs (length ts) d ds h) g in
        others t (one_behind (Stands structs) ts t all one)

none_stand : (structs : List StructData) → AllStand structs []
none_stand structs j t h = absurd cc

-- the leaves of a struct whose tally is kept
struct_known : (structs : List StructData) (k : ℕ) (t : Option Tally) → slice_get (tallies_of structs) k ≡ Some t → t ≡ ways_tally (ways structs k)
struct_known structs k t h =
    let s = all_stand structs [] structs (none_stand structs) refl k t h in
    s.tally ∙ ap ways_tally (sym (at_depth structs k t s (length structs) s.there))

-- ---- of types

leaves_mapped : (f : Way → LeafData) → ((w : Way) → is_indicator (f w).element ≡ is_indicator w.1) → (o : Option (List Way)) → ways_tally o ≡ leaves_tally (option_map (map f) o)
leaves_mapped f h None = refl
leaves_mapped f h (Some ws) =
    let n = ap counted (sym (map_length f ws)) in
    let t = sym (all_mapped f (λ (l : LeafData). is_indicator l.element) (λ (w : Way). is_indicator w.1) h ws) in
    λ i. Some (record { count = n i; indicators = t i })

element_known : (t : TyData) (r : Option Tally) → Some (Some (element_tally t)) ≡ Some r → r ≡ Some (record { count = 1; indicators = is_indicator t && true })
element_known t r h =
    let p : r ≡ Some (element_tally t) = cc in
    p ∙ (λ i. Some (record { count = 1; indicators = sym (and_true (is_indicator t)) i }))

elements_known : (t u : TyData) (n : ℕ) (r : Option Tally) (b : Bool) → Some (elim b [ true ↦ None | false ↦ Some (element_tally u) ]) ≡ Some r → r ≡ leaves_tally (elements_by b t u n)
elements_known t u n r true h = cc
elements_known t u n r false h = element_known u r h

one_known : (structs : List StructData) (r : Option Tally) (o : Option ℕ) → struct_tally (tallies_of structs) o ≡ Some r → r ≡ leaves_tally (one_leaves structs o)
one_known structs r None h = cc
one_known structs r (Some k) h = struct_known structs k r h ∙ leaves_mapped leaf_of_struct (λ w. refl) (ways structs k)

many_known : (structs : List StructData) (n : ℕ) (r : Option Tally) (o : Option ℕ) → struct_tally (tallies_of structs) o ≡ Some r → r ≡ leaves_tally (many_leaves structs n o)
many_known structs n r None h = cc
many_known structs n r (Some k) h = struct_known structs k r h ∙ leaves_mapped (leaf_of_structs k n) (λ w. refl) (ways structs k)

array_known : (structs : List StructData) (t u : TyData) (n : ℕ) (r : Option Tally) (b : Bool) → (elim b [ true ↦ Some (elements_tally u) | false ↦ struct_tally (tallies_of structs) (plain_struct structs u) ]) ≡ Some r → r ≡ leaves_tally (array_by b structs t u n)
array_known structs t u n r true h = elements_known t u n r (is_pointer u) h
array_known structs t u n r false h = many_known structs n r (plain_struct structs u) h

other_known : (structs : List StructData) (t : TyData) (r : Option Tally) → other_tally structs (tallies_of structs) t ≡ Some r → r ≡ leaves_tally (other_by structs t)
other_known structs void r h = cc
other_known structs (arithmetic a) r h = cc
other_known structs (pointer t) r h = cc
other_known structs (array t n) r h = array_known structs (array t n) t n r (is_element structs t) h
other_known structs (structure k) r h = one_known structs r (plain_struct structs (structure k)) h

by_element : (structs : List StructData) (t : TyData) (r : Option Tally) (b : Bool) → (elim b [ true ↦ Some (Some (element_tally t)) | false ↦ other_tally structs (tallies_of structs) t ]) ≡ Some r → r ≡ leaves_tally (leaves_by b structs t)
by_element structs t r true h = element_known t r h
by_element structs t r false h = other_known structs t r h

-- what is kept is that of the leaves
pub tally_known : (structs : List StructData) (t : TyData) (r : Option Tally) → known_tally structs (tallies_of structs) t ≡ Some r → r ≡ leaves_tally (hosts.leaves structs t)
tally_known structs t r h = by_element structs t r (is_element structs t) h ∙ ap leaves_tally (all_cases structs t)

-- ---- what is asked of them

pub tally_is_some : (found : Option (List LeafData)) → is_some (leaves_tally found) ≡ is_some found
tally_is_some None = refl
tally_is_some (Some ls) = refl

pub all_are_indicators : (found : Option (List LeafData)) → all_indicators (leaves_tally found) ≡ faults.are_indicators found
all_are_indicators None = refl
all_are_indicators (Some ls) = refl
