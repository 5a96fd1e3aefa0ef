-- The table of a struct's members finds the first of a name.
use Rattle.std.proofs.Common.{◌≡◌, ℕ, suc, ◌+◌, Bool, true, false, List, [], ◌∷◌, Option, Some, None, option_map, refl, sym, ap, ◌∙◌, arith}
use Rattle.std.specs.Prelude.{slice_get, option_and_then, if◌then◌else◌}
use Rattle.ec_ctypes.specs.trees.Types.{TyData, MemberData, StructData}
use Rattle.ec_embedded.proofs.Sound.{texts_equal}
use Rattle.ec_host_defs.specs.Programs.{member_among}
use Rattle.ec_language.specs.Letters.{Text, same_text}
use Rattle.ec_typing_defs.specs.Tables.{Named, find, put}
use Rattle.ec_params.specs.Listed.{with_member, with_members, places_of}
use Rattle.ec_params.proofs.Declares.{or_else, find_put, joined, none_right}

-- the place of the first of these members with this name
abbrev place_from : Text → ℕ → List MemberData → Option ℕ
place_from name n [] = None
place_from name n (m ∷ ms) = if same_text name m.0 then Some n else place_from name (n + 1) ms

one_more : (name other : Text) (k : ℕ) (t : Named ℕ) (rest : Option ℕ) → or_else (find name (with_member k t other)) rest ≡ or_else (find name t) (if same_text name other then Some k else rest)
one_more name other k t rest = by_find (find other t) refl
  where
    by_same : (j : ℕ) → find other t ≡ Some j → (b : Bool) → same_text name other ≡ b → or_else (find name t) rest ≡ or_else (find name t) (if b then Some k else rest)
    by_same j e false h = refl
    by_same j e true h =
        let f : find name t ≡ Some j = ap (λ (x : Text). find x t) (texts_equal name other h) ∙ e in
        ap (λ o. or_else o rest) f ∙ sym (ap (λ o. or_else o (Some k)) f)

    by_find : (r : Option ℕ) → find other t ≡ r → or_else (find name (elim r [ None ↦ put other k t | Some j ↦ t ])) rest ≡ or_else (find name t) (if same_text name other then Some k else rest)
    by_find None e = ap (λ o. or_else o rest) (find_put name other k t e) ∙ joined k rest (find name t) (same_text name other)
    by_find (Some j) e = by_same j e (same_text name other) refl

found : (name : Text) (k : ℕ) (t : Named ℕ) (ms : List MemberData) → find name (with_members k t ms) ≡ or_else (find name t) (place_from name k ms)
found name k t [] = sym (none_right (find name t))
found name k t (m ∷ ms) = found name (k + 1) (with_member k t m.0) ms ∙ one_more name m.0 k t (place_from name (k + 1) ms)

abbrev pub type_in : List MemberData → Option ℕ → Option TyData
type_in ms o = option_and_then (λ k. option_map (λ m. m.1) (slice_get ms k)) o

typed_from : (name : Text) (all : List MemberData) (n : ℕ) (ms : List MemberData) → ((j : ℕ) → slice_get all (n + j) ≡ slice_get ms j) → type_in all (place_from name n ms) ≡ member_among name ms
typed_from name all n [] h = refl
typed_from name all n (m ∷ ms) h = by_same (same_text name m.0) (typed_from name all (n + 1) ms later)
  where
    here : slice_get all n ≡ Some m
    here = let e : n ≡ n + 0 = omega arith in ap (slice_get all) e ∙ h 0

    later : (j : ℕ) → slice_get all (n + 1 + j) ≡ slice_get ms j
    later j = let e : n + 1 + j ≡ n + suc j = omega arith in ap (slice_get all) e ∙ h (suc j)

    by_same : (b : Bool) → type_in all (place_from name (n + 1) ms) ≡ member_among name ms → type_in all (if b then Some n else place_from name (n + 1) ms) ≡ elim b [ true ↦ Some m.1 | false ↦ member_among name ms ]
    by_same true rest = ap (option_map (λ (x : MemberData). x.1)) here
    by_same false rest = rest

-- the type of the member that the table finds
pub member_placed : (d : StructData) (name : Text) → type_in d.members (find name (places_of d)) ≡ member_among name d.members
member_placed d name =
    ap (type_in d.members) (found name 0 [] d.members)
    ∙ typed_from name d.members 0 d.members (λ j. let e : 0 + j ≡ j = omega arith in ap (slice_get d.members) e)
