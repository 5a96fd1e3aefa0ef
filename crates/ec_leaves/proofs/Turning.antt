-- The turns of a walk through members.
use Rattle.std.proofs.Common.{◌≡◌, ℕ, zero, suc, ◌+◌, ◌-◌, ◌<◌, Bool, true, false, List, [], ◌∷◌, ◌++◌, map, drop, length, append_assoc, length-append, Option, Some, None, option_map, refl, sym, ap, ◌∙◌, arith}
use Rattle.std.proofs.lemmas.Bool.Decides.{nat_tests}
use Rattle.std.specs.Prelude.{slice_get, option_and_then, nat_le}
use Rattle.ec_language.specs.Letters.{Text}
use Rattle.ec_ctypes.specs.trees.Types.{TyData, void, arithmetic, pointer, array, structure, MemberData, StructData}
use Rattle.ec_host_defs.specs.Elements.{is_element, plain_struct, plain_number, plain_if}
use Rattle.ec_host_defs.specs.Leaves.{LeafData, Path, Way, both, with_step, member_ways, members_ways, ways_within, ways}
use Rattle.ec_leaves.specs.declared.parts.Frame.{Frame}
use Rattle.ec_leaves.specs.declared.parts.Step.{Step}
use Rattle.ec_leaves.specs.Adding.{behind, leaf_under}
use Rattle.ec_leaves.specs.Going.{step_view, path_of, members_of, rest, left_in, onto}
use Rattle.ec_leaves.specs.Seen.{leaf_at}
use Rattle.ec_leaves.proofs.Stepping.{stepped, all_within}

-- ---- lists

nothing_behind : {A : Type 0} (xs : List A) → xs ++ [] ≡ xs
nothing_behind [] = refl
nothing_behind (x ∷ xs) = ap (λ l. x ∷ l) (nothing_behind xs)

pub none_left : {A : Type 0} (xs : List A) (n : ℕ) → slice_get xs n ≡ None → drop n xs ≡ []
none_left [] zero h = refl
none_left [] (suc n) h = refl
none_left (x ∷ xs) zero h = absurd cc
none_left (x ∷ xs) (suc n) h = none_left xs n h

first_left : {A : Type 0} (xs : List A) (n : ℕ) (x : A) → slice_get xs n ≡ Some x → drop n xs ≡ x ∷ drop (suc n) xs
first_left [] n x h = absurd cc
first_left (y ∷ ys) zero x h = let e : y ≡ x = cc in ap (λ z. z ∷ ys) e
first_left (y ∷ ys) (suc n) x h = first_left ys n x h

pub one_left : {A : Type 0} (xs : List A) (n : ℕ) (x : A) → slice_get xs n ≡ Some x → drop n xs ≡ x ∷ drop (n + 1) xs
one_left xs n x h = first_left xs n x h ∙ (let e : suc n ≡ n + 1 = omega arith in ap (λ k. x ∷ drop k xs) e)

below : {A : Type 0} (xs : List A) (j : ℕ) (x : A) → slice_get xs j ≡ Some x → j < length xs
below [] j x h = absurd cc
below (y ∷ xs) zero x h = omega arith
below (y ∷ xs) (suc j) x h = let b = below xs j x h in omega (arith, b)

module _ (structs : List StructData) (frame : Frame) where
  -- ---- the structs round the one that is gone through

  onto_none : (d : ℕ) (front : Path) (outer : List Step) → onto structs frame d front outer None ≡ None
  onto_none d front [] = refl
  onto_none d front (s ∷ outer) = ap (option_and_then (left_in structs frame d front s)) (onto_none (d - 1) (front ++ step_view s ∷ []) outer)

  -- the innermost of them goes first
  onto_last : (d : ℕ) (front : Path) (outer : List Step) (s : Step) (found : Option (List LeafData)) → onto structs frame d front (outer ++ s ∷ []) found ≡ onto structs frame d front outer (option_and_then (left_in structs frame (d - length outer) (front ++ path_of outer) s) found)
  onto_last d front [] s found =
      let e : d - 0 ≡ d = omega arith in
      λ i. option_and_then (left_in structs frame (sym e i) (sym (nothing_behind front) i) s) found
  onto_last d front (x ∷ outer) s found =
      let e : d - 1 - length outer ≡ d - suc (length outer) = omega arith in
      ap (option_and_then (left_in structs frame d front x)) (onto_last (d - 1) (front ++ step_view x ∷ []) outer s found
      ∙ (λ i. onto structs frame (d - 1) (front ++ step_view x ∷ []) outer (option_and_then (left_in structs frame (e i) (append_assoc front (step_view x ∷ []) (path_of outer) i) s) found)))

  -- ---- one member more

  ended : (d : ℕ) (front : Path) (k : ℕ) (ls : List LeafData) → rest structs frame d front k [] ls ≡ Some ls
  ended d front k ls = ap Some (nothing_behind ls)

  leaf_first : (d : ℕ) (front : Path) (k : ℕ) (m : MemberData) (ms : List MemberData) (ls : List LeafData) → is_element structs m.1 ≡ true → rest structs frame d front k (m ∷ ms) ls ≡ rest structs frame d front k ms (ls ++ leaf_at frame (front ++ (k, m.0) ∷ [], m.1) ∷ [])
  leaf_first d front k m ms ls h =
      ap (λ (b : Bool). behind frame front ls (both (elim b [ true ↦ Some (((k, m.0) ∷ [], m.1) ∷ []) | false ↦ option_map (map (with_step (k, m.0))) (option_and_then (ways_within d structs) (plain_struct structs m.1)) ]) (members_ways structs (ways_within d structs) k ms))) h
      ∙ by_rest (members_ways structs (ways_within d structs) k ms)
    where
      by_rest : (o : Option (List Way)) → behind frame front ls (both (Some (((k, m.0) ∷ [], m.1) ∷ [])) o) ≡ behind frame front (ls ++ leaf_at frame (front ++ (k, m.0) ∷ [], m.1) ∷ []) o
      by_rest None = refl
      by_rest (Some ws) = ap Some (sym (append_assoc ls (leaf_at frame (front ++ (k, m.0) ∷ [], m.1) ∷ []) (map (leaf_under frame front) ws)))

  mapped_append : (front : Path) (xs ys : List Way) → map (leaf_under frame front) (xs ++ ys) ≡ map (leaf_under frame front) xs ++ map (leaf_under frame front) ys
  mapped_append front [] ys = refl
  mapped_append front (x ∷ xs) ys = ap (λ l. leaf_under frame front x ∷ l) (mapped_append front xs ys)

  -- first the ways through one member, and then those through the others
  in_turn : (front : Path) (ls : List LeafData) (a b : Option (List Way)) → behind frame front ls (both a b) ≡ option_and_then (λ found. behind frame front found b) (behind frame front ls a)
  in_turn front ls None b = refl
  in_turn front ls (Some xs) None = refl
  in_turn front ls (Some xs) (Some ys) = ap Some (ap (λ l. ls ++ l) (mapped_append front xs ys) ∙ sym (append_assoc ls (map (leaf_under frame front) xs) (map (leaf_under frame front) ys)))

  other_ways : (d k : ℕ) (m : MemberData) → is_element structs m.1 ≡ false → member_ways structs (ways_within d structs) k m ≡ option_map (map (with_step (k, m.0))) (option_and_then (ways_within d structs) (plain_struct structs m.1))
  other_ways d k m h = ap (λ (b : Bool). elim b [ true ↦ Some (((k, m.0) ∷ [], m.1) ∷ []) | false ↦ option_map (map (with_step (k, m.0))) (option_and_then (ways_within d structs) (plain_struct structs m.1)) ]) h

  -- a struct that stands for its members is there
  struct_there : (t : TyData) (j : ℕ) → plain_struct structs t ≡ Some j → (d : ℕ) → ways_within (suc d) structs j ≡ members_ways structs (ways_within d structs) j (members_of structs j)
  struct_there void j h d = absurd cc
  struct_there (arithmetic a) j h d = absurd cc
  struct_there (pointer t) j h d = absurd cc
  struct_there (array t n) j h d = absurd cc
  struct_there (structure i) j h d = by_found (slice_get structs i) refl h
    where
      by_plain : (s : StructData) (b : Bool) → slice_get structs i ≡ Some s → plain_if b i ≡ Some j → ways_within (suc d) structs j ≡ members_ways structs (ways_within d structs) j (members_of structs j)
      by_plain s true g f = absurd cc
      by_plain s false g f =
          let e : i ≡ j = cc in
          let there : slice_get structs j ≡ Some s = ap (slice_get structs) (sym e) ∙ g in
          ap (option_and_then (λ (x : StructData). members_ways structs (ways_within d structs) j x.members)) there
          ∙ sym (ap (λ (o : Option StructData). members_ways structs (ways_within d structs) j (elim o [ None ↦ [] | Some x ↦ x.members ])) there)

      by_found : (o : Option StructData) → slice_get structs i ≡ o → option_and_then (plain_number i) o ≡ Some j → ways_within (suc d) structs j ≡ members_ways structs (ways_within d structs) j (members_of structs j)
      by_found None g f = absurd cc
      by_found (Some s) g f = by_plain s s.varchar g f

  -- first the members of the struct that a member is, and then the other members
  struct_first : (d : ℕ) (front : Path) (k j : ℕ) (m : MemberData) (ms : List MemberData) (ls : List LeafData) → is_element structs m.1 ≡ false → plain_struct structs m.1 ≡ Some j
      → rest structs frame (suc d) front k (m ∷ ms) ls ≡ option_and_then (rest structs frame (suc d) front k ms) (rest structs frame d (front ++ (k, m.0) ∷ []) j (members_of structs j) ls)
  struct_first d front k j m ms ls h g =
      let inside = members_ways structs (ways_within d structs) j (members_of structs j) in
      let own : member_ways structs (ways_within (suc d) structs) k m ≡ option_map (map (with_step (k, m.0))) inside =
      other_ways (suc d) k m h ∙ ap (λ (o : Option ℕ). option_map (map (with_step (k, m.0))) (option_and_then (ways_within (suc d) structs) o)) g ∙ ap (option_map (map (with_step (k, m.0)))) (struct_there m.1 j g d) in
      in_turn front ls (member_ways structs (ways_within (suc d) structs) k m) (members_ways structs (ways_within (suc d) structs) k ms)
      ∙ ap (λ (o : Option (List Way)). option_and_then (rest structs frame (suc d) front k ms) (behind frame front ls o)) own
      ∙ ap (option_and_then (rest structs frame (suc d) front k ms)) (sym (stepped frame front ls (k, m.0) inside))

  -- a member that is no struct has none
  none_first : (d : ℕ) (front : Path) (k : ℕ) (m : MemberData) (ms : List MemberData) (ls : List LeafData) → is_element structs m.1 ≡ false → plain_struct structs m.1 ≡ None → rest structs frame d front k (m ∷ ms) ls ≡ None
  none_first d front k m ms ls h g =
      in_turn front ls (member_ways structs (ways_within d structs) k m) (members_ways structs (ways_within d structs) k ms)
      ∙ ap (λ (o : Option (List Way)). option_and_then (rest structs frame d front k ms) (behind frame front ls o)) (other_ways d k m h ∙ ap (λ (o : Option ℕ). option_map (map (with_step (k, m.0))) (option_and_then (ways_within d structs) o)) g)

  -- nor has a struct that lies too deep
  deep_first : (front : Path) (k j : ℕ) (m : MemberData) (ms : List MemberData) (ls : List LeafData) → is_element structs m.1 ≡ false → plain_struct structs m.1 ≡ Some j → rest structs frame 0 front k (m ∷ ms) ls ≡ None
  deep_first front k j m ms ls h g =
      in_turn front ls (member_ways structs (ways_within 0 structs) k m) (members_ways structs (ways_within 0 structs) k ms)
      ∙ ap (λ (o : Option (List Way)). option_and_then (rest structs frame 0 front k ms) (behind frame front ls o)) (other_ways 0 k m h ∙ ap (λ (o : Option ℕ). option_map (map (with_step (k, m.0))) (option_and_then (ways_within 0 structs) o)) g)

  -- ---- turns, with what is left of the struct that is gone through

  -- what all come to, with these structs round the one that is gone through
  abbrev pub total : List Step → ℕ → List MemberData → List LeafData → Option (List LeafData)
  total outer k ms ls = onto structs frame (length structs - 1) [] outer (rest structs frame (length structs - 1 - length outer) (path_of outer) k ms ls)

  pub all_left : (k : ℕ) (ls : List LeafData) → total [] k [] ls ≡ Some ls
  all_left k ls = ended (length structs - 1 - 0) [] k ls

  pub turn_left : (outer : List Step) (s : Step) (k : ℕ) (ls : List LeafData) → total outer s.id (drop s.next (members_of structs s.id)) ls ≡ total (outer ++ s ∷ []) k [] ls
  turn_left outer s k ls =
      sym (onto_last (length structs - 1) [] outer s (rest structs frame (length structs - 1 - length (outer ++ s ∷ [])) (path_of (outer ++ s ∷ [])) k [] ls)
      ∙ ap (λ o. onto structs frame (length structs - 1) [] outer (option_and_then (left_in structs frame (length structs - 1 - length outer) (path_of outer) s) o)) (ended (length structs - 1 - length (outer ++ s ∷ [])) (path_of (outer ++ s ∷ [])) k ls))

  pub turn_leaf : (outer : List Step) (k : ℕ) (m : MemberData) (ms : List MemberData) (ls : List LeafData) → is_element structs m.1 ≡ true → total outer k ms (ls ++ leaf_at frame (path_of outer ++ (k, m.0) ∷ [], m.1) ∷ []) ≡ total outer k (m ∷ ms) ls
  turn_leaf outer k m ms ls h = ap (onto structs frame (length structs - 1) [] outer) (sym (leaf_first (length structs - 1 - length outer) (path_of outer) k m ms ls h))

  path_longer : (outer : List Step) (s : Step) → path_of (outer ++ s ∷ []) ≡ path_of outer ++ step_view s ∷ []
  path_longer [] s = refl
  path_longer (x ∷ outer) s = ap (λ l. step_view x ∷ l) (path_longer outer s)

  pub turn_entered : (outer : List Step) (s : Step) (m : MemberData) (j : ℕ) (ls : List LeafData) → s.name ≡ m.0 → is_element structs m.1 ≡ false → plain_struct structs m.1 ≡ Some j → nat_le (length structs - length outer) 1 ≡ false
      → total (outer ++ s ∷ []) j (members_of structs j) ls ≡ total outer s.id (m ∷ drop s.next (members_of structs s.id)) ls
  turn_entered outer s m j ls n h g deep =
      let d = length structs - 1 - length outer - 1 in
      let e : length structs - 1 - length (outer ++ s ∷ []) ≡ d = let l = length-append outer (s ∷ []) in omega (arith, l) in
      let f : length structs - 1 - length outer ≡ suc d = grind (arith, nat_tests, deep) in
      let ms = drop s.next (members_of structs s.id) in
      let front : path_of (outer ++ s ∷ []) ≡ path_of outer ++ (s.id, m.0) ∷ [] = path_longer outer s ∙ ap (λ (x : Text). path_of outer ++ (s.id, x) ∷ []) n in
      onto_last (length structs - 1) [] outer s (rest structs frame (length structs - 1 - length (outer ++ s ∷ [])) (path_of (outer ++ s ∷ [])) j (members_of structs j) ls)
      ∙ (λ i. onto structs frame (length structs - 1) [] outer (option_and_then (rest structs frame (f i) (path_of outer) s.id ms) (rest structs frame (e i) (front i) j (members_of structs j) ls)))
      ∙ sym (ap (onto structs frame (length structs - 1) [] outer) (struct_first d (path_of outer) s.id j m ms ls h g))
      ∙ (λ i. onto structs frame (length structs - 1) [] outer (rest structs frame (sym f i) (path_of outer) s.id (m ∷ ms) ls))

  pub turn_deep : (outer : List Step) (k j : ℕ) (m : MemberData) (ms : List MemberData) (ls : List LeafData) → is_element structs m.1 ≡ false → plain_struct structs m.1 ≡ Some j → nat_le (length structs - length outer) 1 ≡ true → total outer k (m ∷ ms) ls ≡ None
  turn_deep outer k j m ms ls h g deep =
      let e : length structs - 1 - length outer ≡ 0 = grind (arith, nat_tests, deep) in
      ap (λ d. onto structs frame (length structs - 1) [] outer (rest structs frame d (path_of outer) k (m ∷ ms) ls)) e
      ∙ ap (onto structs frame (length structs - 1) [] outer) (deep_first (path_of outer) k j m ms ls h g)
      ∙ onto_none (length structs - 1) [] outer

  pub turn_none : (outer : List Step) (k : ℕ) (m : MemberData) (ms : List MemberData) (ls : List LeafData) → is_element structs m.1 ≡ false → plain_struct structs m.1 ≡ None → total outer k (m ∷ ms) ls ≡ None
  turn_none outer k m ms ls h g =
      ap (onto structs frame (length structs - 1) [] outer) (none_first (length structs - 1 - length outer) (path_of outer) k m ms ls h g)
      ∙ onto_none (length structs - 1) [] outer

  -- a walk from the first member of a struct comes to the leaves of that struct
  pub walk_begun : (k : ℕ) (d : StructData) → slice_get structs k ≡ Some d → total [] k (members_of structs k) [] ≡ option_map (map (leaf_at frame)) (ways structs k)
  walk_begun k d got =
      let depth = length structs - 1 - 0 in
      let n : suc depth ≡ length structs = let b = below structs k d got in omega (arith, b) in
      let shown : ways_within (suc depth) structs k ≡ members_ways structs (ways_within depth structs) k (members_of structs k) =
      ap (option_and_then (λ (x : StructData). members_ways structs (ways_within depth structs) k x.members)) got
      ∙ sym (ap (λ (o : Option StructData). members_ways structs (ways_within depth structs) k (elim o [ None ↦ [] | Some x ↦ x.members ])) got) in
      ap (behind frame [] []) (sym shown) ∙ all_within frame structs k (suc depth) n
