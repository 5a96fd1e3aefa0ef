-- The leaves of a host, found where it is read or stored, are those that are written for it: so an element of a member of an array of structs is first and so many times the distance.
use Rattle.std.proofs.Common.{◌≡◌, ◌∙◌, ℕ, zero, suc, Bool, true, false, cond, List, [], ◌∷◌, ◌++◌, map, length, slice_get, Option, Some, None, option_map, option_and_then, refl, sym}
use Rattle.ec_ctypes.specs.trees.Types.{TyData, void, arithmetic, pointer, array, structure, MemberData, StructData}
use Rattle.ec_ctypes.specs.trees.Embedded.{HostData}
use Rattle.ec_host_defs.specs.Bound.{pairs_of}
use Rattle.ec_host_defs.specs.Elements.{is_element, plain_struct, plain_if, plain_number}
use Rattle.ec_host_defs.specs.Faults.{value_part, indicator_part}
use Rattle.ec_host_defs.specs.Leaves.{Way, LeafData, Pair, with_step, both, member_ways, members_ways, ways_within, ways, one_element, elements, one_struct, many_structs, is_pointer, array_shape, other_shape, leaves_by, leaf_of_struct, leaf_of_structs, leaves, leaves_or_none, paired}
use Rattle.ec_host_defs.specs.Programs.{ProgramData, Denoted, reference_type}
use Rattle.ec_direct_defs.specs.Hosts.{joined, through_members, ways_through, ways_from, Repeated, once, times, parts_of, repeated_in, whole_leaf, member_leaf, leaves_of_repeated, leaves_of_type, with_indicators, leaves_with_indicators}

joined_same : {A : Type 0} (xs ys : Option (List A)) → joined xs ys ≡ both xs ys
joined_same None ys = refl
joined_same (Some xs) None = refl
joined_same (Some xs) (Some ys) = refl

module _ (structs : List StructData) where
  -- ---- members

  -- one member, by the ways through structs
  member_same : (f g : ℕ → Option (List Way)) → ((k : ℕ) → f k ≡ g k) → (k : ℕ) (m : MemberData)
      → option_map (map (with_step (k, m.0))) (cond (is_element structs m.1) (Some (([], m.1) ∷ [])) (option_and_then f (plain_struct structs m.1)))
      ≡ member_ways structs g k m
  member_same f g same k m = go (is_element structs m.1)
    where
      go : (b : Bool) → option_map (map (with_step (k, m.0))) (cond b (Some (([], m.1) ∷ [])) (option_and_then f (plain_struct structs m.1)))
          ≡ elim b [ true ↦ Some (((k, m.0) ∷ [], m.1) ∷ []) | false ↦ option_map (map (with_step (k, m.0))) (option_and_then g (plain_struct structs m.1)) ]
      go true = refl
      go false = λ j. option_map (map (with_step (k, m.0))) (option_and_then (λ k. same k j) (plain_struct structs m.1))

  members_same : (f g : ℕ → Option (List Way)) → ((k : ℕ) → f k ≡ g k) → (k : ℕ) (ms : List MemberData) → through_members (ways_from structs f) k ms ≡ members_ways structs g k ms
  members_same f g same k [] = refl
  members_same f g same k (m ∷ ms) =
      joined_same (option_map (map (with_step (k, m.0))) (ways_from structs f m.1)) (through_members (ways_from structs f) k ms)
      ∙ (λ j. both (member_same f g same k m j) (members_same f g same k ms j))

  through_same : (depth k : ℕ) → ways_through structs depth k ≡ ways_within depth structs k
  through_same zero k = refl
  through_same (suc depth) k = λ j. option_and_then (λ d. members_same (ways_through structs depth) (ways_within depth structs) (through_same depth) k d.members j) (slice_get structs k)

  -- ---- hosts

  -- an array of these, which are no pointers
  abbrev array_of : TyData → ℕ → Repeated
  array_of u n = record { type = u; count = n; in_array = true }

  -- of structs
  members_apart : (k n : ℕ) (d : Option StructData)
      → option_map (map (member_leaf (array_of (structure k) n))) (option_and_then (ways_through structs (length structs)) (option_and_then (plain_number k) d))
      ≡ option_and_then (leaves_by structs (array (structure k) n)) (option_map (λ k. many_structs k n) (option_and_then (plain_number k) d))
  members_apart k n None = refl
  members_apart k n (Some d) = go d.varchar
    where
      go : (b : Bool) → option_map (map (member_leaf (array_of (structure k) n))) (option_and_then (ways_through structs (length structs)) (plain_if b k))
          ≡ option_and_then (leaves_by structs (array (structure k) n)) (option_map (λ k. many_structs k n) (plain_if b k))
      go true = refl
      go false = λ j. option_map (map (leaf_of_structs k n)) (through_same (length structs) k j)

  -- elements, or structs
  repeated_same : (u : TyData) (n : ℕ) → is_pointer u ≡ false
      → option_map (map (member_leaf (array_of u n))) (option_and_then (ways_through structs (length structs)) (plain_struct structs u))
      ≡ option_and_then (leaves_by structs (array u n)) (option_map (λ k. many_structs k n) (plain_struct structs u))
      → leaves_of_repeated structs (array u n) (array_of u n) ≡ option_and_then (leaves_by structs (array u n)) (array_shape structs u n)
  repeated_same u n plain members = go (is_element structs u) ∙ (λ j. option_and_then (leaves_by structs (array u n)) (elim (is_element structs u) [
    | true ↦ elim (sym plain j) [ true ↦ None | false ↦ Some (elements u n) ]
    | false ↦ option_map (λ k. many_structs k n) (plain_struct structs u)
  ]))
    where
      go : (b : Bool)
          → cond b (Some (whole_leaf (array u n) (array_of u n) ∷ [])) (option_map (map (member_leaf (array_of u n))) (option_and_then (ways_through structs (length structs)) (plain_struct structs u)))
          ≡ option_and_then (leaves_by structs (array u n)) (elim b [ true ↦ Some (elements u n) | false ↦ option_map (λ k. many_structs k n) (plain_struct structs u) ])
      go true = refl
      go false = members

  array_same : (u : TyData) (n : ℕ) → option_and_then (leaves_of_repeated structs (array u n)) (times u n) ≡ option_and_then (leaves_by structs (array u n)) (array_shape structs u n)
  array_same void n = repeated_same void n refl refl
  array_same (arithmetic a) n = repeated_same (arithmetic a) n refl refl
  array_same (array t m) n = repeated_same (array t m) n refl refl
  array_same (structure k) n = repeated_same (structure k) n refl (members_apart k n (slice_get structs k))
  array_same (pointer t) n = go (is_element structs (pointer t))
    where
      go : (b : Bool) → None ≡ option_and_then (leaves_by structs (array (pointer t) n)) (elim b [
        | true ↦ None
        | false ↦ None
      ])
      go true = refl
      go false = refl

  -- what is no element itself
  other_same : (t : TyData) → is_element structs t ≡ false → option_and_then (leaves_of_repeated structs t) (parts_of t) ≡ option_and_then (leaves_by structs t) (other_shape structs t)
  other_same void e = refl
  other_same (arithmetic a) e = refl
  other_same (pointer t) e = refl
  other_same (array u n) e = array_same u n
  other_same (structure k) e =
      (λ j. cond (e j) (Some (whole_leaf (structure k) (once (structure k)) ∷ []))
      (option_map (map (member_leaf (once (structure k)))) (option_and_then (ways_through structs (length structs)) (plain_struct structs (structure k)))))
      ∙ go (plain_struct structs (structure k))
    where
      go : (n : Option ℕ) → option_map (map (member_leaf (once (structure k)))) (option_and_then (ways_through structs (length structs)) n)
          ≡ option_and_then (leaves_by structs (structure k)) (option_map one_struct n)
      go None = refl
      go (Some n) = λ j. option_map (map leaf_of_struct) (through_same (length structs) n j)

  host_same : (t : TyData) → option_and_then (leaves_of_repeated structs t) (repeated_in structs t) ≡ leaves structs t
  host_same t = go (is_element structs t) refl
    where
      go : (b : Bool) → is_element structs t ≡ b
          → option_and_then (leaves_of_repeated structs t) (cond b (Some (once t)) (parts_of t))
          ≡ option_and_then (leaves_by structs t) (elim b [ true ↦ Some one_element | false ↦ other_shape structs t ])
      go true e = λ j. cond (e j) (Some (whole_leaf t (once t) ∷ [])) (option_map (map (member_leaf (once t))) (option_and_then (ways_through structs (length structs)) (plain_struct structs t)))
      go false e = other_same t e

  of_type : (t : Option TyData) → leaves_of_type structs t ≡ leaves_or_none structs t
  of_type None = refl
  of_type (Some t) = λ j. elim (host_same t j) [ None ↦ [] | Some ls ↦ ls ]

indicated : (ls is : List LeafData) → with_indicators ls is ≡ paired ls is
indicated [] is = refl
indicated (l ∷ ls) [] = λ j. (l, None) ∷ indicated ls [] j
indicated (l ∷ ls) (i ∷ is) = λ j. (l, Some i) ∷ indicated ls is j

-- the leaves of a host with those of its indicator
pub own_pairs : (p : ProgramData) (h : HostData) (ds : Denoted) → leaves_with_indicators p h ds ≡ pairs_of p h ds
own_pairs p h ds =
    indicated (leaves_of_type p.structs (reference_type p h.value (value_part h ds)))
    (leaves_of_type p.structs (option_and_then (λ i. reference_type p i (indicator_part h ds)) h.indicator))
    ∙ (λ j. paired (of_type p.structs (reference_type p h.value (value_part h ds)) j)
    (of_type p.structs (option_and_then (λ i. reference_type p i (indicator_part h ds)) h.indicator) j))
