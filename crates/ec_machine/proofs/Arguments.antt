-- Parameters of int are made with their values, one by one.
use Rattle.std.proofs.Common.{◌≡◌, ◌∙◌, refl, sym, ap, subst, arith, map, ℕ, ℤ, suc, ◌+◌, ◌-◌, ◌^◌, ◌<◌, ◌≤◌, true, List, [], ◌∷◌, ◌++◌, length, drop, None, Some, Ok, Err, append_assoc}
use Rattle.std.specs.Prelude.{nat_le, nat_lt, if◌then◌else◌, ◌&&◌, slice_get, slice_set}
use Rattle.std.proofs.lemmas.Bool.Decides.{nat_tests}
use Rattle.std.proofs.lemmas.List.{drop_at, length-append, length-replicate}
use Rattle.ec_base.specs.declared.stop.Trap.TheVariants.{Outside, Spent}
use Rattle.ec_meaning_defs.specs.evaluation.Results.{Res, changed, given, made, tried}
use Rattle.ec_meaning_defs.specs.evaluation.State.{State}
use Rattle.ec_memory.specs.Room.{HasRoom, int_cells}
use Rattle.ec_memory_defs.specs.Cells.{Cell, unset_cells, written}
use Rattle.ec_memory_defs.specs.Kinds.{kind_type}
use Rattle.ec_memory_defs.specs.declared.kind.Kind.{Kind}
use Rattle.ec_memory_defs.specs.declared.kind.Kind.TheVariants as kind
use Rattle.ec_memory_defs.specs.Memory.{Memory, ObjectData, ScalarType, ValueData, alive, and_then, cells_found, ended, live_bytes, number, object_cells, object_of, offset_of, pointer_to, scalar_size, store, with_object}
use Rattle.ec_plain.specs.Answered.{at}
use Rattle.ec_machine.specs.Arguments.{with_arguments}

-- ---- an object among others

found_there : (m xs : Memory) (x : ObjectData) → slice_get (m ++ x ∷ xs) (length m) ≡ Some x
found_there [] xs x = refl
found_there (y ∷ m) xs x = found_there m xs x

set_there : (m xs : Memory) (x y : ObjectData) → slice_set (m ++ x ∷ xs) (length m) y ≡ m ++ y ∷ xs
set_there [] xs x y = refl
set_there (z ∷ m) xs x y = ap (λ n. z ∷ n) (set_there m xs x y)

object_there : (n : ℕ) → object_of (pointer_to n 0) ≡ n
object_there n = omega arith

offset_there : (n : ℕ) → offset_of (pointer_to n 0) ≡ 0
offset_there n = omega arith

one_less : (n : ℕ) → suc n - 1 ≡ n
one_less n = omega arith

live_behind : (m xs : Memory) → live_bytes (m ++ xs) ≡ live_bytes m + live_bytes xs
live_behind [] xs = omega arith
live_behind (alive cells ∷ m) xs = let rest = live_behind m xs in omega (arith, rest)
live_behind (ended ∷ m) xs = live_behind m xs

-- an int is stored in the object that was made for it
stored_there : (m xs : Memory) (z : ℤ) → store (m ++ alive (unset_cells 4) ∷ xs) (pointer_to (suc (length m)) 0) (kind_type kind.Int) (number z) ≡ Ok (m ++ alive (int_cells z) ∷ xs)
stored_there m xs z =
    let whole = m ++ alive (unset_cells 4) ∷ xs in
    let n = suc (length m) in
    let piece = int_cells z in
    (λ i. and_then (object_cells whole (object_there n i)) (λ found.
    if nat_le (offset_there n i + length piece) (length found) then Ok (slice_set whole (object_there n i - 1) (alive (written found (offset_there n i) piece))) else Err Outside))
    ∙ ap (λ r. and_then (cells_found r) (λ found.
    if nat_le (0 + length piece) (length found) then Ok (slice_set whole (n - 1) (alive (written found 0 piece))) else Err Outside)) (found_there m xs (alive (unset_cells 4)))
    ∙ ap (λ k. Ok (slice_set whole k (alive piece))) (one_less (length m))
    ∙ ap Ok (set_there m xs (alive (unset_cells 4)) (alive piece))

-- ---- room

-- where there is room an object is made
makes : (m : Memory) (cells : List Cell) → suc (length m) < 2 ^ 32 → live_bytes m + length cells ≤ 2 ^ 28 → with_object m cells ≡ Ok (pointer_to (suc (length m)) 0, m ++ alive cells ∷ [])
makes m cells few room =
    let one : nat_lt (suc (length m)) (2 ^ 32) ≡ true = grind (arith, nat_tests, few) in
    let two : nat_le (live_bytes m + length cells) (2 ^ 28) ≡ true = grind (arith, nat_tests, room) in
    (λ i. if one i && two i then Ok (pointer_to (suc (length m)) 0, m ++ alive cells ∷ []) else Err Spent)

-- a value of any of these types takes at most 8 bytes
pub size_small : (k : Kind) → scalar_size (kind_type k) ≤ 8
size_small kind.Bool = omega arith
size_small kind.Char = omega arith
size_small kind.UChar = omega arith
size_small kind.Short = omega arith
size_small kind.UShort = omega arith
size_small kind.Int = omega arith
size_small kind.UInt = omega arith
size_small kind.Long = omega arith
size_small kind.ULong = omega arith
size_small kind.LLong = omega arith
size_small kind.ULLong = omega arith
size_small kind.Ptr = omega arith

-- as many cells as bytes
unset_length : (n : ℕ) → length (unset_cells n) ≡ n
unset_length n = length-replicate {A = Cell} n None

-- there is room for one less behind an object
room_behind : (m : Memory) (cells : List Cell) (count : ℕ) → length cells ≤ 8 → HasRoom m (suc count) → HasRoom (m ++ alive cells ∷ []) count
room_behind m cells count small room =
    let objects = length-append m (alive cells ∷ []) in
    let bytes = live_behind m (alive cells ∷ []) in
    (omega (arith, objects, room.0), omega (arith, bytes, small, room.1))

-- ---- the order

module _ (line : ℕ) (s : State) (go : List ℕ → State → Res) (z : ℤ) (types : List ScalarType) (values : List ValueData) (m : Memory) (ps : List ℕ) where
  abbrev there : ℕ
  there = pointer_to (suc (length m)) 0

  abbrev unset : Memory → Memory
  unset xs = m ++ alive (unset_cells 4) ∷ xs

  abbrev with_value : Memory → Memory
  with_value xs = m ++ alive (int_cells z) ∷ xs

  -- the value has yet to be stored, or was stored
  abbrev before : List ℕ → State → Res
  before qs t = given line (kind_type kind.Int ∷ types) (drop (length ps) qs) (number z ∷ values) t (λ u. go qs u)

  abbrev behind : List ℕ → State → Res
  behind qs t = given line types (drop (length (ps ++ there ∷ [])) qs) values t (λ u. go qs u)

  drop_behind : (rs : List ℕ) → drop (length (ps ++ there ∷ [])) (ps ++ there ∷ rs) ≡ rs
  drop_behind rs =
      ap (drop (length (ps ++ there ∷ []))) (sym (append_assoc ps (there ∷ []) rs))
      ∙ drop_at (ps ++ there ∷ []) rs (length (ps ++ there ∷ [])) refl

  -- an object is made behind, whether or not the value was stored
  one_more : (k : Kind) (more : List Kind) (rs : List ℕ) (there_is : Memory) (rest : List ℕ → State → Res) → HasRoom there_is (suc (length more))
      → made line (map scalar_size (map kind_type (k ∷ more))) (ps ++ there ∷ rs) (at s there_is) rest
      ≡ made line (map scalar_size (map kind_type more)) (ps ++ there ∷ (rs ++ pointer_to (suc (length there_is)) 0 ∷ [])) (at s (there_is ++ alive (unset_cells (scalar_size (kind_type k))) ∷ [])) rest
  one_more k more rs there_is rest room =
      let size = scalar_size (kind_type k) in
      let whole = unset_length size in
      let small = size_small k in
      ap (λ r. tried line r (at s there_is) (λ r. made line (map scalar_size (map kind_type more)) ((ps ++ there ∷ rs) ++ r.0 ∷ []) (at s r.1) rest))
      (makes there_is (unset_cells size) (omega (arith, room.0)) (omega (arith, room.1, whole, small)))
      ∙ ap (λ qs. made line (map scalar_size (map kind_type more)) qs (at s (there_is ++ alive (unset_cells size) ∷ [])) rest) (append_assoc ps (there ∷ rs) (pointer_to (suc (length there_is)) 0 ∷ []))

  -- a value is stored before the others are made, and not behind them
  stored_before : (more : List Kind) (xs : Memory) (rs : List ℕ) → HasRoom (unset xs) (length more)
      → made line (map scalar_size (map kind_type more)) (ps ++ there ∷ rs) (at s (unset xs)) before
      ≡ made line (map scalar_size (map kind_type more)) (ps ++ there ∷ rs) (at s (with_value xs)) behind
  stored_before [] xs rs room =
      ap (λ os. given line (kind_type kind.Int ∷ types) os (number z ∷ values) (at s (unset xs)) (λ u. go (ps ++ there ∷ rs) u)) (drop_at ps (there ∷ rs) (length ps) refl)
      ∙ ap (λ r. changed line r (at s (unset xs)) (λ t. given line types rs values t (λ u. go (ps ++ there ∷ rs) u))) (stored_there m xs z)
      ∙ ap (λ os. given line types os values (at s (with_value xs)) (λ u. go (ps ++ there ∷ rs) u)) (sym (drop_behind rs))
  stored_before (k ∷ more) xs rs room =
      let o : Memory = alive (unset_cells (scalar_size (kind_type k))) ∷ [] in
      let q = pointer_to (suc (length (unset xs))) 0 in
      let whole = unset_length (scalar_size (kind_type k)) in
      let objects : length (with_value xs) ≡ length (unset xs) = length-append m (alive (int_cells z) ∷ xs) ∙ sym (length-append m (alive (unset_cells 4) ∷ xs)) in
      let bytes : live_bytes (with_value xs) ≡ live_bytes (unset xs) = live_behind m (alive (int_cells z) ∷ xs) ∙ sym (live_behind m (alive (unset_cells 4) ∷ xs)) in
      let less : HasRoom (unset xs ++ o) (length more) = room_behind (unset xs) (unset_cells (scalar_size (kind_type k))) (length more) (omega (arith, whole, size_small k)) room in
      one_more k more rs (unset xs) before room
      ∙ ap (λ n. made line (map scalar_size (map kind_type more)) (ps ++ there ∷ (rs ++ q ∷ [])) (at s n) before) (append_assoc m (alive (unset_cells 4) ∷ xs) o)
      ∙ stored_before more (xs ++ o) (rs ++ q ∷ []) (subst (λ n. HasRoom n (length more)) (append_assoc m (alive (unset_cells 4) ∷ xs) o) less)
      ∙ ap (λ n. made line (map scalar_size (map kind_type more)) (ps ++ there ∷ (rs ++ q ∷ [])) (at s n) behind) (sym (append_assoc m (alive (int_cells z) ∷ xs) o))
      ∙ ap (λ n. made line (map scalar_size (map kind_type more)) (ps ++ there ∷ (rs ++ pointer_to (suc n) 0 ∷ [])) (at s (with_value xs ++ o)) behind) (sym objects)
      ∙ sym (one_more k more rs (with_value xs) behind (omega (arith, objects, room.0), omega (arith, bytes, room.1)))

-- what is made where there is room
made_there : (z : ℤ) (count : ℕ) (m n : Memory) (p : ℕ) → with_object m (int_cells z) ≡ Ok (p, n) → HasRoom m (suc count) → ◌≡◌ {A = ℕ × Memory} (pointer_to (suc (length m)) 0, m ++ alive (int_cells z) ∷ []) (p, n)
made_there z count m n p is room =
    let both : Ok (pointer_to (suc (length m)) 0, m ++ alive (int_cells z) ∷ []) ≡ Ok (p, n) = sym (makes m (int_cells z) (omega (arith, room.0)) (omega (arith, room.1))) ∙ is in
    cc both

-- an int is made with its value
pub next_int : (line : ℕ) (s : State) (go : List ℕ → State → Res) (z : ℤ) (more : List Kind) (values : List ValueData) (m n : Memory) (p : ℕ) (ps : List ℕ) → with_object m (int_cells z) ≡ Ok (p, n) → HasRoom m (suc (length more))
    → with_arguments line (kind.Int ∷ more) (number z ∷ values) ps (at s m) go ≡ with_arguments line more values (ps ++ p ∷ []) (at s n) go
next_int line s go z more values m n p ps is room =
    let types = map kind_type more in
    let there = made_there z (length more) m n p is room in
    ap (λ r. tried line r (at s m) (λ r. made line (map scalar_size types) (ps ++ r.0 ∷ []) (at s r.1) (before line s go z types values m ps)))
    (makes m (unset_cells 4) (omega (arith, room.0)) (omega (arith, room.1)))
    ∙ stored_before line s go z types values m ps more [] [] (room_behind m (unset_cells 4) (length more) (omega arith) room)
    ∙ (λ i. with_arguments line more values (ps ++ (there i).0 ∷ []) (at s ((there i).1)) go)

-- there is room for the others
pub next_room : (z : ℤ) (count : ℕ) (m n : Memory) (p : ℕ) → with_object m (int_cells z) ≡ Ok (p, n) → HasRoom m (suc count) → HasRoom n count
next_room z count m n p is room =
    subst (λ n. HasRoom n count) (ap (λ r. r.1) (made_there z count m n p is room)) (room_behind m (int_cells z) count (omega arith) room)
