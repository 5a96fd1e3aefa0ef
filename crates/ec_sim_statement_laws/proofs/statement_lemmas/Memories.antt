-- Which objects are alive behind an access, and behind the end of a block.
use Rattle.std.proofs.Common.{◌≡◌, ◌∙◌, ℕ, zero, suc, ◌+◌, ◌-◌, Bool, true, false, List, [], ◌∷◌, ◌++◌, length, map, take, drop, Option, Some, None, Result, Ok, Err, refl, sym, subst, arith}
use Rattle.std.specs.Prelude.{nat_lt, nat_le, ◌&&◌, slice_get, slice_set, if◌then◌else◌, unsigned_abs}
use Rattle.ec_base.specs.declared.stop.Trap.{Trap}
use Rattle.ec_base.specs.declared.stop.Trap.TheVariants.{Outside}
use Rattle.ec_memory_defs.specs.Cells.{Cell, written, set_cells, filled_cells, unset_cells}
use Rattle.ec_memory_defs.specs.Memory.{Memory, ObjectData, alive, ended, and_then, object_of, offset_of, cells_found, object_cells, cells_at, with_cells, put, fill, unset, copy, moved, store, encoded, ScalarType, ValueData, make, end_to, text_at, text_up_to, with_object}
use Rattle.ec_sim_statement_laws.specs.statement.Lives.{SameLife, HaveEnded, Goes, Tidy, AnyObjects, Grown}

life_same : (o : ObjectData) → SameLife o o
life_same (alive cells) = tt
life_same ended = tt

life_then : (a b c : ObjectData) → SameLife a b → SameLife b c → SameLife a c
life_then (alive x) (alive y) (alive z) p q = tt
life_then (alive x) (alive y) ended p q = q
life_then (alive x) ended c p q = absurd p
life_then ended (alive y) c p q = absurd p
life_then ended ended c p q = q

pub tidy_same : (m : Memory) → Tidy m m
tidy_same [] = tt
tidy_same (o ∷ m) = (life_same o, tidy_same m)

pub grown_same : (m : Memory) → Grown m m
grown_same [] = tt
grown_same (o ∷ m) = (life_same o, grown_same m)

ended_then : (m n : Memory) → HaveEnded m → Tidy m n → HaveEnded n
ended_then [] n h t = t
ended_then (alive cells ∷ m) n h t = absurd h
ended_then (ended ∷ m) [] h t = absurd t
ended_then (ended ∷ m) (alive cells ∷ n) h t = absurd t.0
ended_then (ended ∷ m) (ended ∷ n) h t = ended_then m n h t.1

pub tidy_then : (m n o : Memory) → Tidy m n → Tidy n o → Tidy m o
tidy_then [] n o p q = ended_then n o p q
tidy_then (a ∷ m) [] o p q = absurd p
tidy_then (a ∷ m) (b ∷ n) [] p q = absurd q
tidy_then (a ∷ m) (b ∷ n) (c ∷ o) p q = (life_then a b c p.0 q.0, tidy_then m n o p.1 q.1)

pub grown_then : (m n o : Memory) → Grown m n → Grown n o → Grown m o
grown_then [] n o p q = tt
grown_then (a ∷ m) [] o p q = absurd p
grown_then (a ∷ m) (b ∷ n) [] p q = absurd q
grown_then (a ∷ m) (b ∷ n) (c ∷ o) p q = (life_then a b c p.0 q.0, grown_then m n o p.1 q.1)

pub tidy_grows : (m n : Memory) → Tidy m n → Grown m n
tidy_grows [] n p = tt
tidy_grows (a ∷ m) [] p = p
tidy_grows (a ∷ m) (b ∷ n) p = (p.0, tidy_grows m n p.1)

pub grown_by : (m n : Memory) → Grown m (m ++ n)
grown_by [] n = tt
grown_by (o ∷ m) n = (life_same o, grown_by m n)

-- ---- the end of a block

all_ended : (m : Memory) → HaveEnded (map (λ o. ended) m)
all_ended [] = tt
all_ended (o ∷ m) = all_ended m

still_ended : (m : Memory) → HaveEnded m → map (λ o. ended) m ≡ m
still_ended [] h = refl
still_ended (alive cells ∷ m) h = absurd h
still_ended (ended ∷ m) h = λ j. ended ∷ still_ended m h j

-- every object that was made since ends
pub grown_ended : (m n : Memory) → Grown m n → Tidy m (end_to n (length m))
grown_ended [] n p = all_ended n
grown_ended (a ∷ m) [] p = absurd p
grown_ended (a ∷ m) (b ∷ n) p = (p.0, grown_ended m n p.1)

-- where they have ended already nothing changes
pub tidy_ended : (m n : Memory) → Tidy m n → end_to n (length m) ≡ n
tidy_ended [] n p = still_ended n p
tidy_ended (a ∷ m) [] p = absurd p
tidy_ended (a ∷ m) (b ∷ n) p = λ j. b ∷ tidy_ended m n p.1 j

-- ---- accesses

abbrev pub OkIs : {A : Type 0} → (A → Type 0) → Result A Trap → Type 0
OkIs P (Ok a) = P a
OkIs P (Err trap) = Unit {0}

pub ok_then : {A B : Type 0} (P : B → Type 0) (r : Result A Trap) (k : A → Result B Trap) → ((a : A) → OkIs P (k a)) → OkIs P (and_then r k)
ok_then P (Ok a) k f = f a
ok_then P (Err trap) k f = tt

ok_if : {A : Type 0} (P : A → Type 0) (b : Bool) (a : A) (trap : Trap) → P a → OkIs P (if b then Ok a else Err trap)
ok_if P true a trap p = p
ok_if P false a trap p = tt

abbrev HasEnded : Option ObjectData → Type 0
HasEnded None = ⊥
HasEnded (Some (alive cells)) = ⊥
HasEnded (Some ended) = Unit {0}

is_alive : (o : ObjectData) {cells : List Cell} → Some o ≡ Some (alive cells) → (new : List Cell) → SameLife o (alive new)
is_alive (alive x) e new = tt
is_alive ended e new = absurd (subst HasEnded e tt)

set_tidy : (m : Memory) (i : ℕ) {cells : List Cell} (new : List Cell) → slice_get m i ≡ Some (alive cells) → Tidy m (slice_set m i (alive new))
set_tidy [] i new e = tt
set_tidy (o ∷ m) zero new e = (is_alive o e new, tidy_same m)
set_tidy (o ∷ m) (suc i) new e = (life_same o, set_tidy m i new e)

pub with_cells_tidy : (m : Memory) (p : ℕ) (piece : List Cell) → OkIs (λ n. Tidy m n) (with_cells m p piece)
with_cells_tidy m p piece = at_object (object_of p) (offset_of p)
  where
    found : (i offset : ℕ) (o : Option ObjectData) → slice_get m i ≡ o
        → OkIs (λ n. Tidy m n) (and_then (cells_found o) (λ cells. if nat_le (offset + length piece) (length cells) then Ok (slice_set m (suc i - 1) (alive (written cells offset piece))) else Err Outside))
    found i offset None e = tt
    found i offset (Some ended) e = tt
    found i offset (Some (alive cells)) e =
        ok_if (λ n. Tidy m n) (nat_le (offset + length piece) (length cells)) (slice_set m (suc i - 1) (alive (written cells offset piece))) Outside
        (let same : i ≡ suc i - 1 = omega arith in subst (λ k. Tidy m (slice_set m k (alive (written cells offset piece)))) same (set_tidy m i (written cells offset piece) e))

    at_object : (k offset : ℕ) → OkIs (λ n. Tidy m n) (and_then (object_cells m k) (λ cells. if nat_le (offset + length piece) (length cells) then Ok (slice_set m (k - 1) (alive (written cells offset piece))) else Err Outside))
    at_object zero offset = tt
    at_object (suc i) offset = found i offset (slice_get m i) refl

pub store_tidy : (m : Memory) (p : ℕ) (kind : ScalarType) (v : ValueData) → OkIs (λ n. Tidy m n) (store m p kind v)
store_tidy m p kind v = with_cells_tidy m p (set_cells (encoded kind v))

pub copy_tidy : (m : Memory) (to from n : ℕ) → OkIs (λ n. Tidy m n) (copy m to from n)
copy_tidy m to from n = ok_then (λ n. Tidy m n) (cells_at m from n) (λ cells. with_cells m to cells) (λ cells. with_cells_tidy m to cells)

pub make_grown : (m : Memory) (size : ℕ) → OkIs (λ (r : ℕ × Memory). Grown m r.1) (make m size)
make_grown m size = made (unset_cells size)
  where
    made : (cells : List Cell) → OkIs (λ (r : ℕ × Memory). Grown m r.1) (with_object m cells)
    made cells = ok_if (λ (r : ℕ × Memory). Grown m r.1) _ _ _ (grown_by m (alive cells ∷ []))
