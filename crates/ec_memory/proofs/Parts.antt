-- Bytes that are put in parts, each right behind the one before, are put at once.
use Rattle.std.proofs.Common.{◌≡◌, ◌∙◌, sym, ap, refl, ℕ, zero, suc, ◌+◌, ◌-◌, ◌^◌, ◌<◌, ◌≤◌, Bool, true, false, List, [], ◌∷◌, ◌++◌, length, take, drop, replicate, slice_get, slice_set, Some, Result, Ok, Err, arith, length-append, length-drop}
use Rattle.std.specs.Prelude.{nat_le, if◌then◌else◌}
use Rattle.std.proofs.lemmas.Bool.Decides.{nat_tests}
use Rattle.std.proofs.lemmas.List.{length-take-le, map-append, length-map}
use Rattle.ec_base.specs.declared.stop.Trap.{Trap}
use Rattle.ec_base.specs.declared.stop.Trap.TheVariants.{Outside}
use Rattle.ec_memory.proofs.Joined.{written_behind, filled}
use Rattle.ec_memory.proofs.Objects.{write_at, write_fits}
use Rattle.ec_memory_defs.specs.Cells.{Cell, written, set_cells, filled_cells}
use Rattle.ec_memory_defs.specs.Memory.{ObjectData, alive, Memory, cells_found, object_cells, object_of, offset_of, with_cells, put, fill}

-- what was written, and where
record Wrote (m after : Memory) (p : ℕ) (piece : List Cell) : Type 0 where
  cells : List Cell
  found : object_cells m (object_of p) ≡ Ok cells
  fits : offset_of p + length piece ≤ length cells
  is : slice_set m (object_of p - 1) (alive (written cells (offset_of p) piece)) ≡ after

wrote_piece : (m after : Memory) (p : ℕ) (piece : List Cell) → with_cells m p piece ≡ Ok after → Wrote m after p piece
wrote_piece m after p piece e = of_found (object_cells m (object_of p)) refl e
  where
    by_test : (cells : List Cell) (b : Bool) → object_cells m (object_of p) ≡ Ok cells → nat_le (offset_of p + length piece) (length cells) ≡ b → (if b then Ok (slice_set m (object_of p - 1) (alive (written cells (offset_of p) piece))) else Err Outside) ≡ Ok after → Wrote m after p piece
    by_test cells true found test e = record { cells = cells; found = found; fits = grind (arith, nat_tests, test); is = cc }
    by_test cells false found test e = cc

    of_found : (r : Result (List Cell) Trap) → object_cells m (object_of p) ≡ r → write_at m (object_of p - 1) (offset_of p) piece r ≡ Ok after → Wrote m after p piece
    of_found (Err t) found e = cc
    of_found (Ok cells) found e = by_test cells (nat_le (offset_of p + length piece) (length cells)) found refl e

-- an object that is found is found with its new cells once these are set
set_there : (m : Memory) (k : ℕ) (x : ObjectData) (cells : List Cell) → cells_found (slice_get m k) ≡ Ok cells → slice_get (slice_set m k x) k ≡ Some x
set_there [] k x cells e = cc
set_there (o ∷ m) zero x cells e = refl
set_there (o ∷ m) (suc k) x cells e = set_there m k x cells e

found_again : (m : Memory) (n i : ℕ) (cells new : List Cell) → i ≡ n - 1 → object_cells m n ≡ Ok cells → object_cells (slice_set m i (alive new)) n ≡ Ok new
found_again m zero i cells new is e = cc
found_again m (suc k) i cells new is e =
    let same : i ≡ k = omega (arith, is) in
    ap (λ j. cells_found (slice_get (slice_set m j (alive new)) k)) same ∙ ap cells_found (set_there m k (alive new) cells e)

-- what is set last stays
set_twice : (m : Memory) (k : ℕ) (x y : ObjectData) → slice_set (slice_set m k x) k y ≡ slice_set m k y
set_twice [] k x y = refl
set_twice (o ∷ m) zero x y = refl
set_twice (o ∷ m) (suc k) x y = ap (λ rest. o ∷ rest) (set_twice m k x y)

-- as many cells as before
written_length : (cells : List Cell) (at : ℕ) (piece : List Cell) → at + length piece ≤ length cells → length (written cells at piece) ≡ length cells
written_length cells at piece fits =
    let rest : List Cell = drop (at + length piece) cells in
    let all = length-append (take at cells ++ piece) rest in
    let front = length-append (take at cells) piece in
    let kept = length-take-le at cells (omega (arith, fits)) in
    omega (arith, all, front, kept, length-drop (at + length piece) cells, fits)

-- what is found is one
one_found : (r : Result (List Cell) Trap) (xs ys : List Cell) → r ≡ Ok xs → r ≡ Ok ys → xs ≡ ys
one_found (Err t) xs ys e f = cc
one_found (Ok zs) xs ys e f = cc

-- two pieces, the second right behind the first
pub with_behind : (m first after : Memory) (p k : ℕ) (a b : List Cell) → with_cells m p a ≡ Ok first → k ≡ length a → offset_of p + k < 2 ^ 32 → with_cells first (p + k) b ≡ Ok after → with_cells m p (a ++ b) ≡ Ok after
with_behind m first after p k a b e whole near f =
    let one = wrote_piece m first p a e in
    let two = wrote_piece first after (p + k) b f in
    let new : List Cell = written one.cells (offset_of p) a in
    let offset : offset_of (p + k) ≡ offset_of p + k = omega (arith, near) in
    let object : object_of (p + k) ≡ object_of p = omega (arith, near) in
    let there : object_cells first (object_of p) ≡ Ok new = ap (λ m. object_cells m (object_of p)) (sym one.is) ∙ found_again m (object_of p) (object_of p - 1) one.cells new refl one.found in
    let same : two.cells ≡ new = one_found (object_cells first (object_of p)) two.cells new (ap (object_cells first) (sym object) ∙ two.found) there in
    let many = written_length one.cells (offset_of p) a one.fits in
    let inside : offset_of p + length (a ++ b) ≤ length one.cells = omega (arith, length-append a b, two.fits, ap length same, many, offset, whole) in
    ap (write_at m (object_of p - 1) (offset_of p) (a ++ b)) one.found
    ∙ write_fits m (object_of p - 1) (offset_of p) (a ++ b) one.cells inside
    ∙ ap Ok (ap (λ c. slice_set m (object_of p - 1) (alive c)) (sym (written_behind one.cells (offset_of p) (offset_of p + k) a b (omega (arith, one.fits)) (omega (arith, whole))))
    ∙ sym (set_twice m (object_of p - 1) (alive new) (alive (written new (offset_of p + k) b)))
    ∙ ap (λ m. slice_set m (object_of p - 1) (alive (written new (offset_of p + k) b))) one.is
    ∙ ap (λ c. slice_set first (object_of p - 1) (alive (written c (offset_of p + k) b))) (sym same)
    ∙ ap (λ o. slice_set first (object_of p - 1) (alive (written two.cells o b))) (sym offset)
    ∙ ap (λ n. slice_set first (n - 1) (alive (written two.cells (offset_of (p + k)) b))) (sym object)
    ∙ two.is)

-- bytes behind bytes
pub put_behind : (m first after : Memory) (p k : ℕ) (a b : List ℕ) → put m p a ≡ Ok first → k ≡ length a → offset_of p + k < 2 ^ 32 → put first (p + k) b ≡ Ok after → put m p (a ++ b) ≡ Ok after
put_behind m first after p k a b e whole near f =
    ap (with_cells m p) (map-append Some a b)
    ∙ with_behind m first after p k (set_cells a) (set_cells b) e (whole ∙ sym (length-map a Some)) near f

-- zero bytes behind bytes
pub zeros_behind : (m first after : Memory) (p k n : ℕ) (a : List ℕ) → put m p a ≡ Ok first → k ≡ length a → offset_of p + k < 2 ^ 32 → fill first (p + k) n 0 ≡ Ok after → put m p (a ++ replicate n 0) ≡ Ok after
zeros_behind m first after p k n a e whole near f =
    put_behind m first after p k a (replicate n 0) e whole near (ap (with_cells first (p + k)) (filled n 0) ∙ f)
