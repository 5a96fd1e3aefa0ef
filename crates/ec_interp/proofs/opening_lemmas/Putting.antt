-- Bytes that are put into the last object of a memory.
use Rattle.std.proofs.Common.{◌≡◌, ◌∙◌, refl, sym, ap, subst, arith, ℕ, zero, suc, ◌+◌, ◌-◌, ◌^◌, ◌<◌, ◌≤◌, true, List, [], ◌∷◌, ◌++◌, map, length, replicate, take, drop, get_or, Some, Result, Ok, Err, slice_get, slice_set}
use Rattle.std.specs.Prelude.{nat_le, if◌then◌else◌}
use Rattle.std.proofs.lemmas.Bool.Decides.{nat_tests}
use Rattle.std.proofs.lemmas.List.{drop_more, drop-replicate, length-map, map-append, take-map, drop-map}
use Rattle.ec_base.specs.declared.stop.Trap.{Trap}
use Rattle.ec_base.specs.declared.stop.Trap.TheVariants.{Outside}
use Rattle.ec_bytes.proofs.Places.{length_written}
use Rattle.ec_code.specs.declared.program.Stored.{Stored}
use Rattle.ec_code.specs.Objects.{AreInside, stored_view}
use Rattle.ec_memory.specs.Store.{outcome}
use Rattle.ec_memory_defs.specs.Cells.{Cell, set_cells, written}
use Rattle.ec_memory_defs.specs.Memory.{Memory, ObjectData, alive, and_then, cells_found, object_cells, object_of, offset_of, pointer_to, put, with_cells}
use Rattle.ec_meaning_defs.specs.resolved.Programs.{with_values}
use Rattle.ec_interp.specs.opening.Filling.{IsLast}

-- ---- the last object of a memory

last_found : (m : Memory) (x : ObjectData) → slice_get (m ++ x ∷ []) (length m) ≡ Some x
last_found [] x = refl
last_found (y ∷ m) x = last_found m x

last_set : (m : Memory) (x y : ObjectData) → slice_set (m ++ x ∷ []) (length m) y ≡ m ++ y ∷ []
last_set [] x y = refl
last_set (z ∷ m) x y = ap (λ n. z ∷ n) (last_set m x y)

object_at : (n at : ℕ) → at < 2 ^ 32 → object_of (pointer_to n 0 + at) ≡ n
object_at n at h = omega (arith, h)

offset_at : (n at : ℕ) → at < 2 ^ 32 → offset_of (pointer_to n 0 + at) ≡ at
offset_at n at h = omega (arith, h)

one_less : (n : ℕ) → suc n - 1 ≡ n
one_less n = omega arith

-- bytes are written as cells are
cells_written : (bytes part : List ℕ) (at : ℕ) → written (set_cells bytes) at (set_cells part) ≡ set_cells (written bytes at part)
cells_written bytes part at =
    (λ i. take-map Some at bytes i ++ set_cells part ++ drop (at + length-map part Some i) (set_cells bytes))
    ∙ ap (λ xs. map Some (take at bytes) ++ set_cells part ++ xs) (drop-map Some (at + length part) bytes)
    ∙ ap (λ xs. xs ++ map Some (drop (at + length part) bytes)) (sym (map-append Some (take at bytes) part))
    ∙ sym (map-append Some (take at bytes ++ part) (drop (at + length part) bytes))

fits_true : (a b : ℕ) → a ≤ b → nat_le a b ≡ true
fits_true a b h = grind (arith, nat_tests, h)

put_last : (m : Memory) (cells piece : List Cell) (at : ℕ) → at < 2 ^ 32 → at + length piece ≤ length cells
    → with_cells (m ++ alive cells ∷ []) (pointer_to (suc (length m)) 0 + at) piece ≡ Ok (m ++ alive (written cells at piece) ∷ [])
put_last m cells piece at near fits =
    let whole = m ++ alive cells ∷ [] in
    let n = suc (length m) in
    (λ i. and_then (object_cells whole (object_at n at near i)) (λ found.
    if nat_le (offset_at n at near i + length piece) (length found) then Ok (slice_set whole (object_at n at near i - 1) (alive (written found (offset_at n at near i) piece))) else Err Outside))
    ∙ ap (λ r. and_then (cells_found r) (λ found.
    if nat_le (at + length piece) (length found) then Ok (slice_set whole (n - 1) (alive (written found at piece))) else Err Outside)) (last_found m (alive cells))
    ∙ ap (λ b. if b then Ok (slice_set whole (n - 1) (alive (written cells at piece))) else Err Outside) (fits_true (at + length piece) (length cells) fits)
    ∙ ap (λ k. Ok (slice_set whole k (alive (written cells at piece)))) (one_less (length m))
    ∙ ap Ok (last_set m (alive cells) (alive (written cells at piece)))

-- what `put` leaves
left : {A : Type 0} (r : Result A Trap) (m new : Memory) → outcome r new ≡ Ok m → new ≡ m
left (Ok a) m new e = cc e
left (Err t) m new e = absurd (bad e)
  where
    bad : Err t ≡ Ok m → ⊥
    bad e = cc e

pub part_put : {A : Type 0} (r : Result A Trap) (old new before : Memory) (p q at : ℕ) (bytes part : List ℕ)
    → outcome r new ≡ put old q part → q ≡ p + at → at ≤ 2 ^ 24 → IsLast old p before bytes → at + length part ≤ length bytes
    → IsLast new p before (written bytes at part)
part_put r old new before p q at bytes part does e near last fits =
    let same : q ≡ pointer_to (suc (length before)) 0 + at = e ∙ ap (λ n. n + at) last.pointer in
    let whole : length (set_cells bytes) ≡ length bytes = length-map bytes Some in
    let piece : length (set_cells part) ≡ length part = length-map part Some in
    record {
      memory =
          left r (before ++ alive (written (set_cells bytes) at (set_cells part)) ∷ []) new
          (does ∙ (λ i. put (last.memory i) (same i) part) ∙ put_last before (set_cells bytes) (set_cells part) at (omega (arith, near)) (omega (arith, whole, piece, fits)))
          ∙ ap (λ cells. before ++ alive cells ∷ []) (cells_written bytes part at);
      pointer = last.pointer;
    }

-- ---- the parts of an initializer

-- what is left to be put
pub record Filling (store : Memory) (p size : ℕ) (before : Memory) (left : List Stored) (whole : List ℕ) : Type 0 where
  pub bytes : List ℕ
  pub last : IsLast store p before bytes
  pub sized : length bytes ≡ size
  pub rest : with_values bytes (map stored_view left) ≡ whole

pub filling : (store : Memory) (p size : ℕ) (before : Memory) (parts : List Stored) (bytes : List ℕ) → IsLast store p before bytes → length bytes ≡ size → Filling store p size before parts (with_values bytes (map stored_view parts))
filling store p size before parts bytes last sized = record { bytes = bytes; last = last; sized = sized; rest = refl }

pub filled : (store : Memory) (p size : ℕ) (before : Memory) (left : List Stored) (whole : List ℕ) → left ≡ [] → Filling store p size before left whole → IsLast store p before whole
filled store p size before left whole e f = subst (IsLast store p before) (ap (λ xs. with_values f.bytes (map stored_view xs)) (sym e) ∙ f.rest) f.last

pub one_filled : (old new : Memory) (p size : ℕ) (before : Memory) (part : Stored) (left : List Stored) (whole : List ℕ)
    → ((before : Memory) (bytes : List ℕ) → IsLast old p before bytes → part.at + length part.bytes ≤ length bytes → IsLast new p before (written bytes part.at part.bytes))
    → part.at + length part.bytes ≤ size
    → Filling old p size before (part ∷ left) whole → Filling new p size before left whole
one_filled old new p size before part left whole puts fits f = record {
  bytes = written f.bytes part.at part.bytes;
  last = puts before f.bytes f.last (omega (arith, fits, f.sized));
  sized = length_written f.bytes part.at part.bytes (omega (arith, fits, f.sized)) ∙ f.sized;
  rest = f.rest;
}

-- each part lies inside
pub part_inside : (size : ℕ) (parts : List Stored) (i : ℕ) (d : Stored) → AreInside size parts → i < length parts → (get_or parts i d).at + length (get_or parts i d).bytes ≤ size
part_inside size [] i d h l = absurd (omega (arith, l))
part_inside size (p ∷ ps) zero d h l = h.0
part_inside size (p ∷ ps) (suc i) d h l = part_inside size ps i d h.1 (omega (arith, l))

-- the next thing of a loop
pub item : {A : Type 0} (xs : List A) (i : ℕ) (x : A) → i < length xs → x ≡ get_or xs i x → drop i xs ≡ x ∷ drop (i + 1) xs
item xs i x l e = drop_more xs i x l ∙ ap (λ y. y ∷ drop (i + 1) xs) (sym e)

-- the parts change no length
pub length_values : (size : ℕ) (parts : List Stored) (bytes : List ℕ) → length bytes ≡ size → AreInside size parts → length (with_values bytes (map stored_view parts)) ≡ size
length_values size [] bytes e h = e
length_values size (p ∷ ps) bytes e h = length_values size ps (written bytes p.at p.bytes) (length_written bytes p.at p.bytes (omega (arith, h.0, e)) ∙ e) h.1

-- bytes, and a zero byte behind them
abbrev zeros : ℕ → List ℕ
zeros n = replicate n 0

pub literal_written : (bytes : List ℕ) → written (replicate (length bytes + 1) 0) 0 bytes ≡ bytes ++ 0 ∷ []
literal_written bytes =
    let none : 0 + length bytes ≡ length bytes = omega arith in
    let one : length bytes + 1 - length bytes ≡ 1 = omega arith in
    ap (λ n. bytes ++ drop n (zeros (length bytes + 1))) none
    ∙ ap (λ xs. bytes ++ xs) (drop-replicate {X = ℕ} (length bytes) (length bytes + 1) 0 ∙ ap zeros one)
