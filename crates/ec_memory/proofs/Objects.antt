-- What pointers find in the memory of a region.
use Rattle.std.proofs.Common.{◌≡◌, ◌≢◌, ◌∙◌, sym, ap, ℕ, zero, suc, ◌+◌, ◌-◌, ◌<◌, ◌≤◌, true, false, List, length, drop, slice_get, slice_set, Result, Ok, Err, arith, length-drop}
use Rattle.std.specs.Prelude.{nat_le, if◌then◌else◌}
use Rattle.std.proofs.lemmas.Bool.Decides.{nat_tests}
use Rattle.std.proofs.lemmas.List.{length-take-le}
use Rattle.ec_base.specs.declared.stop.Trap.{Trap}
use Rattle.ec_base.specs.declared.stop.Trap.TheVariants.{Dead, Null, Outside}
use Rattle.ec_memory.specs.declared.place.Place.{Place}
use Rattle.ec_memory.specs.Objects.{memory_of, Kept, IsMissing, Holds, Placed}
use Rattle.ec_memory.proofs.Line.{lies, object_at, missing_at, written_at}
use Rattle.ec_memory.proofs.Pieces.{part_part}
use Rattle.ec_memory_defs.specs.Cells.{Cell, part_of, written}
use Rattle.ec_memory_defs.specs.Memory.{alive, Memory, and_then, object_of, offset_of, object_cells, cells_found, cells_at, with_cells}

-- n cells of what was found, from an offset on
abbrev pub read_at : ℕ → ℕ → Result (List Cell) Trap → Result (List Cell) Trap
read_at o n found = and_then found (λ cells. if nat_le (o + n) (length cells) then Ok (part_of cells o n) else Err Outside)

-- cells written into what was found
abbrev pub write_at : Memory → ℕ → ℕ → List Cell → Result (List Cell) Trap → Result Memory Trap
write_at m i o piece found = and_then found (λ cells. if nat_le (o + length piece) (length cells) then Ok (slice_set m i (alive (written cells o piece))) else Err Outside)

-- cells that fit are read
pub read_fits : (o n : ℕ) (cells : List Cell) → o + n ≤ length cells → read_at o n (Ok cells) ≡ Ok (part_of cells o n)
read_fits o n cells fits = let test : nat_le (o + n) (length cells) ≡ true = grind (arith, nat_tests) in ap (λ b. if b then Ok (part_of cells o n) else Err Outside) test

-- cells that don't fit are not
pub read_fails : (o n : ℕ) (cells : List Cell) → length cells < o + n → read_at o n (Ok cells) ≡ Err Outside
read_fails o n cells fits = let test : nat_le (o + n) (length cells) ≡ false = grind (arith, nat_tests) in ap (λ b. if b then Ok (part_of cells o n) else Err Outside) test

-- cells that fit are written
pub write_fits : (m : Memory) (i o : ℕ) (piece cells : List Cell) → o + length piece ≤ length cells → write_at m i o piece (Ok cells) ≡ Ok (slice_set m i (alive (written cells o piece)))
write_fits m i o piece cells fits =
    let test : nat_le (o + length piece) (length cells) ≡ true = grind (arith, nat_tests) in
    ap (λ b. if b then Ok (slice_set m i (alive (written cells o piece))) else Err Outside) test

-- what is found under a number is at the index below it
found_under : (m : Memory) (n i : ℕ) → i + 1 ≡ n → object_cells m n ≡ cells_found (slice_get m i)
found_under m zero i e = absurd (omega arith)
found_under m (suc n) i e = let same : n ≡ i = omega arith in ap (λ k. cells_found (slice_get m k)) same

-- null is no object
pub null_object : (m : Memory) (n k : ℕ) → k ≡ n → k ≡ 0 → object_cells m n ≡ Err Null
null_object m n k e none = ap (object_cells m) (sym e ∙ none)

-- an object that is missing is dead
pub missing_object : (made : ℕ) (cells : List Cell) (places : List Place) (n k : ℕ) → k ≡ n → k ≢ 0 → IsMissing places k → object_cells (memory_of made cells places) n ≡ Err Dead
missing_object made cells places n k e some missing =
    found_under (memory_of made cells places) n (k - 1) (omega (arith, some)) ∙ missing_at made 1 cells places (k - 1) k (omega (arith, some)) missing

-- the cells of an object that is alive
pub held_object : (made : ℕ) (cells : List Cell) (places : List Place) (n : ℕ) (p : Place) → Kept made cells places → Holds places n p → object_cells (memory_of made cells places) n ≡ Ok (part_of cells p.start p.size)
held_object made cells places n p kept holds =
    let there = lies 1 0 made (length cells) places holds.index p kept.line holds.found in
    found_under (memory_of made cells places) n (p.number - 1) (omega (arith, there.above, holds.same))
    ∙ ap cells_found (object_at made 1 0 made (length cells) cells places holds.index (p.number - 1) p.start p kept.line (omega arith) holds.found (omega (arith, there.above)) (omega arith))

-- an object has as many cells as its size
pub held_length : (made : ℕ) (cells : List Cell) (places : List Place) (n : ℕ) (p : Place) → Kept made cells places → Holds places n p → length (part_of cells p.start p.size) ≡ p.size
held_length made cells places n p kept holds =
    let there = lies 1 0 made (length cells) places holds.index p kept.line holds.found in
    length-take-le p.size (drop p.start cells) (omega (arith, length-drop p.start cells, there.ends))

-- an access that doesn't fit
pub outside_object : (made : ℕ) (cells : List Cell) (places : List Place) (p n : ℕ) (q : Place) → Kept made cells places → Holds places (object_of p) q → q.size < offset_of p + n → cells_at (memory_of made cells places) p n ≡ Err Outside
outside_object made cells places p n q kept holds far =
    ap (read_at (offset_of p) n) (held_object made cells places (object_of p) q kept holds)
    ∙ read_fails (offset_of p) n (part_of cells q.start q.size) (omega (arith, held_length made cells places (object_of p) q kept holds))

-- no object, no access
pub no_access : (m : Memory) (p n : ℕ) (t : Trap) → object_cells m (object_of p) ≡ Err t → cells_at m p n ≡ Err t
no_access m p n t e = ap (read_at (offset_of p) n) e

-- what is read lies in the region
pub room : (made : ℕ) (cells : List Cell) (places : List Place) (p n at : ℕ) → Kept made cells places → Placed places p n at → at + n ≤ length cells
room made cells places p n at kept placed =
    let there = lies 1 0 made (length cells) places placed.holds.index placed.place kept.line placed.holds.found in
    omega (arith, there.ends, placed.begins, placed.inside)

-- an access that fits
pub read_placed : (made : ℕ) (cells : List Cell) (places : List Place) (p n at : ℕ) → Kept made cells places → Placed places p n at → cells_at (memory_of made cells places) p n ≡ Ok (part_of cells at n)
read_placed made cells places p n at kept placed =
    let q = placed.place in
    ap (read_at (offset_of p) n) (held_object made cells places (object_of p) q kept placed.holds)
    ∙ read_fits (offset_of p) n (part_of cells q.start q.size) (omega (arith, placed.inside, held_length made cells places (object_of p) q kept placed.holds))
    ∙ ap Ok (part_part cells q.start q.size (offset_of p) n placed.inside ∙ ap (λ k. part_of cells k n) (sym placed.begins))

-- a write that fits
pub write_placed : (made : ℕ) (cells : List Cell) (places : List Place) (p n at : ℕ) (piece : List Cell) → Kept made cells places → Placed places p n at → length piece ≡ n → with_cells (memory_of made cells places) p piece ≡ Ok (memory_of made (written cells at piece) places)
write_placed made cells places p n at piece kept placed whole =
    let q = placed.place in
    let there = lies 1 0 made (length cells) places placed.holds.index q kept.line placed.holds.found in
    let fits : offset_of p + length piece ≤ q.size = omega (arith, placed.inside, whole) in
    let size = held_length made cells places (object_of p) q kept placed.holds in
    let index : object_of p - 1 ≡ q.number - 1 = omega (arith, placed.holds.same) in
    ap (write_at (memory_of made cells places) (object_of p - 1) (offset_of p) piece) (held_object made cells places (object_of p) q kept placed.holds)
    ∙ write_fits (memory_of made cells places) (object_of p - 1) (offset_of p) piece (part_of cells q.start q.size) (omega (arith, fits, size))
    ∙ ap (λ i. Ok (slice_set (memory_of made cells places) i (alive (written (part_of cells q.start q.size) (offset_of p) piece)))) index
    ∙ ap Ok (sym (written_at made 1 0 made (length cells) cells places placed.holds.index (q.number - 1) q.start q (offset_of p) piece kept.line (omega arith) (omega arith) placed.holds.found (omega (arith, there.above)) (omega arith) fits))
    ∙ ap (λ k. Ok (memory_of made (written cells k piece) places)) (sym placed.begins)
