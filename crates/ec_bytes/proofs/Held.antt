-- What holds of the first bytes and marks, of which there may be more than cells.
use Rattle.std.proofs.Common.{◌≡◌, ◌==◌, ◌∙◌, sym, ap, ℕ, ◌+◌, ◌-◌, ◌≤◌, true, false, None, Some, List, ◌++◌, length, take, drop, replicate, arith, length-append, length-drop}
use Rattle.std.proofs.Math.Seq.{take-add, take-append-add}
use Rattle.std.proofs.lemmas.List.{append-nil, drop_all, length-take-le, length-replicate, take-take, drop-take}
use Rattle.std.specs.List.{list_all}
use Rattle.ec_memory_defs.specs.Cells.{Cell, part_of, bytes_of, written, set_cells, unset_cells}
use Rattle.ec_bytes.specs.Region.{Holds, cells_of, held, run_of}
use Rattle.ec_bytes.proofs.Cells.{length_cells, join_cells, cells_unset, copied, put_set, read_set, read_unset, take_cells, unset}
use Rattle.ec_bytes.proofs.Runs.{run_part}

-- there are as many marks as bytes
as_many : (len : ℕ) (bytes marks : List ℕ) → Holds len bytes marks → length (take len marks) ≡ length (take len bytes)
as_many len bytes marks holds = length-take-le len marks holds.1 ∙ sym (length-take-le len bytes holds.0)

-- there are so many cells
pub held_length : (len : ℕ) (bytes marks : List ℕ) → Holds len bytes marks → length (held len bytes marks) ≡ len
held_length len bytes marks holds =
    length_cells (take len bytes) (take len marks) (as_many len bytes marks holds) ∙ length-take-le len bytes holds.0

-- so as many as a view of them has
pub view_length : (cells : List Cell) (len : ℕ) (bytes marks : List ℕ) → held len bytes marks ≡ cells → Holds len bytes marks → length cells ≡ len
view_length cells len bytes marks view holds = sym (ap length view) ∙ held_length len bytes marks holds

-- a piece written among the first items
take_written : (xs : List ℕ) (len at : ℕ) (piece : List ℕ) → at + length piece ≤ len → len ≤ length xs → take len (written xs at piece) ≡ written (take len xs) at piece
take_written xs len at piece fits inside =
    let front : length (take at xs ++ piece) ≡ at + length piece = length-append (take at xs) piece ∙ ap (λ n. n + length piece) (length-take-le at xs (omega arith)) in
    let sum : len ≡ length (take at xs ++ piece) + (len - (at + length piece)) = omega (arith, front) in
    let whole : at + length piece + (len - (at + length piece)) ≡ len = omega arith in
    ap (λ m. take m (written xs at piece)) sum
    ∙ take-append-add (take at xs ++ piece) (drop (at + length piece) xs) (len - (at + length piece))
    ∙ ap (λ first. first ++ piece ++ take (len - (at + length piece)) (drop (at + length piece) xs)) (sym (take-take at len xs (omega arith)))
    ∙ ap (λ rest. take at (take len xs) ++ piece ++ rest) (sym (drop-take (at + length piece) (len - (at + length piece)) xs) ∙ ap (λ m. drop (at + length piece) (take m xs)) whole)

-- a piece written at the end
written_end : (xs : List ℕ) (at : ℕ) (piece : List ℕ) → length xs ≡ at + length piece → written xs at piece ≡ take at xs ++ piece
written_end xs at piece whole =
    ap (λ rest. take at xs ++ piece ++ rest) (drop_all (at + length piece) xs (omega arith)) ∙ append-nil (take at xs ++ piece)

-- items in the middle of the first ones
pub part_front : (xs : List ℕ) (len at n : ℕ) → at + n ≤ len → take n (drop at (take len xs)) ≡ take n (drop at xs)
part_front xs len at n fits =
    let whole : len ≡ at + (len - at) = omega arith in
    ap (λ m. take n (drop at (take m xs))) whole
    ∙ ap (take n) (drop-take at (len - at) xs)
    ∙ take-take n (len - at) (drop at xs) (omega arith)

module _ (cells : List Cell) (len : ℕ) (bytes marks : List ℕ) (view : held len bytes marks ≡ cells) (holds : Holds len bytes marks) where
  -- what lies among the cells lies among the first items
  inside : (at n : ℕ) → at + n ≤ length cells → at + n ≤ len
  inside at n fits = omega (arith, fits, view_length cells len bytes marks view holds)

  -- what is read where each cell is set
  pub held_set : (at n : ℕ) → at + n ≤ length cells → true ≡ list_all (λ mark. mark == 1) (take n (drop at marks)) → Some (take n (drop at bytes)) ≡ bytes_of (part_of cells at n)
  held_set at n fits all =
      let within = inside at n fits in
      ap Some (sym (part_front bytes len at n within))
      ∙ sym (read_set cells (take len bytes) (take len marks) at n view (as_many len bytes marks holds)
      (ap (list_all (λ mark. mark == 1)) (part_front marks len at n within) ∙ sym all))

  -- and where one is not
  pub held_unset : (at n : ℕ) → at + n ≤ length cells → false ≡ list_all (λ mark. mark == 1) (take n (drop at marks)) → None ≡ bytes_of (part_of cells at n)
  held_unset at n fits all =
      sym (read_unset cells (take len bytes) (take len marks) at n view (as_many len bytes marks holds)
      (ap (list_all (λ mark. mark == 1)) (part_front marks len at n (inside at n fits)) ∙ sym all))

  -- the run of a part
  pub held_run : (at n : ℕ) (piece run set : List ℕ) → at + n ≤ length cells → run ≡ run_of (cells_of piece set) → piece ≡ take n (drop at bytes) → set ≡ take n (drop at marks) → run ≡ run_of (part_of cells at n)
  held_run at n piece run set fits is p s =
      let within = inside at n fits in
      run_part cells (take len bytes) (take len marks) at n piece run set is
      (p ∙ sym (part_front bytes len at n within)) (s ∙ sym (part_front marks len at n within)) view

  -- bytes written, all of them set
  pub held_put : (at : ℕ) (piece : List ℕ) (n : ℕ) (after marked : List ℕ) → at + n ≤ length cells → length piece ≡ n → after ≡ written bytes at piece → marked ≡ written marks at (replicate n 1) → held len after marked ≡ written cells at (set_cells piece)
  held_put at piece n after marked fits whole a m =
      let within = inside at n fits in
      put_set cells (take len bytes) (take len marks) at piece n (take len after) (take len marked) view (as_many len bytes marks holds) fits whole
      (ap (take len) a ∙ take_written bytes len at piece (omega arith) holds.0)
      (ap (take len) m ∙ take_written marks len at (replicate n 1) (omega (arith, length-replicate {A = ℕ} n 1)) holds.1)

  -- marks taken away
  pub held_cleared : (at n : ℕ) (marked : List ℕ) → at + n ≤ length cells → marked ≡ written marks at (replicate n 0) → held len bytes marked ≡ written cells at (unset_cells n)
  held_cleared at n marked fits m =
      let within = inside at n fits in
      unset cells (take len bytes) (take len marks) at n (take len marked) view (as_many len bytes marks holds) fits
      (ap (take len) m ∙ take_written marks len at (replicate n 0) (omega (arith, length-replicate {A = ℕ} n 0)) holds.1)

  -- cells copied from one place to another
  pub held_copied : (from to n : ℕ) (after marked : List ℕ) → from + n ≤ length cells → to + n ≤ length cells → after ≡ written bytes to (take n (drop from bytes)) → marked ≡ written marks to (take n (drop from marks)) → held len after marked ≡ written cells to (part_of cells from n)
  held_copied from to n after marked source target a m =
      let within = inside from n source in
      let room = inside to n target in
      let whole : length (take n (drop from bytes)) ≡ n = length-take-le n (drop from bytes) (omega (arith, length-drop from bytes, holds.0)) in
      let whole_marks : length (take n (drop from marks)) ≡ n = length-take-le n (drop from marks) (omega (arith, length-drop from marks, holds.1)) in
      copied cells (take len bytes) (take len marks) from to n (take len after) (take len marked) view (as_many len bytes marks holds) source target
      (ap (take len) a ∙ take_written bytes len to (take n (drop from bytes)) (omega arith) holds.0 ∙ ap (written (take len bytes) to) (sym (part_front bytes len from n within)))
      (ap (take len) m ∙ take_written marks len to (take n (drop from marks)) (omega arith) holds.1 ∙ ap (written (take len marks) to) (sym (part_front marks len from n within)))

  -- as many cells as before, where there are as many bytes and marks
  pub held_kept : (after marked : List ℕ) → length after ≡ length bytes → length marked ≡ length marks → length (held len after marked) ≡ length cells
  held_kept after marked a m =
      held_length len after marked (omega (arith, holds.0), omega (arith, holds.1)) ∙ sym (view_length cells len bytes marks view holds)

  -- the first cells
  pub held_cut : (fewer : ℕ) → fewer ≤ length cells → held fewer bytes marks ≡ take fewer cells
  held_cut fewer fits =
      let few : fewer ≤ len = omega (arith, fits, view_length cells len bytes marks view holds) in
      ap (λ those. cells_of those (take fewer marks)) (sym (take-take fewer len bytes few))
      ∙ ap (cells_of (take fewer (take len bytes))) (sym (take-take fewer len marks few))
      ∙ sym (take_cells fewer (take len bytes) (take len marks)) ∙ ap (take fewer) view

  -- other bytes and marks of which the first are these
  pub held_same : (after marked : List ℕ) → take len after ≡ take len bytes → take len marked ≡ take len marks → held len after marked ≡ cells
  held_same after marked a m = ap (λ those. cells_of those (take len marked)) a ∙ ap (cells_of (take len bytes)) m ∙ view

  -- unset cells put behind them
  pub held_grown : (n : ℕ) (after room marked : List ℕ) → len + n ≤ length after → len + n ≤ length room → take len after ≡ take len bytes → take len room ≡ take len marks → marked ≡ written room len (replicate n 0) → held (len + n) after marked ≡ cells ++ unset_cells n
  held_grown n after room marked bs ms a r m =
      let new : length (take n (drop len after)) ≡ n = length-take-le n (drop len after) (omega (arith, length-drop len after)) in
      let first_marks : take (len + n) marked ≡ take len marks ++ replicate n 0 =
      ap (take (len + n)) m ∙ take_written room (len + n) len (replicate n 0) (omega (arith, length-replicate {A = ℕ} n 0)) ms
      ∙ written_end (take (len + n) room) len (replicate n 0) (length-take-le (len + n) room ms ∙ ap (λ k. len + k) (sym (length-replicate {A = ℕ} n 0)))
      ∙ ap (λ first. first ++ replicate n 0) (take-take len (len + n) room (omega arith) ∙ r) in
      ap (λ those. cells_of those (take (len + n) marked)) (take-add len n after ∙ ap (λ those. those ++ take n (drop len after)) a)
      ∙ ap (cells_of (take len bytes ++ take n (drop len after))) first_marks
      ∙ join_cells (take len bytes) (take len marks) (take n (drop len after)) (replicate n 0) (as_many len bytes marks holds)
      ∙ ap (λ front. front ++ cells_of (take n (drop len after)) (replicate n 0)) view
      ∙ ap (λ rest. cells ++ rest) (cells_unset (take n (drop len after)) n (sym new))

-- what search and grind need of the cells
pub ruleset cells = (held_length)
