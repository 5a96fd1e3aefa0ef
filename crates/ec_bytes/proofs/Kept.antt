-- What a region's memory holds after bytes were written and marks were set.
use Rattle.std.proofs.Common.{◌≡◌, ◌==◌, ◌∙◌, sym, ap, refl, ℕ, zero, suc, ◌+◌, ◌-◌, ◌*◌, ◌/◌, ◌<◌, ◌≤◌, Bool, true, false, not, None, Some, List, [], ◌∷◌, ◌++◌, length, take, drop, get_or, replicate, arith, ne_eqb, length-append, length-drop, ⊎_elim}
use Rattle.std.specs.List.{list_all, refill}
use Rattle.std.specs.Prelude.{◌&&◌, OnErr, Ok, Err}
use Rattle.std.specs.declared.result.Result.{Result}
use Rattle.std.proofs.lemmas.List.{take_at, take-take, take-append-le, length-take-le, length-replicate, drop-drop, drop_more, drop_all, get_or-drop, get_or-take}
use Rattle.std.proofs.lemmas.Bool.{both_ways, cases_lt, eq-eqb}
use Rattle.ec_memory_defs.specs.Cells.{Cell, bytes_of, part_of, filled_cells, set_cells, unset_cells, written}
use Rattle.ec_bytes.specs.Bits.{Inside, bits_of, marks_of}
use Rattle.ec_bytes.specs.Region.{Holds, Roomy, cells_of, held, run_of}
use Rattle.ec_bytes.proofs.BitLaws.{bits_append, length_bits, take_bits}
use Rattle.ec_bytes.proofs.Cells.{filled_as_set}
use Rattle.ec_bytes.proofs.Held.{held_cleared, held_copied, held_cut, held_grown, held_kept, held_put, held_run, held_same, held_set, held_unset, part_front, view_length}
use Rattle.ec_bytes.proofs.MarkLaws.{drop_written, length_marks}
use Rattle.ec_bytes.proofs.Places.{length_written, rest_written}
use Rattle.ec_bytes.proofs.Runs.{RunFrom, first_run, next_run, ends_unset, ends_zero, whole_run}

-- what is lent whole ends as what was written there
pub refilled : (xs ws : List ℕ) → length ws ≡ length xs → refill (length xs) xs ws ≡ ws
refilled xs ws same = take_at ws (drop (length ws) xs) (length xs) same

-- what holds anyway holds at an error
pub on_err : {T E P : Type 0} (r : Result T E) → P → OnErr r P
on_err (Ok x) p = tt
on_err (Err e) p = p

-- only the first bytes count
front_held : (len room : ℕ) (a b m : List ℕ) → len ≤ room → take room a ≡ take room b → held len a m ≡ held len b m
front_held len room a b m few same =
    ap (λ l. cells_of l (take len m)) (sym (take-take len room a few) ∙ ap (take len) same ∙ take-take len room b few)

module _ (cells : List Cell) (len room : ℕ) (memory : List ℕ) (view : held len memory (marks_of room memory) ≡ cells) (fits : (len ≤ room) × Roomy room memory) where
  abbrev M : List ℕ
  M = marks_of room memory

  holds : Holds len memory M
  holds = (omega (arith, fits.0, fits.1.0), omega (arith, fits.0, fits.1.1, length_marks room memory))

  -- there are so many cells
  pub region_length : len ≡ length cells
  region_length = sym (view_length cells len memory M view holds)

  pub lies : (at n : ℕ) → at + n ≤ length cells → at + n ≤ length memory
  lies at n in_cells = omega (arith, region_length, fits.0, fits.1.0)

  -- what lies in them has marks
  pub marked : (at n : ℕ) → at + n ≤ length cells → (after : List ℕ) → length after ≡ length memory → Inside room after at n
  marked at n in_cells after same = (omega (arith, region_length, fits.0), omega (arith, same, fits.1.1))

  pub read : (at n : ℕ) → at + n ≤ length cells → true ≡ list_all (λ mark. mark == 1) (take n (drop at M)) → Some (take n (drop at memory)) ≡ bytes_of (part_of cells at n)
  read = held_set cells len memory M view holds

  pub not_read : (at n : ℕ) → at + n ≤ length cells → false ≡ list_all (λ mark. mark == 1) (take n (drop at M)) → None ≡ bytes_of (part_of cells at n)
  not_read = held_unset cells len memory M view holds

  pub run_read : (at n : ℕ) (run : List ℕ) → at + n ≤ length cells → run ≡ run_of (cells_of (part_of memory at n) (part_of M at n)) → run ≡ run_of (part_of cells at n)
  run_read at n run in_cells is = held_run cells len memory M view holds at n (part_of memory at n) run (part_of M at n) in_cells is refl refl

  pub cut : (fewer : ℕ) → fewer ≤ length cells → held fewer memory M ≡ take fewer cells
  cut = held_cut cells len memory M view holds

  -- marks do not change where bytes are written
  same_marks : (at : ℕ) (piece : List ℕ) → at + length piece ≤ length cells → marks_of room (written memory at piece) ≡ M
  same_marks at piece in_cells =
      ap bits_of (rest_written memory at piece room (omega (arith, region_length, fits.0)) (omega (arith, region_length, fits.0, fits.1.0)))

  module _ (after : List ℕ) (same : length after ≡ length memory) where
    abbrev end : List ℕ
    end = refill (length memory) memory after

    abbrev now : List Cell
    now = held len end (marks_of room end)

    ended : now ≡ held len after (marks_of room after)
    ended = ap (λ b. held len b (marks_of room b)) (refilled memory after same)

    pub kept : length now ≡ length cells
    kept = ap length ended ∙ held_kept cells len memory M view holds after (marks_of room after) same (length_marks room after ∙ ap (λ l. 8 * (l - room)) same ∙ sym (length_marks room memory))

    pub put_set : (at : ℕ) (piece : List ℕ) (n : ℕ) (first : List ℕ) → at + n ≤ length cells → length piece ≡ n → first ≡ written memory at piece → take room after ≡ take room first → marks_of room after ≡ written (marks_of room first) at (replicate n 1) → now ≡ written cells at (set_cells piece)
    put_set at piece n first in_cells whole is front marks =
        let m : marks_of room after ≡ written M at (replicate n 1) = marks ∙ ap (λ l. written l at (replicate n 1)) (ap (marks_of room) is ∙ same_marks at piece (omega (arith, whole))) in
        ended ∙ front_held len room after first (marks_of room after) fits.0 front
        ∙ held_put cells len memory M view holds at piece n first (marks_of room after) in_cells whole is m

    pub cleared : (at n : ℕ) → at + n ≤ length cells → take room after ≡ take room memory → marks_of room after ≡ written M at (replicate n 0) → now ≡ written cells at (unset_cells n)
    cleared at n in_cells front marks =
        ended ∙ front_held len room after memory (marks_of room after) fits.0 front ∙ held_cleared cells len memory M view holds at n (marks_of room after) in_cells marks

    pub copied : (from to n : ℕ) (first : List ℕ) → from + n ≤ length cells → to + n ≤ length cells → first ≡ written memory to (take n (drop from memory)) → take room after ≡ take room first
        → marks_of room after ≡ written (marks_of room first) to (take n (drop from (marks_of room first))) → now ≡ written cells to (part_of cells from n)
    copied from to n first source target is front marks =
        let long : length (take n (drop from memory)) ≡ n = length-take-le n (drop from memory) (omega (arith, length-drop from memory, region_length, fits.0, fits.1.0)) in
        let m : marks_of room first ≡ M = ap (marks_of room) is ∙ same_marks to (take n (drop from memory)) (omega (arith, long)) in
        ended ∙ front_held len room after first (marks_of room after) fits.0 front
        ∙ held_copied cells len memory M view holds from to n first (marks_of room after) source target is (marks ∙ ap (λ l. written l to (take n (drop from l))) m)

  -- the memory grew, and more cells were put at the end
  pub grown : (n more : ℕ) (wide after : List ℕ) → len + n ≤ more → Roomy more wide → take room wide ≡ take room memory → take room (marks_of more wide) ≡ take room M
      → take more after ≡ take more wide → marks_of more after ≡ written (marks_of more wide) len (replicate n 0) → length after ≡ length wide → room ≤ more
      → held (len + n) (refill (length wide) wide after) (marks_of more (refill (length wide) wide after)) ≡ cells ++ unset_cells n
  grown n more wide after enough roomy bytes marks front set same larger =
      let W = marks_of more wide in
      let few = fits.0 in
      let firsts : (a b : List ℕ) → take room a ≡ take room b → take len a ≡ take len b = λ a b e. sym (take-take len room a few) ∙ ap (take len) e ∙ take-take len room b few in
      ap (λ b. held (len + n) b (marks_of more b)) (refilled wide after same)
      ∙ front_held (len + n) more after wide (marks_of more after) enough front
      ∙ held_grown cells len memory M view holds n wide W (marks_of more after) (omega (arith, enough, roomy.0)) (omega (arith, enough, roomy.1, length_marks more wide)) (firsts wide memory bytes) (firsts W M marks) set

  -- or only grew
  pub roomier : (more : ℕ) (wide : List ℕ) → take room wide ≡ take room memory → take room (marks_of more wide) ≡ take room M → held len wide (marks_of more wide) ≡ cells
  roomier more wide bytes marks =
      let few = fits.0 in
      let firsts : (a b : List ℕ) → take room a ≡ take room b → take len a ≡ take len b = λ a b e. sym (take-take len room a few) ∙ ap (take len) e ∙ take-take len room b few in
      held_same cells len memory M view holds wide (marks_of more wide) (firsts wide memory bytes) (firsts (marks_of more wide) M marks)

-- The marks that were copied behind a larger room.
pub marks_behind : (old more : ℕ) (memory wide : List ℕ) (k : ℕ) → k ≡ (old + 7) / 8 → k ≤ length memory - old → more + k ≤ length wide → take old (marks_of more (written wide more (take k (drop old memory)))) ≡ take old (marks_of old memory)
marks_behind old more memory wide k is some fits =
    let p = take k (drop old memory) in
    let lp : length p ≡ k = length-take-le k (drop old memory) (omega (arith, length-drop old memory)) in
    let z : more + 0 ≡ more = omega arith in
    let X = drop (0 + length p) (drop more wide) in
    let enough : old ≤ 8 * k = omega arith in
    ap (λ j. take old (marks_of more (written wide j p))) (sym z)
    ∙ ap (λ l. take old (bits_of l)) (drop_written wide more 0 p (omega arith))
    ∙ ap (take old) (bits_append p X) ∙ take-append-le old (bits_of p) (bits_of X) (omega (arith, length_bits p, lp))
    ∙ ap (take old) (sym (take_bits k (drop old memory))) ∙ take-take old (8 * k) (marks_of old memory) enough

-- The run of a part of the memory, at once or one byte at a time.
module _ (room : ℕ) (memory : List ℕ) (at n : ℕ) (inside : Inside room memory at n) (long : at + n ≤ length memory) where
  abbrev B : List ℕ
  B = part_of memory at n

  abbrev S : List ℕ
  S = part_of (marks_of room memory) at n

  lb : length B ≡ n
  lb = length-take-le n (drop at memory) (omega (arith, length-drop at memory))

  ls : length S ≡ n
  ls = length-take-le n (drop at (marks_of room memory)) (omega (arith, length-drop at (marks_of room memory), length_marks room memory, inside.0, inside.1))

  pub run_first : (count : ℕ) → count ≤ n → true ≡ list_all (λ mark. mark == 1) (take count (drop at (marks_of room memory))) → list_all (λ byte. not (byte == 0)) (take count (drop at memory)) ≡ true → RunFrom room memory at n count
  run_first count fits marks bytes =
      first_run count B S (omega (arith, lb)) (ls ∙ sym lb)
      (ap (list_all (λ mark. mark == 1)) (take-take count n (drop at (marks_of room memory)) fits) ∙ sym marks) (ap (list_all (λ byte. not (byte == 0))) (take-take count n (drop at memory) fits) ∙ bytes)

  inner : (xs : List ℕ) (count k : ℕ) → count + k ≤ n → take k (drop count (take n (drop at xs))) ≡ take k (drop (at + count) xs)
  inner xs count k fits = part_front (drop at xs) n count k fits ∙ ap (take k) (drop-drop count at xs)

  pub run_more : (count k : ℕ) → count + k ≤ n → RunFrom room memory at n count → true ≡ list_all (λ mark. mark == 1) (take k (drop (at + count) (marks_of room memory)))
      → list_all (λ byte. not (byte == 0)) (take k (drop (at + count) memory)) ≡ true → RunFrom room memory at n (count + k)
  run_more count k fits before marks bytes =
      next_run count k B S (omega (arith, lb)) (omega (arith, lb, ls)) before
      (ap (list_all (λ mark. mark == 1)) (inner (marks_of room memory) count k fits) ∙ sym marks) (ap (list_all (λ byte. not (byte == 0))) (inner memory count k fits) ∙ bytes)

  -- one item
  single : (xs : List ℕ) (i : ℕ) → i < length xs → take 1 (drop i xs) ≡ get_or xs i 0 ∷ []
  single xs i lt = ap (take 1) (drop_more xs i 0 lt)

  at_B : (count : ℕ) → count < n → get_or B count 0 ≡ get_or memory (at + count) 0
  at_B count lt = get_or-take n (drop at memory) count 0 lt ∙ get_or-drop at memory count 0

  at_S : (count : ℕ) → count < n → get_or S count 0 ≡ get_or (marks_of room memory) (at + count) 0
  at_S count lt = get_or-take n (drop at (marks_of room memory)) count 0 lt ∙ get_or-drop at (marks_of room memory) count 0

  there : (count : ℕ) → count < n → at + count < length (marks_of room memory)
  there count lt = omega (arith, length_marks room memory, inside.0, inside.1)

  pub run_one : (count : ℕ) → count < n → RunFrom room memory at n count → true ≡ list_all (λ mark. mark == 1) (take 1 (drop (at + count) (marks_of room memory)))
      → (get_or memory (at + count) 0 ≡ 0 → ⊥) → RunFrom room memory at n (count + 1)
  run_one count lt before marks some =
      run_more count 1 (omega arith) before marks
      (ap (list_all (λ byte. not (byte == 0))) (single memory (at + count) (omega arith)) ∙ ap (λ t. not t && true) (ne_eqb (get_or memory (at + count) 0) 0 some))

  pub run_zero : (count : ℕ) → count < n → RunFrom room memory at n count → get_or memory (at + count) 0 ≡ 0 → take count B ≡ run_of (cells_of B S)
  run_zero count lt before nought =
      whole_run (take count B) (run_of (cells_of (drop count B) (drop count S))) (run_of (cells_of B S)) before
      (ends_zero B S count 0 0 (omega (arith, lb)) (ls ∙ sym lb) (at_B count lt ∙ nought))

  pub run_unset : (count : ℕ) → count < n → RunFrom room memory at n count → false ≡ list_all (λ mark. mark == 1) (take 1 (drop (at + count) (marks_of room memory))) → take count B ≡ run_of (cells_of B S)
  run_unset count lt before unset =
      let x = get_or (marks_of room memory) (at + count) 0 in
      whole_run (take count B) (run_of (cells_of (drop count B) (drop count S))) (run_of (cells_of B S)) before
      (ends_unset B S count 0 0 (omega (arith, lb)) (ls ∙ sym lb) (λ one.
      both_ways ((x == 1) && true) (sym (ap (list_all (λ mark. mark == 1)) (single (marks_of room memory) (at + count) (there count lt))) ∙ sym unset) (ap (λ t. t && true) (eq-eqb x 1 (sym (at_S count lt) ∙ one)))))

  pub run_all : (count : ℕ) → n ≤ count → count ≤ n → RunFrom room memory at n count → take count B ≡ run_of (cells_of B S)
  run_all count ge le before =
      let d : drop count B ≡ [] = drop_all count B (omega (arith, lb)) in
      whole_run (take count B) (run_of (cells_of (drop count B) (drop count S))) (run_of (cells_of B S)) before (ap (λ l. run_of (cells_of l (drop count S))) d)

  pub run_found : (count : ℕ) → count ≤ n → true ≡ list_all (λ mark. mark == 1) (take count (drop at (marks_of room memory))) → list_all (λ byte. not (byte == 0)) (take count (drop at memory)) ≡ true
      → (count < n → get_or memory (at + count) 0 ≡ 0) → take count B ≡ run_of (cells_of B S)
  run_found count fits marks bytes end =
      ⊎_elim (λ lt. run_zero count lt (run_first count fits marks bytes) (end lt)) (λ ge. run_all count ge fits (run_first count fits marks bytes)) (cases_lt count n)
