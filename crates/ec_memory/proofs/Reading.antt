-- Reads of bytes and of texts.
use Rattle.std.proofs.Common.{◌≡◌, ℕ, zero, suc, ◌+◌, ◌-◌, ◌<◌, ◌≤◌, Bool, true, false, List, [], ◌∷◌, length, take, drop, Option, Some, None, Result, Ok, Err, refl, sym, ap, ◌∙◌, arith, length-drop}
use Rattle.std.specs.Option.{option_map}
use Rattle.std.specs.Prelude.{nat_le, if◌then◌else◌}
use Rattle.std.proofs.lemmas.List.{length-take-le, take-take, drop-take, drop-drop}
use Rattle.std.proofs.lemmas.Bool.Decides.{nat_tests}
use Rattle.ec_base.specs.declared.stop.Trap.{Trap}
use Rattle.ec_base.specs.declared.stop.Trap.TheVariants.{Outside, Unset}
use Rattle.ec_bytes.specs.Region.{run_of}
use Rattle.ec_memory.specs.declared.place.Place.{Place}
use Rattle.ec_memory.specs.Objects.{memory_of, Kept, Holds, Placed}
use Rattle.ec_memory.proofs.Objects.{read_at, read_placed, held_object}
use Rattle.ec_memory.proofs.Pieces.{part_part}
use Rattle.ec_memory_defs.specs.Cells.{Cell, bytes_of, part_of}
use Rattle.ec_memory_defs.specs.Memory.{Memory, and_then, object_of, offset_of, object_cells, cells_at, or_unset, span, text_of, text_at, front_of}

-- the bytes of cells, or that one of them is unset
abbrev pub read_bytes : List Cell → Result (List ℕ) Trap
read_bytes cells = or_unset (bytes_of cells)

-- what a region reads, or that a cell is unset, is what the access gives
pub span_placed : (made : ℕ) (cells : List Cell) (places : List Place) (p n at : ℕ) (bytes : Option (List ℕ)) → Kept made cells places → Placed places p n at → bytes ≡ bytes_of (part_of cells at n) → or_unset bytes ≡ span (memory_of made cells places) p n
span_placed made cells places p n at bytes kept placed read =
    sym (ap (λ r. and_then r read_bytes) (read_placed made cells places p n at kept placed) ∙ ap or_unset (sym read))

-- an access that traps gives no bytes
pub span_trapped : (m : Memory) (p n : ℕ) (t : Trap) → cells_at m p n ≡ Err t → Err t ≡ span m p n
span_trapped m p n t e = sym (ap (λ r. and_then r read_bytes) e)

-- a run that ends at a zero byte, or at a cell that is unset
abbrev pub or_zero : List ℕ → Option (List ℕ) → Result (List ℕ) Trap
or_zero run None = Err Unset
or_zero run (Some byte) = Ok run

-- a text that fills the cells has no end
pub text_all : (cells : List Cell) → length (run_of cells) ≡ length cells → text_of cells ≡ Err Outside
text_all [] e = refl
text_all (None ∷ cells) e = absurd (omega arith)
text_all (Some zero ∷ cells) e = absurd (omega arith)
text_all (Some (suc b) ∷ cells) e = ap (λ r. and_then r (λ bs. Ok (suc b ∷ bs))) (text_all cells (omega arith))

-- one that ends before a cell that is set ends at a zero byte
pub text_zero : (cells : List Cell) (bytes : List ℕ) → length (run_of cells) < length cells → Some bytes ≡ bytes_of (part_of cells (length (run_of cells)) 1) → text_of cells ≡ Ok (run_of cells)
text_zero [] bytes within e = absurd (omega arith)
text_zero (None ∷ cells) bytes within e = cc
text_zero (Some zero ∷ cells) bytes within e = refl
text_zero (Some (suc b) ∷ cells) bytes within e = ap (λ r. and_then r (λ bs. Ok (suc b ∷ bs))) (text_zero cells bytes (omega arith) e)

-- and else at one that is unset
pub text_unset : (cells : List Cell) → length (run_of cells) < length cells → None ≡ bytes_of (part_of cells (length (run_of cells)) 1) → text_of cells ≡ Err Unset
text_unset [] within e = absurd (omega arith)
text_unset (None ∷ cells) within e = refl
text_unset (Some zero ∷ cells) within e = cc
text_unset (Some (suc b) ∷ cells) within e = ap (λ r. and_then r (λ bs. Ok (suc b ∷ bs))) (text_unset cells (omega arith) e)

-- as many bytes as may be read
pub front_full : (n : ℕ) (cells : List Cell) → length (run_of (take n cells)) ≡ n → front_of n cells ≡ Ok (run_of (take n cells))
front_full zero cells e = refl
front_full (suc n) [] e = absurd (omega arith)
front_full (suc n) (None ∷ cells) e = absurd (omega arith)
front_full (suc n) (Some zero ∷ cells) e = refl
front_full (suc n) (Some (suc b) ∷ cells) e = ap (λ r. and_then r (λ bs. Ok (suc b ∷ bs))) (front_full n cells (omega arith))

-- a limit beyond the cells is none
pub front_far : (n : ℕ) (cells : List Cell) → length cells < n → text_of cells ≡ front_of n cells
front_far zero cells far = absurd (omega arith)
front_far (suc n) [] far = refl
front_far (suc n) (None ∷ cells) far = refl
front_far (suc n) (Some zero ∷ cells) far = refl
front_far (suc n) (Some (suc b) ∷ cells) far = ap (λ r. and_then r (λ bs. Ok (suc b ∷ bs))) (front_far n cells (omega arith))

-- or a zero byte stands behind fewer
pub front_zero : (n : ℕ) (cells : List Cell) (bytes : List ℕ) → length (run_of (take n cells)) < n → length (run_of (take n cells)) < length cells → Some bytes ≡ bytes_of (part_of cells (length (run_of (take n cells))) 1) → front_of n cells ≡ Ok (run_of (take n cells))
front_zero zero cells bytes less within e = absurd (omega arith)
front_zero (suc n) [] bytes less within e = absurd (omega arith)
front_zero (suc n) (None ∷ cells) bytes less within e = cc
front_zero (suc n) (Some zero ∷ cells) bytes less within e = refl
front_zero (suc n) (Some (suc b) ∷ cells) bytes less within e = ap (λ r. and_then r (λ bs. Ok (suc b ∷ bs))) (front_zero n cells bytes (omega arith) (omega arith) e)

-- or an unset cell
pub front_unset : (n : ℕ) (cells : List Cell) → length (run_of (take n cells)) < n → length (run_of (take n cells)) < length cells → None ≡ bytes_of (part_of cells (length (run_of (take n cells))) 1) → front_of n cells ≡ Err Unset
front_unset zero cells less within e = absurd (omega arith)
front_unset (suc n) [] less within e = absurd (omega arith)
front_unset (suc n) (None ∷ cells) less within e = refl
front_unset (suc n) (Some zero ∷ cells) less within e = cc
front_unset (suc n) (Some (suc b) ∷ cells) less within e = ap (λ r. and_then r (λ bs. Ok (suc b ∷ bs))) (front_unset n cells (omega arith) (omega arith) e)

-- the cells of an object from a pointer on
pub left_cells : (cells : List Cell) (start size o : ℕ) → o ≤ size → drop o (part_of cells start size) ≡ part_of cells (start + o) (size - o)
left_cells cells start size o within =
    let sum : size ≡ o + (size - o) = omega arith in
    ap (λ n. drop o (take n (drop start cells))) sum ∙ drop-take o (size - o) (drop start cells) ∙ ap (take (size - o)) (drop-drop o start cells)

-- a text is that of the cells from its pointer on
pub text_held : (made : ℕ) (cells : List Cell) (places : List Place) (p : ℕ) (q : Place) → Kept made cells places → Holds places (object_of p) q → text_at (memory_of made cells places) p ≡ text_of (drop (offset_of p) (part_of cells q.start q.size))
text_held made cells places p q kept holds = ap (λ r. and_then r (λ cells. text_of (drop (offset_of p) cells))) (held_object made cells places (object_of p) q kept holds)

-- as many bytes as cells
pub bytes_length : (cells : List Cell) (bytes : List ℕ) → read_bytes cells ≡ Ok bytes → length bytes ≡ length cells
bytes_length [] bytes e = let none : [] ≡ bytes = cc in ap length (sym none)
bytes_length (None ∷ cells) bytes e = cc
bytes_length (Some b ∷ cells) bytes e = one_more (bytes_of cells) (λ rest is. bytes_length cells rest (ap or_unset is)) e
  where
    one_more : (o : Option (List ℕ)) → ((rest : List ℕ) → o ≡ Some rest → length rest ≡ length cells) → or_unset (option_map (λ bs. b ∷ bs) o) ≡ Ok bytes → length bytes ≡ suc (length cells)
    one_more None same e = cc
    one_more (Some rest) same e = let is : b ∷ rest ≡ bytes = cc in ap length (sym is) ∙ ap suc (same rest refl)

-- as many cells as the access reads
read_length : (o n : ℕ) (found : Result (List Cell) Trap) (cells : List Cell) → read_at o n found ≡ Ok cells → length cells ≡ n
read_length o n (Err t) cells e = cc
read_length o n (Ok those) cells e = either (nat_le (o + n) (length those)) refl e
  where
    either : (b : Bool) → nat_le (o + n) (length those) ≡ b → (if b then Ok (part_of those o n) else Err Outside) ≡ Ok cells → length cells ≡ n
    either false test e = cc
    either true test e =
        let is : part_of those o n ≡ cells = cc in
        let fits : o + n ≤ length those = grind (arith, nat_tests) in
        ap length (sym is) ∙ length-take-le n (drop o those) (omega (arith, length-drop o those))

-- as many bytes as the access reads
pub span_length : (m : Memory) (p n : ℕ) (bytes : List ℕ) → Ok bytes ≡ span m p n → length bytes ≡ n
span_length m p n bytes e = of_cells (cells_at m p n) (λ cells is. read_length (offset_of p) n (object_cells m (object_of p)) cells is) (sym e)
  where
    of_cells : (r : Result (List Cell) Trap) → ((cells : List Cell) → r ≡ Ok cells → length cells ≡ n) → and_then r read_bytes ≡ Ok bytes → length bytes ≡ n
    of_cells (Err t) same e = cc
    of_cells (Ok cells) same e = bytes_length cells bytes e ∙ same cells refl

-- the cell behind the bytes that were read
pub cell_behind : (cells : List Cell) (at left r : ℕ) → r < left → part_of cells (at + r) 1 ≡ part_of (part_of cells at left) r 1
cell_behind cells at left r within = sym (part_part cells at left r 1 (omega arith))

-- a part has as many cells as are asked for
pub part_length : (cells : List Cell) (at n : ℕ) → at + n ≤ length cells → length (part_of cells at n) ≡ n
part_length cells at n fits = length-take-le n (drop at cells) (omega (arith, length-drop at cells))

-- a run is no longer than its cells
pub run_bound : (cells : List Cell) → length (run_of cells) ≤ length cells
run_bound [] = omega arith
run_bound (None ∷ cells) = omega arith
run_bound (Some zero ∷ cells) = omega arith
run_bound (Some (suc b) ∷ cells) = omega (arith, run_bound cells)

-- a text by its run and the cell behind it
pub text_by_run : (cells : List Cell) (at left : ℕ) (run : List ℕ) (byte : Option (List ℕ)) → at + left ≤ length cells → run ≡ run_of (part_of cells at left) → length run < left → byte ≡ bytes_of (part_of cells (at + length run) 1) → or_zero run byte ≡ text_of (part_of cells at left)
text_by_run cells at left run byte fits is less e = of_byte byte e
  where
    there : part_of cells (at + length run) 1 ≡ part_of (part_of cells at left) (length (run_of (part_of cells at left))) 1
    there = cell_behind cells at left (length run) less ∙ ap (λ r. part_of (part_of cells at left) (length r) 1) is

    within : length (run_of (part_of cells at left)) < length (part_of cells at left)
    within = omega (arith, ap length is, part_length cells at left fits)

    of_byte : (b : Option (List ℕ)) → b ≡ bytes_of (part_of cells (at + length run) 1) → or_zero run b ≡ text_of (part_of cells at left)
    of_byte None e = sym (text_unset (part_of cells at left) within (e ∙ ap bytes_of there))
    of_byte (Some b) e = ap Ok is ∙ sym (text_zero (part_of cells at left) b within (e ∙ ap bytes_of there))

-- the same with a limit
pub front_by_run : (cells : List Cell) (at left limit : ℕ) (run : List ℕ) (byte : Option (List ℕ)) → at + left ≤ length cells → limit ≤ left → run ≡ run_of (part_of cells at limit) → length run < limit → byte ≡ bytes_of (part_of cells (at + length run) 1) → or_zero run byte ≡ front_of limit (part_of cells at left)
front_by_run cells at left limit run byte fits few is less e = of_byte byte e
  where
    front : run ≡ run_of (take limit (part_of cells at left))
    front = is ∙ ap run_of (sym (take-take limit left (drop at cells) few))

    there : part_of cells (at + length run) 1 ≡ part_of (part_of cells at left) (length (run_of (take limit (part_of cells at left)))) 1
    there = cell_behind cells at left (length run) (omega arith) ∙ ap (λ r. part_of (part_of cells at left) (length r) 1) front

    short : length (run_of (take limit (part_of cells at left))) < limit
    short = omega (arith, ap length front)

    within : length (run_of (take limit (part_of cells at left))) < length (part_of cells at left)
    within = omega (arith, ap length front, part_length cells at left fits)

    of_byte : (b : Option (List ℕ)) → b ≡ bytes_of (part_of cells (at + length run) 1) → or_zero run b ≡ front_of limit (part_of cells at left)
    of_byte None e = sym (front_unset limit (part_of cells at left) short within (e ∙ ap bytes_of there))
    of_byte (Some b) e = ap Ok front ∙ sym (front_zero limit (part_of cells at left) b short within (e ∙ ap bytes_of there))

-- and where the limit ends it
pub front_filled : (cells : List Cell) (at left limit : ℕ) (run : List ℕ) → limit ≤ left → run ≡ run_of (part_of cells at limit) → length run ≡ limit → Ok run ≡ front_of limit (part_of cells at left)
front_filled cells at left limit run few is all =
    let front : run ≡ run_of (take limit (part_of cells at left)) = is ∙ ap run_of (sym (take-take limit left (drop at cells) few)) in
    ap Ok front ∙ sym (front_full limit (part_of cells at left) (ap length (sym front) ∙ all))
