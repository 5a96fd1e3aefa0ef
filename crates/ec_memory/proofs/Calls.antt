-- What the calls of a store do, in the words of the definition of memory.
use Rattle.std.proofs.Common.{◌≡◌, ◌∙◌, sym, ap, subst, refl, ℕ, suc, ◌+◌, ◌-◌, ◌^◌, ◌<◌, ◌≤◌, Bool, true, false, List, [], ◌∷◌, ◌++◌, length, get_or, take, drop, slice_get, slice_set, Option, Some, None, Result, Ok, Err, ℤ, arith, length-append}
use Rattle.std.specs.Prelude.{nat_lt, nat_le, ◌&&◌, if◌then◌else◌}
use Rattle.std.specs.Option.{option_map}
use Rattle.ec_bytes.specs.Scalars.{AreBytes, HoldBytes}
use Rattle.std.proofs.lemmas.Bool.Decides.{nat_tests}
use Rattle.std.proofs.lemmas.List.{drop_all, take_all, take_at, length-take-le, length-replicate, append-nil}
use Rattle.std.proofs.lemmas.Option.{slice_get-get_or}
use Rattle.ec_base.specs.declared.stop.Trap.{Trap}
use Rattle.ec_base.specs.declared.stop.Trap.TheVariants.{Outside, Spent}
use Rattle.ec_memory.specs.Room.{int_cells}
use Rattle.ec_memory.specs.declared.place.Place.{Place}
use Rattle.ec_memory.specs.Objects.{memory_of, InLine, Kept, IsRising, Holds, Placed, Behind}
use Rattle.ec_memory.specs.Moves.{moved_within}
use Rattle.ec_memory.specs.Store.{first_cells, seen}
use Rattle.ec_memory.proofs.Line.{rising, lies, count_objects, count_bytes, made_more, line_more, line_less, ended_behind, sizes, starts_at, all_sizes}
use Rattle.ec_memory.proofs.Objects.{read_at, write_at, room, read_placed, write_placed, held_object, held_length}
use Rattle.ec_memory.proofs.Reading.{span_placed, text_held, left_cells}
use Rattle.ec_memory_defs.specs.Cells.{Cell, bytes_of, value_of, part_of, written, filled_cells, unset_cells}
use Rattle.ec_memory_defs.specs.Memory.{alive, Memory, and_then, object_of, offset_of, pointer_to, object_cells, cells_at, or_unset, span, text_of, text_at, front_of, text_up_to, with_cells, copy, moved, live_bytes, last_number, with_object, end_to}

-- places as they are read from the list
pub rising_of : (made : ℕ) (cells : List Cell) (places now : List Place) → Kept made cells places → now ≡ places → IsRising now
rising_of made cells places now kept e = subst IsRising (sym e) (rising 1 0 made (length cells) places kept.line)

pub placed_of : (places now : List Place) (p n at : ℕ) → now ≡ places → Placed now p n at → Placed places p n at
placed_of places now p n at e placed = let P : List Place → Type 0 = λ ps. Placed ps p n at in subst P e placed

holds_of : (places now : List Place) (n : ℕ) (q : Place) → now ≡ places → Holds now n q → Holds places n q
holds_of places now n q e holds = let P : List Place → Type 0 = λ ps. Holds ps n q in subst P e holds

-- an access that fits lies in the region
pub room_of : (made : ℕ) (cells : List Cell) (places now : List Place) (p n at : ℕ) → Kept made cells places → now ≡ places → Placed now p n at → at + n ≤ length cells
room_of made cells places now p n at kept e placed = room made cells places p n at kept (placed_of places now p n at e placed)

-- what is read
pub spanned : (m : Memory) (made : ℕ) (cells : List Cell) (places now : List Place) (p n at : ℕ) (bytes : Option (List ℕ)) → memory_of made cells places ≡ m → Kept made cells places → now ≡ places → Placed now p n at → bytes ≡ bytes_of (part_of cells at n) → or_unset bytes ≡ span m p n
spanned m made cells places now p n at bytes view kept e placed is =
    span_placed made cells places p n at bytes kept (placed_of places now p n at e placed) is ∙ ap (λ m. span m p n) view

-- what is written
pub wrote : (m : Memory) (made : ℕ) (cells : List Cell) (places now : List Place) (p n at : ℕ) (piece after : List Cell) → memory_of made cells places ≡ m → Kept made cells places → now ≡ places → Placed now p n at → length piece ≡ n → after ≡ written cells at piece → Ok (memory_of made after places) ≡ with_cells m p piece
wrote m made cells places now p n at piece after view kept e placed whole is =
    ap (λ c. Ok (memory_of made c places)) is
    ∙ sym (write_placed made cells places p n at piece kept (placed_of places now p n at e placed) whole)
    ∙ ap (λ m. with_cells m p piece) view

-- the cells of an access
pub found_at : (m : Memory) (made : ℕ) (cells : List Cell) (places now : List Place) (p n at : ℕ) → memory_of made cells places ≡ m → Kept made cells places → now ≡ places → Placed now p n at → cells_at m p n ≡ Ok (part_of cells at n)
found_at m made cells places now p n at view kept e placed =
    ap (λ m. cells_at m p n) (sym view) ∙ read_placed made cells places p n at kept (placed_of places now p n at e placed)

-- few bytes are alive
pub few_bytes : (m : Memory) (made : ℕ) (cells : List Cell) (places : List Place) → memory_of made cells places ≡ m → Kept made cells places → live_bytes m ≤ 2 ^ 28
few_bytes m made cells places view kept =
    omega (arith, ap live_bytes view, count_bytes made 1 0 made (length cells) cells places kept.line (omega arith) (omega arith), kept.few_bytes)

-- how many objects were made
pub last_made : (m : Memory) (made : ℕ) (cells : List Cell) (places : List Place) → memory_of made cells places ≡ m → made ≡ last_number m
last_made m made cells places view = sym (count_objects made 1 cells places) ∙ ap length view

-- an object lies in the region
pub object_room : (made : ℕ) (cells : List Cell) (places now : List Place) (n : ℕ) (q : Place) → Kept made cells places → now ≡ places → Holds now n q → q.start + q.size ≤ length cells
object_room made cells places now n q kept e holds =
    let there = holds_of places now n q e holds in
    let inside = lies 1 0 made (length cells) places there.index q kept.line there.found in
    inside.ends

-- a pointer that moves
pub moved_of : (m : Memory) (made : ℕ) (cells : List Cell) (places now : List Place) (p : ℕ) (q : Place) (by : ℤ) (n : ℕ) → memory_of made cells places ≡ m → Kept made cells places → now ≡ places → Holds now (object_of p) q → moved_within q.size p by n ≡ moved m p by n
moved_of m made cells places now p q by n view kept e holds =
    let there = holds_of places now (object_of p) q e holds in
    ap (λ len. moved_within len p by n) (sym (held_length made cells places (object_of p) q kept there))
    ∙ sym (ap (λ r. and_then r (λ cells. moved_within (length cells) p by n)) (held_object made cells places (object_of p) q kept there))
    ∙ ap (λ m. moved m p by n) view

-- a text is that of the cells that are left in the object
pub text_here : (m : Memory) (made : ℕ) (cells : List Cell) (places now : List Place) (p : ℕ) (q : Place) (o : ℕ) → memory_of made cells places ≡ m → Kept made cells places → now ≡ places → Holds now (object_of p) q → o ≡ offset_of p → o ≤ q.size → text_of (part_of cells (q.start + o) (q.size - o)) ≡ text_at m p
text_here m made cells places now p q o view kept e holds is within =
    let there = holds_of places now (object_of p) q e holds in
    ap text_of (sym (left_cells cells q.start q.size o within))
    ∙ ap (λ o. text_of (drop o (part_of cells q.start q.size))) is
    ∙ sym (text_held made cells places p q kept there)
    ∙ ap (λ m. text_at m p) view

-- and none begins beyond the end
pub text_beyond : (m : Memory) (made : ℕ) (cells : List Cell) (places now : List Place) (p : ℕ) (q : Place) (o : ℕ) → memory_of made cells places ≡ m → Kept made cells places → now ≡ places → Holds now (object_of p) q → o ≡ offset_of p → q.size < o → Err Outside ≡ text_at m p
text_beyond m made cells places now p q o view kept e holds is beyond =
    let there = holds_of places now (object_of p) q e holds in
    let none : drop o (part_of cells q.start q.size) ≡ [] = drop_all o (part_of cells q.start q.size) (omega (arith, held_length made cells places (object_of p) q kept there)) in
    ap text_of (sym none)
    ∙ ap (λ o. text_of (drop o (part_of cells q.start q.size))) is
    ∙ sym (text_held made cells places p q kept there)
    ∙ ap (λ m. text_at m p) view

-- the same of the bytes up to a limit
front_held : (m : Memory) (made : ℕ) (cells : List Cell) (places : List Place) (p k limit : ℕ) (q : Place) → limit ≡ suc k → Kept made cells places → Holds places (object_of p) q → memory_of made cells places ≡ m → front_of limit (drop (offset_of p) (part_of cells q.start q.size)) ≡ text_up_to m p limit
front_held m made cells places p k limit q some kept there view =
    ap (λ l. front_of l (drop (offset_of p) (part_of cells q.start q.size))) some
    ∙ sym (ap (λ r. and_then r (λ cells. front_of (suc k) (drop (offset_of p) cells))) (held_object made cells places (object_of p) q kept there))
    ∙ ap (λ m. text_up_to m p (suc k)) view
    ∙ ap (text_up_to m p) (sym some)

pub front_here : (m : Memory) (made : ℕ) (cells : List Cell) (places now : List Place) (p : ℕ) (q : Place) (o limit : ℕ) → 0 < limit → memory_of made cells places ≡ m → Kept made cells places → now ≡ places → Holds now (object_of p) q → o ≡ offset_of p → o ≤ q.size → front_of limit (part_of cells (q.start + o) (q.size - o)) ≡ text_up_to m p limit
front_here m made cells places now p q o limit some view kept e holds is within =
    let there = holds_of places now (object_of p) q e holds in
    ap (front_of limit) (sym (left_cells cells q.start q.size o within))
    ∙ ap (λ o. front_of limit (drop o (part_of cells q.start q.size))) is
    ∙ front_held m made cells places p (limit - 1) limit q (omega arith) kept there view

pub front_beyond : (m : Memory) (made : ℕ) (cells : List Cell) (places now : List Place) (p : ℕ) (q : Place) (o limit : ℕ) → 0 < limit → memory_of made cells places ≡ m → Kept made cells places → now ≡ places → Holds now (object_of p) q → o ≡ offset_of p → q.size < o → Err Outside ≡ text_up_to m p limit
front_beyond m made cells places now p q o limit some view kept e holds is beyond =
    let there = holds_of places now (object_of p) q e holds in
    let none : drop o (part_of cells q.start q.size) ≡ [] = drop_all o (part_of cells q.start q.size) (omega (arith, held_length made cells places (object_of p) q kept there)) in
    let more : limit ≡ suc (limit - 1) = omega arith in
    ap (λ l. front_of l []) (sym more)
    ∙ ap (front_of limit) (sym none)
    ∙ ap (λ o. front_of limit (drop o (part_of cells q.start q.size))) is
    ∙ front_held m made cells places p (limit - 1) limit q more kept there view

-- as many cells as bytes
pub first_length : (zeroed : Bool) (n : ℕ) → length (first_cells zeroed n) ≡ n
first_length true n = length-replicate n (Some 0)
first_length false n = length-replicate n None

-- the cells of an int
pub int_length : (z : ℤ) → length (int_cells z) ≡ 4
int_length z = refl

-- zero bytes written over new cells
pub zeroed_behind : (cells : List Cell) (n start : ℕ) → start ≡ length cells → written (cells ++ unset_cells n) start (filled_cells n 0) ≡ cells ++ filled_cells n 0
zeroed_behind cells n start is =
    let room : length (cells ++ unset_cells n) ≤ start + length (filled_cells n 0) = omega (arith, length-append cells (unset_cells n), first_length true n, first_length false n) in
    ap (λ t. t ++ filled_cells n 0 ++ drop (start + length (filled_cells n 0)) (cells ++ unset_cells n)) (take_at cells (unset_cells n) start (sym is))
    ∙ ap (λ d. cells ++ filled_cells n 0 ++ d) (drop_all (start + length (filled_cells n 0)) (cells ++ unset_cells n) room)
    ∙ append-nil (cells ++ filled_cells n 0)

-- whether an object is made
abbrev pub made_if : Memory → List Cell → Bool → Result (ℕ × Memory) Trap
made_if m cells b = if b then Ok (pointer_to (suc (length m)) 0, m ++ alive cells ∷ []) else Err Spent

-- too many objects
pub spent_objects : (m : Memory) (made : ℕ) (cells new : List Cell) (places : List Place) → memory_of made cells places ≡ m → made ≡ 2 ^ 32 - 1 → with_object m new ≡ Err Spent
spent_objects m made cells new places view all =
    let count = last_made m made cells places view in
    let test : nat_lt (suc (length m)) (2 ^ 32) ≡ false = grind (arith, nat_tests) in
    ap (λ b. made_if m new (b && nat_le (live_bytes m + length new) (2 ^ 28))) test

-- too many bytes
pub spent_bytes : (m : Memory) (made : ℕ) (cells new : List Cell) (places : List Place) → memory_of made cells places ≡ m → Kept made cells places → 2 ^ 28 < length cells + length new → with_object m new ≡ Err Spent
spent_bytes m made cells new places view kept much =
    let bytes = ap live_bytes view in
    let all = count_bytes made 1 0 made (length cells) cells places kept.line (omega arith) (omega arith) in
    let test : nat_le (live_bytes m + length new) (2 ^ 28) ≡ false = grind (arith, nat_tests) in
    by_bool (nat_lt (suc (length m)) (2 ^ 32)) test
  where
    by_bool : (b : Bool) → nat_le (live_bytes m + length new) (2 ^ 28) ≡ false → made_if m new (b && nat_le (live_bytes m + length new) (2 ^ 28)) ≡ Err Spent
    by_bool true test = ap (made_if m new) test
    by_bool false test = refl

-- neither, so the object is made
pub object_made : (m : Memory) (made : ℕ) (cells new after : List Cell) (places : List Place) (p : Place) (to : ℕ) → memory_of made cells places ≡ m → Kept made cells places → made < 2 ^ 32 - 1 → length cells + length new ≤ 2 ^ 28 → after ≡ cells ++ new → p.number ≡ suc made → p.size ≡ length new → to ≡ pointer_to (suc made) 0 → with_object m new ≡ Ok (to, memory_of (suc made) after (places ++ p ∷ []))
object_made m made cells new after places p to view kept few room is numbered size pointer =
    let count = last_made m made cells places view in
    let bytes = ap live_bytes view in
    let all = count_bytes made 1 0 made (length cells) cells places kept.line (omega arith) (omega arith) in
    let first : nat_lt (suc (length m)) (2 ^ 32) ≡ true = grind (arith, nat_tests) in
    let second : nat_le (live_bytes m + length new) (2 ^ 28) ≡ true = grind (arith, nat_tests) in
    ap (λ b. made_if m new (b && nat_le (live_bytes m + length new) (2 ^ 28))) first
    ∙ ap (λ b. made_if m new b) second
    ∙ ap (λ n. Ok (pointer_to (suc n) 0, m ++ alive new ∷ [])) (sym count)
    ∙ ap (λ n. Ok (n, m ++ alive new ∷ [])) (sym pointer)
    ∙ ap (λ x. Ok (to, x ++ alive new ∷ [])) (sym view)
    ∙ ap (λ x. Ok (to, x)) (sym (made_more made 1 0 made (length cells) cells new places p kept.line (omega arith) (omega arith) (omega arith) size))
    ∙ ap (λ c. Ok (to, memory_of (suc made) c (places ++ p ∷ []))) (sym is)

-- so it isn't refused
pub not_spent : (m : Memory) (made : ℕ) (cells new : List Cell) (places : List Place) → memory_of made cells places ≡ m → Kept made cells places → made < 2 ^ 32 - 1 → length cells + length new ≤ 2 ^ 28 → with_object m new ≡ Err Spent → ⊥
not_spent m made cells new places view kept few room e =
    let it : Place = record { number = suc made; start = 0; size = length new } in
    let is = object_made m made cells new (cells ++ new) places it (pointer_to (suc made) 0) view kept few room refl refl refl refl in
    let both : Ok (pointer_to (suc made) 0, memory_of (suc made) (cells ++ new) (places ++ it ∷ [])) ≡ Err Spent = sym is ∙ e in
    cc

-- the region with the new object
pub kept_made : (made : ℕ) (cells new after : List Cell) (places : List Place) (p : Place) → Kept made cells places → made < 2 ^ 32 - 1 → length cells + length new ≤ 2 ^ 28 → after ≡ cells ++ new → p.number ≡ suc made → p.start ≡ length cells → p.size ≡ length new → Kept (suc made) after (places ++ p ∷ [])
kept_made made cells new after places p kept few room is numbered begins size =
    let sum : length cells + p.size ≡ length after = omega (arith, ap length is, length-append cells new) in
    record {
      line = at_end (length cells + p.size) (length after) sum (line_more 1 0 made (length cells) places p kept.line numbered begins);
      few_bytes = omega (arith, sum);
      few_objects = omega arith;
    }
  where
    at_end : (a b : ℕ) → a ≡ b → InLine 1 0 (places ++ p ∷ []) (suc made) a → InLine 1 0 (places ++ p ∷ []) (suc made) b
    at_end a b e l = let P : ℕ → Type 0 = λ n. InLine 1 0 (places ++ p ∷ []) (suc made) n in subst P e l

-- objects that end behind a mark
behind_of : (places now : List Place) (mark k : ℕ) → now ≡ places → Behind now mark k → Behind places mark k
behind_of places now mark k e cut = let P : List Place → Type 0 = λ ps. Behind ps mark k in subst P e cut

-- where the first place behind the mark begins
pub start_behind : (made : ℕ) (cells : List Cell) (places : List Place) (k : ℕ) (q d : Place) → Kept made cells places → k < length places → q ≡ get_or places k d → (q.start ≡ sizes (take k places)) × (q.start ≤ length cells)
start_behind made cells places k q d kept within is =
    let found : slice_get places k ≡ Some q = slice_get-get_or places k d within ∙ ap Some (sym is) in
    let there = lies 1 0 made (length cells) places k q kept.line found in
    (omega (arith, starts_at 1 0 made (length cells) places k q kept.line found), omega (arith, there.ends))

pub kept_behind : (made : ℕ) (cells after : List Cell) (places : List Place) (k start : ℕ) → Kept made cells places → start ≡ sizes (take k places) → start ≤ length cells → after ≡ take start cells → Kept made after (take k places)
kept_behind made cells after places k start kept whole within is =
    let size : length after ≡ start = ap length is ∙ length-take-le start cells within in
    record {
      line = at_end (0 + sizes (take k places)) (length after) (omega (arith, size, whole)) (line_less 1 0 made (length cells) places k kept.line);
      few_bytes = omega (arith, size, kept.few_bytes);
      few_objects = kept.few_objects;
    }
  where
    at_end : (a b : ℕ) → a ≡ b → InLine 1 0 (take k places) made a → InLine 1 0 (take k places) made b
    at_end a b e l = let P : ℕ → Type 0 = λ n. InLine 1 0 (take k places) made n in subst P e l

pub ended_memory : (m : Memory) (made : ℕ) (cells : List Cell) (places now : List Place) (mark k c : ℕ) → memory_of made cells places ≡ m → Kept made cells places → now ≡ places → Behind now mark k → c ≡ sizes (take k places) → memory_of made (take c cells) (take k places) ≡ end_to m mark
ended_memory m made cells places now mark k c view kept e cut whole =
    ended_behind made 1 0 made (length cells) cells places k mark c kept.line (omega arith) (behind_of places now mark k e cut) whole
    ∙ ap (end_to (memory_of made cells places)) (let same : suc mark - 1 ≡ mark = omega arith in same)
    ∙ ap (λ m. end_to m mark) view

-- none ends
pub none_behind : (m : Memory) (made : ℕ) (cells : List Cell) (places now : List Place) (mark k : ℕ) → memory_of made cells places ≡ m → Kept made cells places → now ≡ places → Behind now mark k → length places ≤ k → m ≡ end_to m mark
none_behind m made cells places now mark k view kept e cut all =
    let front : take k places ≡ places = take_all k places all in
    let whole : length cells ≡ sizes (take k places) = omega (arith, all_sizes 1 0 made (length cells) places kept.line, ap sizes front) in
    sym view
    ∙ ap (λ c. memory_of made c places) (sym (take_all (length cells) cells (omega arith)))
    ∙ ap (memory_of made (take (length cells) cells)) (sym front)
    ∙ ended_memory m made cells places now mark k (length cells) view kept e cut whole

-- a write that doesn't fit traps as an access does
pub write_trapped : (m : Memory) (p n : ℕ) (piece : List Cell) (t : Trap) → length piece ≡ n → cells_at m p n ≡ Err t → with_cells m p piece ≡ Err t
write_trapped m p n piece t whole e = of_found (object_cells m (object_of p)) (ap (cells_at m p) whole ∙ e)
  where
    either : (cells : List Cell) (b : Bool) → (if b then Ok (part_of cells (offset_of p) (length piece)) else Err Outside) ≡ Err t → (if b then Ok (slice_set m (object_of p - 1) (alive (written cells (offset_of p) piece))) else Err Outside) ≡ Err t
    either cells true e = cc
    either cells false e = let same : Outside ≡ t = cc in ap Err same

    of_found : (found : Result (List Cell) Trap) → read_at (offset_of p) (length piece) found ≡ Err t → write_at m (object_of p - 1) (offset_of p) piece found ≡ Err t
    of_found (Err u) e = let same : u ≡ t = cc in ap Err same
    of_found (Ok cells) e = either cells (nat_le (offset_of p + length piece) (length cells)) e

-- an access that traps, as places are read from the list
pub trapped_of : (m : Memory) (made : ℕ) (cells : List Cell) (places now : List Place) (p n : ℕ) (t : Trap) → memory_of made cells places ≡ m → Kept made cells places → now ≡ places → ((made : ℕ) (cells : List Cell) → Kept made cells now → cells_at (memory_of made cells now) p n ≡ Err t) → cells_at m p n ≡ Err t
trapped_of m made cells places now p n t view kept e trap =
    let P : List Place → Type 0 = λ ps. Kept made cells ps in
    ap (λ m. cells_at m p n) (sym view) ∙ ap (λ ps. cells_at (memory_of made cells ps) p n) (sym e) ∙ trap made cells (subst P (sym e) kept)

-- a copy whose target traps
pub copy_trapped : (m : Memory) (to from n : ℕ) (piece : List Cell) (t : Trap) → cells_at m from n ≡ Ok piece → length piece ≡ n → cells_at m to n ≡ Err t → Err t ≡ copy m to from n
copy_trapped m to from n piece t source whole target =
    sym (ap (λ r. and_then r (λ cells. with_cells m to cells)) source ∙ write_trapped m to n piece t whole target)

-- a value that was read
read_map : {A : Type 0} (decode : List ℕ → A) (o : Option (List ℕ)) → or_unset (option_map decode o) ≡ seen decode (or_unset o)
read_map decode None = refl
read_map decode (Some bytes) = refl

pub read_value : {A : Type 0} (decode : List ℕ → A) (m : Memory) (made : ℕ) (cells : List Cell) (places now : List Place) (p n size at : ℕ) (o : Option A) → memory_of made cells places ≡ m → Kept made cells places → now ≡ places → Placed now p size at → size ≡ n → o ≡ value_of decode (part_of cells at n) → or_unset o ≡ seen decode (span m p n)
read_value decode m made cells places now p n size at o view kept e placed is got =
    let P : ℕ → Type 0 = λ k. Placed now p k at in
    ap or_unset got ∙ read_map decode (bytes_of (part_of cells at n))
    ∙ ap (seen decode) (spanned m made cells places now p n at (bytes_of (part_of cells at n)) view kept e (subst P is placed) refl)

pub read_small : (m : Memory) (made : ℕ) (cells : List Cell) (places now : List Place) (p n size at : ℕ) → memory_of made cells places ≡ m → Kept made cells places → now ≡ places → Placed now p size at → size ≡ n → HoldBytes (part_of cells at n) → (bytes : List ℕ) → span m p n ≡ Ok bytes → AreBytes bytes
read_small m made cells places now p n size at view kept e placed is small bytes read =
    let P : ℕ → Type 0 = λ k. Placed now p k at in
    of_bytes (bytes_of (part_of cells at n)) refl (spanned m made cells places now p n at (bytes_of (part_of cells at n)) view kept e (subst P is placed) refl ∙ read)
  where
    of_bytes : (o : Option (List ℕ)) → bytes_of (part_of cells at n) ≡ o → or_unset o ≡ Ok bytes → AreBytes bytes
    of_bytes None is e = cc
    of_bytes (Some others) is e = let same : others ≡ bytes = cc in small bytes (is ∙ ap Some same)

-- a value that a scalar stands for
pub loaded_value : {A B : Type 0} (decode : List ℕ → A) (mean : List ℕ → B) (r : Result (List ℕ) Trap) (size : ℕ) (v : A) (w : B) → Ok v ≡ seen decode r → ((bytes : List ℕ) → r ≡ Ok bytes → AreBytes bytes) → ((bytes : List ℕ) → r ≡ Ok bytes → length bytes ≡ size) → ((bytes : List ℕ) → length bytes ≡ size → AreBytes bytes → v ≡ decode bytes → w ≡ mean bytes) → Ok w ≡ and_then r (λ bytes. Ok (mean bytes))
loaded_value decode mean (Err t) size v w e small whole is = cc
loaded_value decode mean (Ok bytes) size v w e small whole is = let same : v ≡ decode bytes = cc in ap Ok (is bytes (whole bytes refl) (small bytes refl) same)

pub loaded_trap : {A B : Type 0} (decode : List ℕ → A) (mean : List ℕ → B) (r : Result (List ℕ) Trap) (t : Trap) → Err t ≡ seen decode r → Err t ≡ and_then r (λ bytes. Ok (mean bytes))
loaded_trap decode mean (Err u) t e = e' u e
  where
    e' : (u : Trap) → Err t ≡ seen decode (Err u) → Err t ≡ and_then (Err u) (λ bytes. Ok (mean bytes))
    e' u e = let same : t ≡ u = cc in ap Err same
loaded_trap decode mean (Ok bytes) t e = cc

-- the pointer to a new object, and what is kept with it
pub kept_next : (made : ℕ) (cells new after : List Cell) (places all : List Place) (p : Place) → Kept made cells places → made < 2 ^ 32 - 1 → length cells + length new ≤ 2 ^ 28 → after ≡ cells ++ new → all ≡ places ++ p ∷ [] → p.number ≡ made + 1 → p.start ≡ length cells → p.size ≡ length new → Kept (made + 1) after all
kept_next made cells new after places all p kept few room is put numbered begins size =
    let P : ℕ → Type 0 = λ n. Kept n after all in
    let Q : List Place → Type 0 = λ ps. Kept (suc made) after ps in
    subst P (let sum : suc made ≡ made + 1 = omega arith in sum) (subst Q (sym put) (kept_made made cells new after places p kept few room is (omega arith) begins size))

pub object_next : (m : Memory) (made : ℕ) (cells new after : List Cell) (places all : List Place) (p : Place) (to : ℕ) → memory_of made cells places ≡ m → Kept made cells places → made < 2 ^ 32 - 1 → length cells + length new ≤ 2 ^ 28 → after ≡ cells ++ new → all ≡ places ++ p ∷ [] → p.number ≡ made + 1 → p.size ≡ length new → to ≡ pointer_to (made + 1) 0 → with_object m new ≡ Ok (to, memory_of (made + 1) after all)
object_next m made cells new after places all p to view kept few room is put numbered size pointer =
    object_made m made cells new after places p to view kept few room is (omega arith) size (omega (arith, pointer))
    ∙ ap (λ n. Ok (to, memory_of n after (places ++ p ∷ []))) (let sum : suc made ≡ made + 1 = omega arith in sum)
    ∙ ap (λ ps. Ok (to, memory_of (made + 1) after ps)) (sym put)
