-- A byte of an object, as the definition of memory gives it.
use Rattle.std.proofs.Common.{◌≡◌, ◌∙◌, sym, ap, subst, refl, ℕ, zero, suc, ◌+◌, ◌-◌, ◌<◌, ◌≤◌, List, [], ◌∷◌, length, take, drop, slice_get, Some, None, Ok, Err, arith}
use Rattle.std.specs.Prelude.{slice_index}
use Rattle.ec_base.specs.declared.stop.Trap.TheVariants.{Outside, Unset}
use Rattle.ec_memory.specs.declared.place.Place.{Place}
use Rattle.ec_memory.specs.SingleBytes.{cell_read, byte_behind, cells_left}
use Rattle.ec_memory.specs.Objects.{memory_of, Kept, Holds}
use Rattle.ec_memory.proofs.Objects.{held_object, held_length}
use Rattle.ec_memory_defs.specs.Cells.{Cell, part_of, bytes_of}
use Rattle.ec_memory_defs.specs.Memory.{Memory, and_then, object_of, offset_of}

-- an item of a part
got_take : {X : Type 0} (xs : List X) (n i : ℕ) → i < n → slice_get (take n xs) i ≡ slice_get xs i
got_take [] zero i l = refl
got_take [] (suc n) i l = refl
got_take (x ∷ xs) zero i l = absurd (omega arith)
got_take (x ∷ xs) (suc n) zero l = refl
got_take (x ∷ xs) (suc n) (suc i) l = got_take xs n i (omega arith)

got_nothing : {X : Type 0} (i j : ℕ) → slice_get {X = X} [] i ≡ slice_get {X = X} [] j
got_nothing zero zero = refl
got_nothing zero (suc j) = refl
got_nothing (suc i) zero = refl
got_nothing (suc i) (suc j) = refl

got_drop : {X : Type 0} (xs : List X) (n i k : ℕ) → k ≡ n + i → slice_get (drop n xs) i ≡ slice_get xs k
got_drop xs zero i k e = ap (slice_get xs) (omega arith)
got_drop [] (suc n) i k e = got_nothing i k
got_drop (x ∷ xs) (suc n) i zero e = absurd (omega arith)
got_drop (x ∷ xs) (suc n) i (suc k) e = got_drop xs n i k (omega arith)

got_part : (cells : List Cell) (start size i : ℕ) → i < size → slice_get (part_of cells start size) i ≡ slice_get cells (start + i)
got_part cells start size i l = got_take (drop start cells) size i l ∙ got_drop cells start i (start + i) refl

got_none : {X : Type 0} (xs : List X) (i : ℕ) → length xs ≤ i → slice_get xs i ≡ None
got_none [] i l = refl
got_none (x ∷ xs) zero l = absurd (omega arith)
got_none (x ∷ xs) (suc i) l = got_none xs i (omega arith)

holds_of : (places now : List Place) (n : ℕ) (q : Place) → now ≡ places → Holds now n q → Holds places n q
holds_of places now n q e holds = let P : List Place → Type 0 = λ ps. Holds ps n q in subst P e holds

-- in the object
pub byte_here : (m : Memory) (made : ℕ) (cells : List Cell) (places now : List Place) (p behind o at : ℕ) (q : Place) → memory_of made cells places ≡ m → Kept made cells places → now ≡ places → Holds now (object_of p) q → o ≡ offset_of p → behind < q.size - o → at ≡ q.start + o + behind → cell_read (slice_get cells at) ≡ byte_behind m p behind
byte_here m made cells places now p behind o at q view kept e holds is within there =
    let held = holds_of places now (object_of p) q e holds in
    let same : at ≡ q.start + (offset_of p + behind) = omega (arith, there, is) in
    ap (λ i. cell_read (slice_get cells i)) same
    ∙ ap cell_read (sym (got_part cells q.start q.size (offset_of p + behind) (omega (arith, is, within))))
    ∙ sym (ap (λ r. and_then r (λ cells. cell_read (slice_get cells (offset_of p + behind)))) (held_object made cells places (object_of p) q kept held))
    ∙ ap (λ m. byte_behind m p behind) view

-- and beyond
pub byte_beyond : (m : Memory) (made : ℕ) (cells : List Cell) (places now : List Place) (p behind o : ℕ) (q : Place) → memory_of made cells places ≡ m → Kept made cells places → now ≡ places → Holds now (object_of p) q → o ≡ offset_of p → q.size - o ≤ behind → Err Outside ≡ byte_behind m p behind
byte_beyond m made cells places now p behind o q view kept e holds is beyond =
    let held = holds_of places now (object_of p) q e holds in
    ap cell_read (sym (got_none (part_of cells q.start q.size) (offset_of p + behind) (omega (arith, held_length made cells places (object_of p) q kept held, is, beyond))))
    ∙ sym (ap (λ r. and_then r (λ cells. cell_read (slice_get cells (offset_of p + behind)))) (held_object made cells places (object_of p) q kept held))
    ∙ ap (λ m. byte_behind m p behind) view

-- what is left of the object
pub left_here : (m : Memory) (made : ℕ) (cells : List Cell) (places now : List Place) (p o n : ℕ) (q : Place) → memory_of made cells places ≡ m → Kept made cells places → now ≡ places → Holds now (object_of p) q → o ≡ offset_of p → n ≡ q.size - o → Ok n ≡ cells_left m p
left_here m made cells places now p o n q view kept e holds is count =
    let held = holds_of places now (object_of p) q e holds in
    ap Ok (let same : n ≡ length (part_of cells q.start q.size) - offset_of p = omega (arith, held_length made cells places (object_of p) q kept held, is, count) in same)
    ∙ sym (ap (λ r. and_then r (λ cells. Ok (length cells - offset_of p))) (held_object made cells places (object_of p) q kept held))
    ∙ ap (λ m. cells_left m p) view

-- one cell, as one byte
pub one_byte : (cells : List Cell) (at : ℕ) (bytes : List ℕ) (b : ℕ) → at < length cells → Some bytes ≡ bytes_of (part_of cells at 1) → b ≡ slice_index bytes 0 → Ok b ≡ cell_read (slice_get cells at)
one_byte [] at bytes b l e is = absurd (omega arith)
one_byte (None ∷ cells) zero bytes b l e is = let no : Some bytes ≡ None = e in cc
one_byte (Some c ∷ cells) zero bytes b l e is = let same : Some bytes ≡ Some (c ∷ []) = e in let it : bytes ≡ c ∷ [] = cc in ap Ok (is ∙ ap (λ bs. slice_index bs 0) it)
one_byte (c ∷ cells) (suc at) bytes b l e is = one_byte cells at bytes b (omega arith) e is

pub no_byte : (cells : List Cell) (at : ℕ) → at < length cells → None ≡ bytes_of (part_of cells at 1) → Err Unset ≡ cell_read (slice_get cells at)
no_byte [] at l e = absurd (omega arith)
no_byte (None ∷ cells) zero l e = refl
no_byte (Some c ∷ cells) zero l e = let no : None ≡ Some (c ∷ []) = e in cc
no_byte (c ∷ cells) (suc at) l e = no_byte cells at (omega arith) e
