-- A number is added to the int at a pointer.
use Rattle.std.proofs.Common.{◌≡◌, ◌∙◌, ◌+◌, ◌≤◌, ◌+ℤ◌, ℕ, ℤ, List, length, Option, Some, None, Ok, sym, ap, subst, refl}
use Rattle.std.specs.Option.{option_map, MatchOption}
use Rattle.ec_ctypes.specs.Arithmetic.{IsValue}
use Rattle.ec_ctypes.specs.declared.types.arith.Arith.TheVariants as arith
use Rattle.ec_bytes.specs.Scalars.{AreBytes, HoldBytes}
use Rattle.ec_memory_defs.specs.Cells.{Cell, bytes_of, part_of, set_cells, value_of}
use Rattle.ec_memory_defs.specs.Kinds.{kind_type}
use Rattle.ec_memory_defs.specs.declared.kind.Kind.TheVariants as kind
use Rattle.ec_memory_defs.specs.Memory.{Memory, and_then, decoded, encoded, load, number, or_unset}
use Rattle.ec_memory.specs.declared.place.Place.{Place}
use Rattle.ec_memory.specs.Objects.{memory_of, Kept, Placed}
use Rattle.ec_memory.specs.Sums.{Adds, AddsAt, HasNoSum, HasNoSumAt, int_at}
use Rattle.ec_memory.proofs.Calls.{found_at, wrote}
use Rattle.ec_memory.proofs.Reading.{bytes_length, part_length}

-- the int that cells hold, by the scalar that was read from them
pub int_read : {A : Type 0} (decode : List ℕ → A) (cells : List Cell) (at : ℕ) (v : A) (before : ℤ) → at + 4 ≤ length cells → Some v ≡ value_of decode (part_of cells at 4) → HoldBytes (part_of cells at 4) → ((bytes : List ℕ) → length bytes ≡ 4 → AreBytes bytes → v ≡ decode bytes → number before ≡ decoded (kind_type kind.Int) bytes) → int_at cells at ≡ Ok (number before)
int_read decode cells at v before within got small means = of_bytes (bytes_of (part_of cells at 4)) refl got
  where
    of_bytes : (o : Option (List ℕ)) → bytes_of (part_of cells at 4) ≡ o → Some v ≡ option_map decode o → and_then (or_unset o) (λ bytes. Ok (decoded (kind_type kind.Int) bytes)) ≡ Ok (number before)
    of_bytes None is e = cc
    of_bytes (Some bytes) is e =
        let same : v ≡ decode bytes = cc in
        ap Ok (sym (means bytes (bytes_length (part_of cells at 4) bytes (ap or_unset is) ∙ part_length cells at 4 within) (small bytes is) same))

-- what is read has a sum that int doesn't have
pub passing_sum : (cells : List Cell) (at : ℕ) (before by : ℤ) → int_at cells at ≡ Ok (number before) → (IsValue arith.Int (before +ℤ by) → ⊥) → HasNoSumAt cells at by
passing_sum cells at before by found passes = λ other read.
    let same : before ≡ other = cc in
    subst (λ z. (IsValue arith.Int (z +ℤ by) → ⊥)) same passes

-- the int at a pointer is the one that the cells hold where it leads
int_there : (m : Memory) (made : ℕ) (cells : List Cell) (places now : List Place) (p at : ℕ) → memory_of made cells places ≡ m → Kept made cells places → now ≡ places → Placed now p 4 at → load m p (kind_type kind.Int) ≡ int_at cells at
int_there m made cells places now p at view kept e placed =
    ap (λ r. and_then (and_then r (λ those. or_unset (bytes_of those))) (λ bytes. Ok (decoded (kind_type kind.Int) bytes)))
    (found_at m made cells places now p 4 at view kept e placed)

-- so what is added there is added to it
added : (m : Memory) (made : ℕ) (cells after : List Cell) (places now : List Place) (p at : ℕ) (before by : ℤ) → memory_of made cells places ≡ m → Kept made cells places → now ≡ places → Placed now p 4 at → AddsAt cells at before by after → Adds m p before by (memory_of made after places)
added m made cells after places now p at before by view kept e placed adds = record {
  found = int_there m made cells places now p at view kept e placed ∙ adds.found;
  fits = adds.fits;
  stored = sym (wrote m made cells places now p 4 at (set_cells (encoded (kind_type kind.Int) (number (before +ℤ by)))) after view kept e placed refl adds.stored);
}

-- and where there is no sum of it, there is none
pub sum_there : (m : Memory) (made : ℕ) (cells after : List Cell) (places now : List Place) (p at : ℕ) (by : ℤ) (o : Option ℤ) → memory_of made cells places ≡ m → Kept made cells places → now ≡ places → Placed now p 4 at → MatchOption o (HasNoSumAt cells at by) (λ before. AddsAt cells at before by after) → MatchOption o (HasNoSum m p by) (λ before. Adds m p before by (memory_of made after places))
sum_there m made cells after places now p at by None view kept e placed none = λ before found.
    none before (sym (int_there m made cells places now p at view kept e placed) ∙ found)
sum_there m made cells after places now p at by (Some before) view kept e placed adds =
    added m made cells after places now p at before by view kept e placed adds
