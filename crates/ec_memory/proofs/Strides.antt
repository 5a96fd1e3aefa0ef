-- Elements of an object.
use Rattle.std.proofs.Common.{◌≡◌, ℕ, ◌+◌, ◌-◌, ◌*◌, ◌^◌, ◌<◌, ◌≤◌, Bool, true, false, List, length, Option, Some, None, Result, Ok, Err, MatchOption, refl, sym, ap, ◌∙◌, arith}
use Rattle.std.specs.Prelude.{nat_le, if◌then◌else◌}
use Rattle.std.specs.Result.{result_err, result_ok, is_ok}
use Rattle.std.proofs.Math.Nat.{mul-le-mul_right}
use Rattle.std.proofs.lemmas.Bool.Decides.{nat_tests}
use Rattle.ec_base.specs.declared.stop.Trap.{Trap}
use Rattle.ec_base.specs.declared.stop.Trap.TheVariants.{Outside, Unset}
use Rattle.ec_memory_defs.specs.Cells.{Cell, bytes_of, part_of}
use Rattle.ec_memory_defs.specs.Memory.{Memory, and_then, object_of, offset_of, object_cells, cells_at, or_unset, span, extent, live_bytes}
use Rattle.ec_memory.specs.Objects.{Reaches, cells_or_none, cells_of_pointer}
use Rattle.ec_memory.specs.Store.{seen}
use Rattle.ec_memory.proofs.Objects.{read_at, read_fits}
use Rattle.ec_memory.proofs.Reading.{read_bytes}
use Rattle.ec_memory.proofs.Counts.{few_cells}

-- an access that does not trap lies in its object
inside_found : (o n live : ℕ) (found : Result (List Cell) Trap) → ((cells : List Cell) → found ≡ Ok cells → length cells ≤ live) → None ≡ result_err (read_at o n found) → (is_ok found ≡ true) × (o + n ≤ length (cells_or_none found)) × (length (cells_or_none found) ≤ live)
inside_found o n live (Err t) few e = cc
inside_found o n live (Ok cells) few e = (refl, either (nat_le (o + n) (length cells)) refl e, few cells refl)
  where
    either : (b : Bool) → nat_le (o + n) (length cells) ≡ b → None ≡ result_err (if b then Ok (part_of cells o n) else Err Outside) → o + n ≤ length cells
    either true test e = grind (arith, nat_tests)
    either false test e = cc

-- so elements that take as many bytes lie in it
pub reached : (m : Memory) (p count step size bytes : ℕ) → None ≡ result_err (cells_at m p bytes) → bytes ≡ extent count step size → live_bytes m ≤ 2 ^ 28 → Reaches m p count step size
reached m p count step size bytes e whole few =
    let there = inside_found (offset_of p) bytes (live_bytes m) (object_cells m (object_of p)) (λ cells found. few_cells m (object_of p) cells (sym found)) e in
    record { lives = there.0; inside = omega (arith, there.1, whole); few = omega (arith, there.2, few) }

-- the cells of the object
found_cells : (found : Result (List Cell) Trap) → is_ok found ≡ true → Ok (cells_or_none found) ≡ found
found_cells (Err t) e = cc
found_cells (Ok cells) e = refl

-- only an unset byte keeps bytes from being read
only_unset : (cells : List Cell) (t : Trap) → read_bytes cells ≡ Err t → t ≡ Unset
only_unset cells t e = of_bytes (bytes_of cells) e
  where
    of_bytes : (o : Option (List ℕ)) → or_unset o ≡ Err t → t ≡ Unset
    of_bytes None e = cc
    of_bytes (Some bytes) e = cc

-- element i lies in the object
pub element_inside : (m : Memory) (p count step size i : ℕ) → Reaches m p count step size → i < count → (object_of (p + i * step) ≡ object_of p) × (offset_of (p + i * step) ≡ offset_of p + i * step) × (offset_of p + i * step + size ≤ length (cells_of_pointer m p))
element_inside m p count step size i reaches within =
    let before : i ≤ count - 1 = omega arith in
    let less = mul-le-mul_right step before in
    let last : offset_of p + i * step + size ≤ length (cells_of_pointer m p) = omega (arith, less, reaches.inside) in
    let small : offset_of p + i * step < 2 ^ 32 = omega (arith, last, reaches.few) in
    (omega arith, omega arith, last)

-- what keeps element i from being read
pub element_unset : (m : Memory) (p count step size i : ℕ) → Reaches m p count step size → i < count → (t : Trap) → span m (p + i * step) size ≡ Err t → t ≡ Unset
element_unset m p count step size i reaches within t e =
    let there = element_inside m p count step size i reaches within in
    let cells = cells_of_pointer m p in
    let found : Ok cells ≡ object_cells m (object_of (p + i * step)) = found_cells (object_cells m (object_of p)) reaches.lives ∙ ap (object_cells m) (sym there.0) in
    let read : cells_at m (p + i * step) size ≡ Ok (part_of cells (offset_of p + i * step) size) = ap (λ o. read_at o size (object_cells m (object_of (p + i * step)))) there.1 ∙ ap (read_at (offset_of p + i * step) size) (sym found) ∙ read_fits (offset_of p + i * step) size cells there.2 in
    only_unset (part_of cells (offset_of p + i * step) size) t (sym (ap (λ r. and_then r read_bytes) read) ∙ e)

-- an element that was read, or that one of its bytes is unset
pub got : {A : Type 0} (decode : List ℕ → A) (bytes : Result (List ℕ) Trap) (r : Result A Trap) (o : Option A) → o ≡ result_ok r → r ≡ seen decode bytes → ((t : Trap) → bytes ≡ Err t → t ≡ Unset) → MatchOption o (bytes ≡ Err Unset) (λ value. seen decode bytes ≡ Ok value)
got decode (Err t) r o is e unset = rw (is, e) (ap Err (unset t refl))
got decode (Ok bytes) r o is e unset = rw (is, e) refl
