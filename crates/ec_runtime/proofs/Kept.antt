-- A field that is stored leaves the communication area in its place.
use Rattle.std.proofs.Common.{◌≡◌, ℕ, zero, suc, ◌+◌, ◌-◌, ◌≤◌, List, [], ◌∷◌, length, Option, Some, None, Result, Ok, Err, Bool, true, false, refl, sym, ◌∙◌, subst, arith}
use Rattle.std.specs.Prelude.{ℤ, pos, negsuc, nat_le, IsSome, slice_set, if◌then◌else◌}
use Rattle.std.proofs.lemmas.Bool.Decides.{nat_tests}
use Rattle.ec_base.specs.declared.stop.Trap.{Trap}
use Rattle.ec_base.specs.declared.stop.Trap.TheVariants.{Outside}
use Rattle.ec_bytes.proofs.Places.{length_written}
use Rattle.ec_memory_defs.specs.Cells.{Cell, written, set_cells}
use Rattle.ec_memory_defs.specs.Memory.{Memory, alive, ended, and_then, object_of, offset_of, object_cells, with_cells, moved}
use Rattle.ec_transfer_defs.specs.declared.finding.Finding.{Finding}
use Rattle.ec_transfer_defs.specs.Area.{IsArea}
use Rattle.ec_transfer_defs.specs.Conversion.{Stored, or_before, null_stored, told, told_length, value_told, bytes_stored, field_stored, field_bytes, is_cut, with_bytes, with_indicator, bytes_place}
use Rattle.ec_transfer_defs.specs.Hosts.{IndicatorData, HostData}
use Rattle.ec_convert.specs.declared.host.HostPlace.{HostPlace}
use Rattle.ec_convert.specs.declared.stop.ConvStop.{ConvStop}
use Rattle.ec_convert.specs.declared.stop.ConvStop.TheVariants as conv
use Rattle.ec_convert.specs.Answers.{leaves}
use Rattle.ec_convert.specs.Calls.{Stores}
use Rattle.ec_convert.specs.Host.{given_host}

-- the memory that a call gives, if it gives one, has the area
abbrev AreaIn : Result Memory Trap → Type 0
AreaIn (Ok m) = IsArea m
AreaIn (Err trap) = Unit {0}

one_less : (n : ℕ) → suc n - 1 ≡ n
one_less n = omega arith

fits : (a b : ℕ) → nat_le a b ≡ true → a ≤ b
fits a b e = grind (arith, nat_tests)

module _ (p : ℕ) (piece : List Cell) where
  -- the memory with the piece, in the object of this number
  abbrev put_there : Memory → ℕ → List Cell → Result Memory Trap
  put_there m object cells =
      if nat_le (offset_of p + length piece) (length cells) then Ok (slice_set m (object - 1) (alive (written cells (offset_of p) piece))) else Err Outside

  abbrev chosen : Memory → ℕ → List Cell → Bool → Result Memory Trap
  chosen m object cells b = if b then Ok (slice_set m (object - 1) (alive (written cells (offset_of p) piece))) else Err Outside

  first_there : (cells : List Cell) (m : Memory) (b : Bool) → nat_le (offset_of p + length piece) (length cells) ≡ b → length cells ≡ 256 → AreaIn (chosen (alive cells ∷ m) 1 cells b)
  first_there cells m true e h = length_written cells (offset_of p) piece (fits _ _ e) ∙ h
  first_there cells m false e h = tt

  later_there : (first : List Cell) (m : Memory) (k : ℕ) (cells : List Cell) (b : Bool) → length first ≡ 256 → AreaIn (chosen (alive first ∷ m) (suc (suc k)) cells b)
  later_there first m k cells true h = subst (λ i. IsArea (slice_set (alive first ∷ m) i (alive (written cells (offset_of p) piece)))) (sym (one_less (suc k))) h
  later_there first m k cells false h = tt

  found_there : (first : List Cell) (m : Memory) (k : ℕ) (found : Result (List Cell) Trap) → length first ≡ 256 → AreaIn (and_then found (λ cells. put_there (alive first ∷ m) (suc (suc k)) cells))
  found_there first m k (Ok cells) h = later_there first m k cells (nat_le (offset_of p + length piece) (length cells)) h
  found_there first m k (Err trap) h = tt

  by_object : (m : Memory) (object : ℕ) → IsArea m → AreaIn (and_then (object_cells m object) (λ cells. put_there m object cells))
  by_object [] object h = absurd h
  by_object (ended ∷ m) object h = absurd h
  by_object (alive cells ∷ m) zero h = tt
  by_object (alive cells ∷ m) (suc zero) h = first_there cells m (nat_le (offset_of p + length piece) (length cells)) refl h
  by_object (alive cells ∷ m) (suc (suc k)) h = found_there cells m k (object_cells (alive cells ∷ m) (suc (suc k))) h

  cells_area : (m : Memory) → IsArea m → AreaIn (with_cells m p piece)
  cells_area m h = by_object m (object_of p) h

-- behind a pointer that is found
then_area : (r : Result ℕ Trap) (go : ℕ → Result Memory Trap) → ((p : ℕ) → AreaIn (go p)) → AreaIn (and_then r go)
then_area (Ok p) go h = h p
then_area (Err trap) go h = tt

bytes_area : (m : Memory) (h : HostData) (row : ℕ) (bytes : List ℕ) → IsArea m → AreaIn (with_bytes m h row bytes)
bytes_area m h row bytes area =
    then_area (moved m h.place (pos row) h.step) _ (λ p. then_area (bytes_place m p h.holds) _ (λ q. cells_area q (set_cells bytes) m area))

indicator_area : (m : Memory) (i : IndicatorData) (row : ℕ) (z : ℤ) → IsArea m → AreaIn (with_indicator m i row z)
indicator_area m i row z area = then_area (moved m i.place (pos row) i.step) _ (λ p. cells_area p _ m area)

or_area : (m : Memory) (cut : Bool) (r : Result Memory Trap) → IsArea m → AreaIn r → IsArea (or_before m cut r).1
or_area m cut (Ok after) area h = h
or_area m cut (Err trap) area h = area

told_area : (m : Memory) (i : Option IndicatorData) (row : ℕ) (cut : Bool) (n : ℕ) → IsArea m → IsArea (told m i row cut n).1
told_area m None row cut n area = area
told_area m (Some i) row cut n area = or_area m cut (with_indicator m i row (told_length i.kind cut n)) area (indicator_area m i row (told_length i.kind cut n) area)

value_area : (m : Memory) (h : HostData) (row : ℕ) (cut : Bool) (n : ℕ) (r : Result Memory Trap) → IsArea m → AreaIn r → IsArea (value_told m h row cut n r).1
value_area m h row cut n (Ok after) area a = told_area after h.indicator row cut n a
value_area m h row cut n (Err trap) area a = area

pub stored_area : (m : Memory) (h : HostData) (row : ℕ) (field : Option (List ℕ)) → IsArea m → IsArea (field_stored m h row field).1
stored_area m h row None area = null h.indicator
  where
    null : (i : Option IndicatorData) → IsArea (null_stored m h row i).1
    null None = area
    null (Some i) = or_area m false (with_indicator m i row (negsuc 0)) area (indicator_area m i row (negsuc 0) area)
stored_area m h row (Some field) area = by_bytes (field_bytes h.holds field)
  where
    by_bytes : (bytes : Result (List ℕ) Finding) → IsArea (bytes_stored m h row field bytes).1
    by_bytes (Ok bytes) = value_area m h row (is_cut h.holds field) (length field) (with_bytes m h row bytes) area (bytes_area m h row bytes area)
    by_bytes (Err finding) = area

-- what an answer and the memory behind it say together
pub as_stored : (r : Result Bool ConvStop) (after : Memory) (x : Stored) → leaves r after ≡ Some x → x.1 ≡ after
as_stored (Ok cut) after x e = cc
as_stored (Err (conv.Trapped trap)) after x e = cc
as_stored (Err (conv.Code code)) after x e = cc
as_stored (Err conv.OutOfMemory) after x e = cc

-- there is a host
pub with_host : {P : Type 0} (o : Option HostData) → IsSome o → ((h : HostData) → o ≡ Some h → P) → P
with_host None is go = cc
with_host (Some h) is go = go h refl

pub stores_area : (place : HostPlace) (row : ℕ) (field : Option (List ℕ)) (m after : Memory) (r : Result Bool ConvStop) → IsSome (given_host place) → Stores place row field m r after → IsArea m → IsArea after
stores_area place row field m after r is stores area =
    with_host (given_host place) is (λ h e. subst IsArea (as_stored r after (field_stored m h row field) (stores h e)) (stored_area m h row field area))

-- it never wants memory
pub never_wants : (place : HostPlace) (row : ℕ) (field : Option (List ℕ)) (m after : Memory) → IsSome (given_host place) → Stores place row field m (Err conv.OutOfMemory) after → ⊥
never_wants place row field m after is stores = with_host (given_host place) is (λ h e. let wrong : None ≡ Some (field_stored m h row field) = stores h e in cc)
