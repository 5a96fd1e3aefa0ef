-- The memory that a region is, with the places of the objects that are alive.
use Rattle.std.specs.Prelude.{◌≡◌, ◌≢◌, ℕ, zero, suc, ◌+◌, ◌^◌, ◌≤◌, ◌<◌, ◌==◌, if◌then◌else◌, List, [], ◌∷◌, length, take, drop, slice_get, get_or, Some, Result, Ok, Err, is_ok, true}
use Rattle.ec_base.specs.declared.stop.Trap.{Trap}
use Rattle.ec_memory.specs.declared.place.Place.{Place}
use Rattle.ec_memory_defs.specs.Cells.{Cell}
use Rattle.ec_memory_defs.specs.Memory.{alive, ended, Memory, object_of, offset_of, object_cells, extent, live_bytes}

-- the objects from a number on, of which so many are left: each has the next place and its cells, or has ended
abbrev pub objects_of : ℕ → ℕ → List Cell → List Place → Memory
objects_of zero number cells places = []
objects_of (suc left) number cells [] = ended ∷ objects_of left (suc number) cells []
objects_of (suc left) number cells (p ∷ places) = if p.number == number
    then alive (take p.size cells) ∷ objects_of left (suc number) (drop p.size cells) places
    else ended ∷ objects_of left (suc number) cells (p ∷ places)

-- all objects that were made
abbrev pub memory_of : ℕ → List Cell → List Place → Memory
memory_of made cells places = objects_of made 1 cells places

-- a place begins where the one before ends, and has a higher number
pub record Follows (number start : ℕ) (p : Place) (Rest : Type 0) : Type 0 where
  pub rising : number ≤ p.number
  pub begins : p.start ≡ start
  pub rest : Rest

-- the last place ends at the end, and its number was given
pub record Ends (number start made end : ℕ) : Type 0 where
  pub given : number ≤ suc made
  pub all : start ≡ end

-- the places lie one behind the other, by rising numbers from a number on
abbrev pub InLine : ℕ → ℕ → List Place → ℕ → ℕ → Type 0
InLine number start [] made end = Ends number start made end
InLine number start (p ∷ places) made end =
    Follows number start p (InLine (suc p.number) (start + p.size) places made end)

-- the places fill the region, and neither bytes nor objects are too many
pub record Kept (made : ℕ) (cells : List Cell) (places : List Place) : Type 0 where
  pub line : InLine 1 0 places made (length cells)
  pub few_bytes : length cells ≤ 2 ^ 28
  pub few_objects : made < 2 ^ 32

-- the number of the object at an index
abbrev pub number_at : List Place → ℕ → ℕ
number_at places k = (get_or places k (record { number = 0; start = 0; size = 0 })).number

-- later places have higher numbers
abbrev pub IsRising : List Place → Type 0
IsRising places = (i j : ℕ) → i < j → j < length places → number_at places i < number_at places j

-- the object with this number is the one at this index
abbrev pub IsAt : List Place → ℕ → ℕ → Type 0
IsAt places number k = (k < length places) × (number_at places k ≡ number)

-- no object with this number is alive
abbrev pub IsMissing : List Place → ℕ → Type 0
IsMissing places number = (k : ℕ) → k < length places → number_at places k ≢ number

-- an object is alive, and this is its place
pub record Holds (places : List Place) (number : ℕ) (p : Place) : Type 0 where
  pub index : ℕ
  pub found : slice_get places index ≡ Some p
  pub same : p.number ≡ number

-- n bytes at a pointer lie in an object, and begin at this place of the region
pub record Placed (places : List Place) (p n at : ℕ) : Type 0 where
  pub place : Place
  pub holds : Holds places (object_of p) place
  pub begins : at ≡ place.start + offset_of p
  pub inside : offset_of p + n ≤ place.size

-- with these places an access traps so, whatever the cells
abbrev pub Traps : {A : Type 0} → List Place → (Memory → Result A Trap) → Trap → Type 0
Traps places access t = (made : ℕ) (cells : List Cell) →
    Kept made cells places → access (memory_of made cells places) ≡ Err t

-- the objects behind a mark begin at this index
pub record Behind (places : List Place) (mark k : ℕ) : Type 0 where
  pub bound : k ≤ length places
  pub before : (i : ℕ) → i < k → number_at places i ≤ mark
  pub after : (i : ℕ) → k ≤ i → i < length places → mark < number_at places i

-- the cells of a pointer's object, if it is alive
abbrev pub cells_or_none : Result (List Cell) Trap → List Cell
cells_or_none (Ok cells) = cells
cells_or_none (Err trap) = []

abbrev pub cells_of_pointer : Memory → ℕ → List Cell
cells_of_pointer m p = cells_or_none (object_cells m (object_of p))

-- `count` elements at a pointer, each of `size` bytes and `step` bytes behind the one before, lie in an object. It is small enough that no offset leads to another
pub record Reaches (m : Memory) (p count step size : ℕ) : Type 0 where
  pub lives : is_ok (object_cells m (object_of p)) ≡ true
  pub inside : offset_of p + extent count step size ≤ length (cells_of_pointer m p)
  pub few : length (cells_of_pointer m p) ≤ 2 ^ 28

-- n bytes at a pointer lie in an object, and begin at this place of the region, however the memory is kept. The object is small enough that no offset leads to another
pub record LiesAt (m : Memory) (p n at : ℕ) : Type 0 where
  pub placed : (made : ℕ) (cells : List Cell) (places : List Place) →
      Kept made cells places → memory_of made cells places ≡ m → Placed places p n at
  pub inside : at + n ≤ live_bytes m
  pub few : live_bytes m ≤ 2 ^ 28
  pub near : offset_of p + n ≤ 2 ^ 28

-- what lies at a place before lies there behind
abbrev pub KeepsPlaces : Memory → Memory → Type 0
KeepsPlaces m after = (p n at : ℕ) → LiesAt m p n at → LiesAt after p n at
