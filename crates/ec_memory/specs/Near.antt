-- Objects by how many of those that are alive are not before them.
use Rattle.std.specs.Prelude.{◌≡◌, ℕ, suc, ◌+◌, ◌-◌, ◌≤◌, List, [], ◌∷◌, length, drop, slice_get, Some}
use Rattle.ec_memory.specs.declared.place.Place.{Place}
use Rattle.ec_memory_defs.specs.Memory.{alive, ended, Memory, object_of, offset_of, pointer_to}

-- how many objects are alive
abbrev pub living : Memory → ℕ
living [] = 0
living (alive cells ∷ m) = suc (living m)
living (ended ∷ m) = living m

-- a pointer leads to the start of an object, and so many that are alive are not before it
abbrev pub IsNear : Memory → ℕ → ℕ → Type 0
IsNear m p behind = (offset_of p ≡ 0) × (living (drop (object_of p - 1) m) ≡ behind)

-- n bytes from the start of such an object on lie in it, and begin at this place of the region
pub record PlacedNear (places : List Place) (p n behind at : ℕ) : Type 0 where
  pub place : Place
  pub index : ℕ
  pub found : slice_get places index ≡ Some place
  pub starts : p ≡ pointer_to place.number 0
  pub begins : at ≡ place.start
  pub inside : n ≤ place.size
  pub counted : index + behind ≡ length places
