-- The cells of an object. A cell holds a byte, or nothing until one is written (ISO/IEC 9899:1999, 6.2.6.1 and 6.7.8).
use Rattle.std.specs.Prelude.{ℕ, ◌+◌, Option, None, Some, List, [], ◌∷◌, ◌++◌, length, take, drop, map, replicate}
use Rattle.std.specs.Option.{option_map}

-- a number below 256, or none that was written
abbrev pub Cell : Type 0
Cell = Option ℕ

-- the n items from place at on
abbrev pub part_of : {X : Type 0} → List X → ℕ → ℕ → List X
part_of xs at n = take n (drop at xs)

-- xs with piece in the place of what stands from place at on
abbrev pub written : {X : Type 0} → List X → ℕ → List X → List X
written xs at piece = take at xs ++ piece ++ drop (at + length piece) xs

-- the bytes of the cells, or none where one of them is unset
abbrev pub bytes_of : List Cell → Option (List ℕ)
bytes_of [] = Some []
bytes_of (None ∷ cells) = None
bytes_of (Some byte ∷ cells) = option_map (λ bytes. byte ∷ bytes) (bytes_of cells)

-- the value that the cells hold, or none where one of them is unset
abbrev pub value_of : {A : Type 0} → (List ℕ → A) → List Cell → Option A
value_of decode cells = option_map decode (bytes_of cells)

-- the cells that hold these bytes
abbrev pub set_cells : List ℕ → List Cell
set_cells bytes = map Some bytes

-- n cells that hold this byte
abbrev pub filled_cells : ℕ → ℕ → List Cell
filled_cells n byte = replicate n (Some byte)

-- n cells that hold nothing
abbrev pub unset_cells : ℕ → List Cell
unset_cells n = replicate n None
