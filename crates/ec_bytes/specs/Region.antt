-- A region of memory is a list of cells, of which it keeps the bytes and the marks.
use Rattle.std.specs.Prelude.{ℕ, zero, suc, ◌-◌, ◌*◌, ◌≤◌, None, Some, List, [], ◌∷◌, length, take}
use Rattle.ec_memory_defs.specs.Cells.{Cell}

-- the cells of bytes and of marks: a byte is set where its mark is 1
abbrev pub cells_of : List ℕ → List ℕ → List Cell
cells_of [] marks = []
cells_of (byte ∷ bytes) [] = []
cells_of (byte ∷ bytes) (zero ∷ marks) = None ∷ cells_of bytes marks
cells_of (byte ∷ bytes) (suc zero ∷ marks) = Some byte ∷ cells_of bytes marks
cells_of (byte ∷ bytes) (suc (suc mark) ∷ marks) = None ∷ cells_of bytes marks

-- the first cells, of which there are so many
abbrev pub held : ℕ → List ℕ → List ℕ → List Cell
held len bytes marks = cells_of (take len bytes) (take len marks)

-- there are as many bytes and marks, or more
abbrev pub Holds : ℕ → List ℕ → List ℕ → Type 0
Holds len bytes marks = (len ≤ length bytes) × (len ≤ length marks)

-- the bytes of the cells from the first one on, up to a zero byte or a cell that is unset
abbrev pub run_of : List Cell → List ℕ
run_of [] = []
run_of (None ∷ cells) = []
run_of (Some zero ∷ cells) = []
run_of (Some (suc b) ∷ cells) = suc b ∷ run_of cells

-- there is room for the bytes of so many cells, and for their marks
abbrev pub Roomy : ℕ → List ℕ → Type 0
Roomy room memory = (room ≤ length memory) × (room ≤ 8 * (length memory - room - 8))
