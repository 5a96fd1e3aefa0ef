-- An input that holds several sources: lines that are `%%` part them, and the last such line may lack its newline.
use Rattle.std.specs.Prelude.{ℕ, nat_eq, ◌==◌, ◌||◌, Bool, List, [], ◌∷◌, ◌++◌, codes, if◌then◌else◌}
use Rattle.std.specs.Cmp.Lexicographic.{pointwise}

-- a byte more at the head of the first line
abbrev pub with_byte : ℕ → List (List ℕ) → List (List ℕ)
with_byte b [] = (b ∷ []) ∷ []
with_byte b (line ∷ lines) = (b ∷ line) ∷ lines

-- the lines of a text, each with its newline; the last may lack one
abbrev pub lines_in : List ℕ → List (List ℕ)
lines_in [] = []
lines_in (b ∷ text) =
    if b == 10 then (b ∷ []) ∷ lines_in text else with_byte b (lines_in text)

abbrev pub is_mark : List ℕ → Bool
is_mark line = pointwise nat_eq line (codes "%%\n") || pointwise nat_eq line (codes "%%")

-- a line more at the head of the first source
abbrev pub with_line : List ℕ → List (List ℕ) → List (List ℕ)
with_line line [] = line ∷ []
with_line line (source ∷ sources) = (line ++ source) ∷ sources

-- the sources in lines; there is always one, which may be empty
abbrev pub sources_by : List (List ℕ) → List (List ℕ)
sources_by [] = [] ∷ []
sources_by (line ∷ lines) =
    if is_mark line then [] ∷ sources_by lines else with_line line (sources_by lines)

abbrev pub sources_in : List ℕ → List (List ℕ)
sources_in text = sources_by (lines_in text)
