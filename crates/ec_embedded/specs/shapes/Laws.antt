-- What holds of every shape in which each choice is told by the next token. Terminals, tokens and counts are numbers here; a crate with shapes of its own states the same over its alphabet.
use Rattle.std.specs.Prelude.{◌≡◌, ℕ, true, List}
use Rattle.ec_embedded.specs.shapes.Beginnings.{Beginning, Begins, beginning}
use Rattle.ec_embedded.specs.shapes.Shapes.{Shape, Alphabet, IsSound, Tree, Judged, Judges}
use Rattle.ec_embedded.specs.shapes.ReadShapes.{is_deterministic, read, judged}

-- a shape over terminals that are numbers, whose choices are told by the next token
pub record Told (l : Alphabet ℕ ℕ ℕ) (s : Shape ℕ) : Type 0 where
  pub sound : IsSound l
  pub deterministic : is_deterministic l s ≡ true

-- the verdict of the reading is so
abbrev pub IsExact : Type 0
IsExact =
    (l : Alphabet ℕ ℕ ℕ) (s : Shape ℕ) → Told l s → (n : ℕ) (w : List ℕ)
    → Judges l s n w (judged w (read l s n w))

-- a list has one verdict at most
abbrev pub IsSingle : Type 0
IsSingle =
    (l : Alphabet ℕ ℕ ℕ) (s : Shape ℕ) → Told l s → (n : ℕ) (w : List ℕ)
    (a b : Judged (Tree ℕ s) ℕ) → Judges l s n w a → Judges l s n w b → a ≡ b

-- the list begins as the reading says
abbrev pub BeginsExactly : Type 0
BeginsExactly =
    (l : Alphabet ℕ ℕ ℕ) (s : Shape ℕ) → Told l s → (n : ℕ) (w : List ℕ)
    → Begins l s n w (beginning w (read l s n w))

-- a list begins in one way at most
abbrev pub BeginsOnce : Type 0
BeginsOnce =
    (l : Alphabet ℕ ℕ ℕ) (s : Shape ℕ) → Told l s → (n : ℕ) (w : List ℕ)
    (a b : Judged (Beginning (Tree ℕ s) ℕ ℕ) ℕ) → Begins l s n w a → Begins l s n w b → a ≡ b
