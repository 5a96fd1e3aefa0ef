-- What a table shows.
use Rattle.std.specs.Prelude.{◌≡◌, ℕ, List, Option, All, length}
use Rattle.ec_link.specs.declared.table.Col.{Col}

-- columns, and rows of texts or NULLs
pub record Sheet : Type 0 where
  pub cols : List Col
  pub rows : List (List (Option (List ℕ)))

-- each row has as many fields as there are columns
abbrev pub IsRectangular : List Col → List (List (Option (List ℕ))) → Type 0
IsRectangular cols rows = All (λ row. length row ≡ length cols) rows
