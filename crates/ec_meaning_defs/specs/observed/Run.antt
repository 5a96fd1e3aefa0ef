-- Fronts of what a program prints and says.
use Rattle.std.specs.Prelude.{◌≡◌, List, ◌++◌}

-- some bytes or exchanges are the front of others
pub record IsFront {A : Type 0} (front whole : List A) : Type 0 where
  pub rest : List A
  pub same : whole ≡ front ++ rest
