-- The numbers that `long` has none of.
use Rattle.std.specs.Prelude.{◌≤◌, ◌^◌}
use Rattle.ec_values.specs.declared.word.Word.{Word}
use Rattle.ec_values.specs.declared.word.Word.TheVariants as word

-- a word that stands for no number, or for one from 2^63 on
abbrev pub IsNoLong : Word → Type 0
IsNoLong (word.Signed z) = ⊥
IsNoLong (word.Unsigned n) = 2 ^ 63 ≤ n
IsNoLong (word.Address p) = Unit {0}
