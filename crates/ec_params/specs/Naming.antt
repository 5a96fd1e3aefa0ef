-- How many names stand in references.
use Rattle.std.specs.Prelude.{ℕ, length}
use Rattle.ec_typing_defs.specs.statement_parts.References.{References, all_names}

unfoldable pub names_among : References → ℕ
names_among rs = length (all_names rs)
