-- References that make nothing: names with indexes and members, as the statements of a source are read (PostgreSQL manual, "Using Host Variables").
use Rattle.std.specs.Prelude.{[], ◌∷◌}
use Rattle.ec_ctypes.specs.trees.Exprs.{ExprData, integer, character, identifier, index, member, arrow}
use Rattle.ec_typing_defs.specs.statement_parts.References.{References}

-- it declares nothing, has no literal, and calls nothing
abbrev pub MakesNothing : ExprData → Type 0
MakesNothing (integer n t) = Unit {0}
MakesNothing (character c) = Unit {0}
MakesNothing (identifier x) = Unit {0}
MakesNothing (index a b) = MakesNothing a × MakesNothing b
MakesNothing (member e m) = MakesNothing e
MakesNothing (arrow e m) = MakesNothing e
MakesNothing _ = ⊥

-- so does each
abbrev pub MakeNothing : References → Type 0
MakeNothing [] = Unit {0}
MakeNothing (r ∷ rs) = MakesNothing r.value × MakeNothing rs
