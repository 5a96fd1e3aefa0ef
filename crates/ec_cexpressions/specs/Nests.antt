-- That the function values that readers of expressions hold read what stands one level deeper.
use Rattle.std.specs.Prelude.{ℕ}
use Rattle.ec_ctypes.specs.declared.tree.decl.Base.{Base}
use Rattle.ec_cursor.specs.Nests.{Needs, Ensures, PartNeeds, PartEnsures, NestsSubexpressions, NestsTypes}
use Rattle.ec_cexpressions.specs.declared.expressions.Expressions.{Expressions}

abbrev pub SubexpressionsNest : {E T : Type 0}
    → (E → PartNeeds) → (E → PartEnsures) → Expressions E T → Type 0
SubexpressionsNest pre post e =
    NestsSubexpressions e.levels (pre e.subexpression) (post e.subexpression)

abbrev pub TypesNest : {E T : Type 0}
    → (T → Needs) → (T → Ensures (Base × ℕ)) → Expressions E T → Type 0
TypesNest pre post e = NestsTypes e.levels (pre e.type_in_parentheses) (post e.type_in_parentheses)
