-- That the function values that readers of declarations hold read expressions, and what stands one level deeper.
use Rattle.std.specs.Prelude.{ℕ, List, Result}
use Rattle.std.specs.declared.alloc.Global.{Global}
use denote.Ref.{MutBor}
use Rattle.ec_ctypes.specs.declared.tree.decl.Decl.{Decl}
use Rattle.ec_ctypes.specs.declared.tree.decl.Init.{Init}
use Rattle.ec_ctypes.specs.declared.tree.expr.Expr.{Expr}
use Rattle.ec_ctypes.specs.views.Exprs.{expr_view}
use Rattle.ec_grammar.specs.declared.failure.Failure.{Failure}
use Rattle.ec_grammar.specs.Input.{Reads}
use Rattle.ec_grammar.specs.ReadExpressions.{expression}
use Rattle.ec_cursor.specs.Nests.{Needs, Ensures, PartNeeds, PartEnsures, NestsSubexpressions, NestsMembers, NestsInitializers}
use Rattle.ec_cursor.specs.States.{Left, seen, within}
use Rattle.ec_cdeclare.specs.declared.declarations.Declarations.{Declarations}
use Rattle.ec_cdeclare.specs.declared.declarators.Declarators.{Declarators}
use Rattle.ec_cdeclare.specs.declared.expressions.ExpressionReaders.{ExpressionReaders}

-- that a function value reads whole expressions, where so many levels are left
pub record ReadsWhole (levels : ℕ) (pre : Needs) (post : Ensures Expr) : Type 0 where
  pub callable : (alloc : Global) (old : MutBor Left) → pre alloc old levels
  pub reads : (alloc : Global) (old new : MutBor Left) (r : Result Expr Failure)
      → post alloc old levels r new
      → Reads expr_view (within levels expression (seen old.now)) r (seen new.now)

-- ---- the same, of the function values that the readers of a level hold

abbrev pub ExpressionsRead : {E X : Type 0}
    → (X → Needs) → (X → Ensures Expr) → ExpressionReaders E X → Type 0
ExpressionsRead pre post e = ReadsWhole e.levels (pre e.expression) (post e.expression)

abbrev pub SubexpressionsNest : {E X : Type 0}
    → (E → PartNeeds) → (E → PartEnsures) → ExpressionReaders E X → Type 0
SubexpressionsNest pre post e =
    NestsSubexpressions e.levels (pre e.subexpression) (post e.subexpression)

abbrev pub InitializersNest : {E X I : Type 0}
    → (I → Needs) → (I → Ensures (List Init)) → Declarators E X I → Type 0
InitializersNest pre post d =
    NestsInitializers d.expressions.levels (pre d.initializer_list) (post d.initializer_list)

abbrev pub MembersNest : {E X I M : Type 0}
    → (M → Needs) → (M → Ensures (List Decl)) → Declarations E X I M → Type 0
MembersNest pre post d =
    NestsMembers d.declarators.expressions.levels (pre d.members) (post d.members)
