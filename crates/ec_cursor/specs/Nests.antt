-- Function values that read what stands one level deeper, with so many levels left where it stands.
use Rattle.std.specs.Prelude.{ℕ, List, Result}
use Rattle.std.specs.declared.alloc.Global.{Global}
use denote.Ref.{MutBor}
use Rattle.ec_ctypes.specs.declared.tree.decl.Base.{Base}
use Rattle.ec_ctypes.specs.declared.tree.decl.Decl.{Decl}
use Rattle.ec_ctypes.specs.declared.tree.decl.Init.{Init}
use Rattle.ec_ctypes.specs.declared.tree.expr.Expr.{Expr}
use Rattle.ec_ctypes.specs.views.Exprs.{expr_view}
use Rattle.ec_language.specs.Syntax.{limits}
use Rattle.ec_grammar.specs.declared.failure.Failure.{Failure}
use Rattle.ec_grammar.specs.Input.{Reads}
use Rattle.ec_grammar.specs.ReadDeclarations.{nested}
use Rattle.ec_cursor.specs.declared.parts.Subexpression.{Subexpression}
use Rattle.ec_cursor.specs.Parts.{subexpression_of, each_init, each_decl, type_view}
use Rattle.ec_cursor.specs.States.{Left, seen}

-- ---- what a function value needs of a call, and what it ensures of its answer

abbrev pub Needs : Type 1
Needs = Global → MutBor Left → ℕ → Type 0

abbrev pub Ensures : Type 0 → Type 1
Ensures B = Global → MutBor Left → ℕ → Result B Failure → MutBor Left → Type 0

-- the same of one that is told which subexpression to read
abbrev pub PartNeeds : Type 1
PartNeeds = Global → MutBor Left → ℕ → Subexpression → Type 0

abbrev pub PartEnsures : Type 1
PartEnsures =
    Global → MutBor Left → ℕ → Subexpression → Result Expr Failure → MutBor Left → Type 0

-- ---- that it reads what stands one level deeper

-- expressions
pub record NestsSubexpressions (levels : ℕ) (pre : PartNeeds) (post : PartEnsures) : Type 0 where
  pub callable : (alloc : Global) (old : MutBor Left) (p : Subexpression) → pre alloc old levels p
  pub reads : (alloc : Global) (old new : MutBor Left) (p : Subexpression)
      (r : Result Expr Failure) → post alloc old levels p r new
      → Reads expr_view (subexpression_of p (nested limits levels) (seen old.now)) r (seen new.now)

-- types in parentheses
pub record NestsTypes (levels : ℕ) (pre : Needs) (post : Ensures (Base × ℕ)) : Type 0 where
  pub callable : (alloc : Global) (old : MutBor Left) → pre alloc old levels
  pub reads : (alloc : Global) (old new : MutBor Left) (r : Result (Base × ℕ) Failure)
      → post alloc old levels r new
      → Reads type_view ((nested limits levels).type_in_parentheses (seen old.now)) r (seen new.now)

-- members of structs
pub record NestsMembers (levels : ℕ) (pre : Needs) (post : Ensures (List Decl)) : Type 0 where
  pub callable : (alloc : Global) (old : MutBor Left) → pre alloc old levels
  pub reads : (alloc : Global) (old new : MutBor Left) (r : Result (List Decl) Failure)
      → post alloc old levels r new
      → Reads each_decl ((nested limits levels).members (seen old.now)) r (seen new.now)

-- lists of initializers
pub record NestsInitializers (levels : ℕ) (pre : Needs) (post : Ensures (List Init)) : Type 0 where
  pub callable : (alloc : Global) (old : MutBor Left) → pre alloc old levels
  pub reads : (alloc : Global) (old new : MutBor Left) (r : Result (List Init) Failure)
      → post alloc old levels r new
      → Reads each_init ((nested limits levels).initializer_list (seen old.now)) r (seen new.now)
