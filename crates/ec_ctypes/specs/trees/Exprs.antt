-- Expressions, and the declarations that may stand in them, as plain data.
use Rattle.std.specs.Prelude.{ℕ, ℤ, Bool, List, Option}
use Rattle.ec_base.specs.declared.line.Line.{Line}
use Rattle.ec_ctypes.specs.declared.tree.expr.UnOp.{UnOp}
use Rattle.ec_ctypes.specs.declared.tree.expr.BinOp.{BinOp}
use Rattle.ec_ctypes.specs.trees.Types.{TyData}

mutual
  -- an expression
  pub data ExprData : Type 0 where
    -- an integer constant, with its type
    integer : ℕ → TyData → ExprData
    -- a character constant
    character : ℤ → ExprData
    -- a string literal, without its zero byte
    string : List ℕ → ExprData
    identifier : List ℕ → ExprData
    unary : UnOp → ExprData → ExprData
    binary : BinOp → ExprData → ExprData → ExprData
    -- with the operator of a compound assignment
    assign : Option BinOp → ExprData → ExprData → ExprData
    -- `++` or `--`: whether the operator stands before its operand, and whether it is `++`
    bump : Bool → Bool → ExprData → ExprData
    -- a call of the function of this name
    call : List ℕ → ExprList → ExprData
    -- a call whose function is no name
    call_other : ExprData → ExprList → ExprData
    index : ExprData → ExprData → ExprData
    -- `a.m`
    member : ExprData → List ℕ → ExprData
    -- `a->m`
    arrow : ExprData → List ℕ → ExprData
    -- a cast to a base with so many stars
    cast : BaseData → ℕ → ExprData → ExprData
    -- `sizeof` of a base with so many stars
    size_type : BaseData → ℕ → ExprData
    size_expr : ExprData → ExprData

  pub data ExprList : Type 0 where
    no_exprs : ExprList
    exprs : ExprData → ExprList → ExprList

  -- what a declaration begins with
  pub data BaseData : Type 0 where
    -- type words, in their order
    words : List (List ℕ) → BaseData
    varchar : BaseData
    -- a struct by its tag
    tagged : List ℕ → BaseData
    -- a struct with its members, and its tag if it has one
    struct_base : Option (List ℕ) → DeclList → BaseData

  -- an array length, which may be left out
  pub data DimData : Type 0 where
    open_dim : DimData
    dim : ExprData → DimData

  pub data DimList : Type 0 where
    no_dims : DimList
    dims : DimData → DimList → DimList

  pub data InitData : Type 0 where
    one : ExprData → InitData
    -- in braces
    many : InitList → InitData

  pub data InitList : Type 0 where
    no_inits : InitList
    inits : InitData → InitList → InitList

  -- an initializer, if there is one
  pub data InitOption : Type 0 where
    no_init : InitOption
    some_init : InitData → InitOption

  -- stars, a name, array lengths and an initializer
  pub data DeclaratorData : Type 0 where
    declarator : ℕ → List ℕ → DimList → InitOption → DeclaratorData

  pub data DeclaratorList : Type 0 where
    no_declarators : DeclaratorList
    declarators : DeclaratorData → DeclaratorList → DeclaratorList

  -- a base, its declarators, whether they stand in a declare section, and the line
  pub data DeclData : Type 0 where
    decl : BaseData → DeclaratorList → Bool → Line → DeclData

  pub data DeclList : Type 0 where
    no_decls : DeclList
    decls : DeclData → DeclList → DeclList
