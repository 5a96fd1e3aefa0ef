-- Programs, as plain data.
use Rattle.std.specs.Prelude.{ℕ, Bool, List, Option}
use Rattle.ec_base.specs.declared.line.Line.{Line}
use Rattle.ec_ctypes.specs.trees.Exprs.{BaseData, DimList, DeclData}
use Rattle.ec_ctypes.specs.trees.Stmts.{StmtList}
use Rattle.ec_ctypes.specs.trees.Embedded.{EmbData}

-- a parameter of a function
pub record ParamData : Type 0 where
  pub base : BaseData
  pub stars : ℕ
  pub name : Option (List ℕ)
  pub dims : DimList
  pub section : Bool

-- a declaration of a function, or its definition where it has a body
pub record FuncData : Type 0 where
  pub base : BaseData
  pub stars : ℕ
  pub name : List ℕ
  pub params : List ParamData
  pub body : Option StmtList
  pub section : Bool
  pub line : Line

-- what stands at the top level
pub data TopData : Type 0 where
  -- the bytes of an `#include` line
  include_top : List ℕ → TopData
  -- a directive, by its number among the embedded statements
  directive_top : ℕ → TopData
  decl_top : DeclData → TopData
  func_top : FuncData → TopData
  -- a mark of a declare section: whether it opens one, and its line
  mark_top : Bool → Line → TopData

-- a program, its embedded statements, and the line of its text's end
pub record UnitData : Type 0 where
  pub tops : List TopData
  pub embs : List EmbData
  pub last : Line
