-- What is read one level deeper than where it stands.
use Rattle.std.specs.Prelude.{ℕ, List, Option}
use Rattle.ec_ctypes.specs.trees.Exprs.{ExprData, BaseData, InitData, DeclData}
use Rattle.ec_ctypes.specs.trees.Stmts.{StmtData}
use Rattle.ec_ctypes.specs.trees.Units.{ParamData}
use Rattle.ec_language.specs.Productions.{ForHead}
use Rattle.ec_grammar.specs.Input.{Parser}

-- in expressions and declarations
pub record Nested : Type 0 where
  pub assignment : Parser ExprData
  pub cast_part : Parser ExprData
  pub unary_part : Parser ExprData
  pub size_operand : Parser ExprData
  pub parenthesized : Parser ExprData
  pub index_part : Parser ExprData
  pub argument_part : Parser (List ExprData)
  pub type_in_parentheses : Parser (BaseData × ℕ)
  pub members : Parser (List DeclData)
  pub length_part : Parser (Option ExprData)
  pub initializer_list : Parser (List InitData)
  pub parameter_part : Parser (List ParamData)
  pub for_head : Parser ForHead
  -- an array length, which `length_part` holds
  pub operators : Parser ExprData

-- in statements
pub record NestedStatements : Type 0 where
  pub block : Parser (List StmtData)
  pub statement : Parser StmtData
