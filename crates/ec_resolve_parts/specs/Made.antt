-- What is made of declarations and statements.
use Rattle.std.specs.Prelude.{List, [], ◌∷◌, map, Option, Some, None, option_map}
use Rattle.ec_code.specs.declared.expression.Expression.{Expression}
use Rattle.ec_code.specs.declared.statement.Statement.{Statement}
use Rattle.ec_code.specs.Views.{expression_view, statement_view}
use Rattle.ec_meaning_defs.specs.resolved.Resolved.{Exp, Stm}

abbrev pub optional_view : Option Expression → Option Exp
optional_view e = option_map expression_view e

-- the statement of an object, which a global has not
abbrev pub made_view : Option Statement → List Stm
made_view None = []
made_view (Some s) = statement_view s ∷ []

abbrev pub listed_view : List Statement → List Stm
listed_view ss = map statement_view ss
