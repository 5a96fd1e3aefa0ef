-- The plain reading of statements, where so many levels are left.
use Rattle.std.specs.Prelude.{ℕ}
use Rattle.ec_language.specs.Grammar.{Limits}
use Rattle.ec_language.specs.Syntax.{limits}
use Rattle.ec_grammar.specs.Nested.{Nested, NestedStatements}
use Rattle.ec_grammar.specs.ReadDeclarations.{nested}
use Rattle.ec_grammar.specs.ReadStatements.{nested_statements}

abbrev pub within_statements : {X : Type 0} → ℕ → (Limits → Nested → NestedStatements → X) → X
within_statements levels f = f limits (nested limits levels) (nested_statements limits levels)
