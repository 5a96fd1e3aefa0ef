use Rattle.std.proofs.Common.{◌≡◌, ◌-◌}
use Rattle.ec_grammar.specs.ReadDeclarations.{nested}
use Rattle.ec_grammar.specs.ReadExpressions.{postfix_parts, postfix_parts_from}
use Rattle.ec_language.specs.Syntax.{limits}
use Rattle.ec_cexpressions.specs.Primaries.{primary_view}
use Rattle.ec_cursor.specs.States.{seen}
use Rattle.ec_cexpressions.proofs.expressions.Expressions.postfix_parts.Given as goal

abbrev pub invariant-loop-turn : goal.invariant-loop-turn
invariant-loop-turn g l =
    postfix_parts limits (nested limits l.self.levels) (primary_view l.fn.left) (seen l.fn.cursor)
    ≡ postfix_parts_from limits (nested limits l.self.levels) (l._turn-end - l._turn) (primary_view l.left) (seen l.cursor)
