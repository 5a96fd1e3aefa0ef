use Rattle.std.proofs.Common.{◌≡◌, ◌-◌}
use Rattle.ec_language.specs.Syntax.{limits}
use Rattle.ec_grammar.specs.ReadDeclarations.{nested}
use Rattle.ec_grammar.specs.ReadStatements.{block_items, block_items_from, nested_statements}
use Rattle.ec_cursor.specs.States.{seen}
use Rattle.ec_csyntax.specs.Views.{each_stmt}
use Rattle.ec_csyntax.proofs.statements.Statements.block_items.Given as goal

abbrev pub invariant-loop-turn : goal.invariant-loop-turn
invariant-loop-turn g l = block_items limits (nested limits l.self.levels) (nested_statements limits l.self.levels) (seen l.fn.cursor) ≡ block_items_from limits (nested limits l.self.levels) (nested_statements limits l.self.levels) (l._turn-end - l._turn) (each_stmt l.found) (seen l.cursor)
