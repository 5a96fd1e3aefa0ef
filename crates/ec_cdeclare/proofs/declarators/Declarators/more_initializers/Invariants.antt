use Rattle.std.proofs.Common.{◌≡◌, ◌-◌}
use Rattle.ec_grammar.specs.ReadDeclarations.{more_initializers, more_initializers_from, nested}
use Rattle.ec_language.specs.Syntax.{limits}
use Rattle.ec_cursor.specs.Parts.{each_init}
use Rattle.ec_cursor.specs.States.{seen}
use Rattle.ec_cdeclare.proofs.declarators.Declarators.more_initializers.Given as goal

abbrev pub invariant-loop-turn : goal.invariant-loop-turn
invariant-loop-turn g l = more_initializers limits (nested limits l.self.expressions.levels) (each_init l.fn.found) (seen l.fn.cursor) ≡ more_initializers_from limits (nested limits l.self.expressions.levels) (l._turn-end - l._turn) (each_init l.found) (seen l.cursor)
