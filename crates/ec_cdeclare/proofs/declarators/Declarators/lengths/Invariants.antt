use Rattle.std.proofs.Common.{◌≡◌, ◌-◌}
use Rattle.ec_grammar.specs.ReadDeclarations.{lengths, lengths_from, nested}
use Rattle.ec_language.specs.Syntax.{limits}
use Rattle.ec_cursor.specs.Parts.{each_length}
use Rattle.ec_cursor.specs.States.{seen}
use Rattle.ec_cdeclare.proofs.declarators.Declarators.lengths.Given as goal

abbrev pub invariant-loop-turn : goal.invariant-loop-turn
invariant-loop-turn g l = lengths limits (nested limits l.self.expressions.levels) (seen l.fn.cursor) ≡ lengths_from limits (nested limits l.self.expressions.levels) (l._turn-end - l._turn) (each_length l.found) (seen l.cursor)
