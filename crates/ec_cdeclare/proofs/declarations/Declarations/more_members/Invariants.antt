use Rattle.std.proofs.Common.{◌≡◌, ◌-◌}
use Rattle.ec_grammar.specs.ReadDeclarations.{more_members, more_members_from, nested}
use Rattle.ec_language.specs.Syntax.{limits}
use Rattle.ec_cursor.specs.Parts.{each_decl}
use Rattle.ec_cursor.specs.States.{seen}
use Rattle.ec_cdeclare.proofs.declarations.Declarations.more_members.Given as goal

abbrev pub invariant-loop-turn : goal.invariant-loop-turn
invariant-loop-turn g l = more_members limits (nested limits l.self.declarators.expressions.levels) (each_decl l.fn.found) (seen l.fn.cursor) ≡ more_members_from limits (nested limits l.self.declarators.expressions.levels) (l._turn-end - l._turn) (each_decl l.found) (seen l.cursor)
