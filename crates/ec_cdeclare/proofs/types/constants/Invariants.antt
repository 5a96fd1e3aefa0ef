use Rattle.std.proofs.Common.{◌≡◌, ◌-◌}
use Rattle.ec_grammar.specs.ReadDeclarations.{constants, constants_from}
use Rattle.ec_cursor.specs.States.{seen}
use Rattle.ec_cdeclare.proofs.types.constants.Given as goal

abbrev pub invariant-loop-turn : goal.invariant-loop-turn
invariant-loop-turn l = constants (seen l.fn.cursor) ≡ constants_from (l._turn-end - l._turn) (seen l.cursor)
