use Rattle.std.proofs.Common.{◌≡◌, ◌-◌, ◌≤◌}
use Rattle.ec_grammar.specs.ReadDeclarations.{stars, stars_from}
use Rattle.ec_language.specs.Syntax.{limits}
use Rattle.ec_cursor.specs.States.{seen}
use Rattle.ec_cdeclare.proofs.types.stars.Given as goal

abbrev pub invariant-loop-turn : goal.invariant-loop-turn
invariant-loop-turn l = (stars limits (seen l.fn.cursor) ≡ stars_from limits (l._turn-end - l._turn) l.found (seen l.cursor)) × (l.found ≤ (seen l.cursor).counts.derivations)
