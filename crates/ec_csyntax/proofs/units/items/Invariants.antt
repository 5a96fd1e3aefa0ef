use Rattle.std.proofs.Common.{◌≡◌, ◌-◌}
use Rattle.ec_language.specs.Syntax.{limits}
use Rattle.ec_csyntax.specs.Tops.{top_inner, top_deeper}
use Rattle.ec_grammar.specs.ReadStatements.{items, items_from}
use Rattle.ec_cursor.specs.States.{seen}
use Rattle.ec_csyntax.specs.Views.{each_top}
use Rattle.ec_csyntax.proofs.units.items.Given as goal

abbrev pub invariant-loop-turn : goal.invariant-loop-turn
invariant-loop-turn l = items limits top_inner top_deeper (seen l.fn.cursor) ≡ items_from limits top_inner top_deeper (l._turn-end - l._turn) (each_top l.found) (seen l.cursor)
