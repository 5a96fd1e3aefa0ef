use Rattle.std.proofs.Common.{◌≡◌, map, ◌-◌}
use Rattle.ec_grammar.specs.Input.{Parser}
use Rattle.ec_grammar.specs.Lists.{separated, separated_from}
use Rattle.ec_cursor.specs.States.{ReadsItems, seen}
use Rattle.ec_cursor.proofs.lists.separated.Given as goal

abbrev pub invariant-loop-turn : goal.invariant-loop-turn
invariant-loop-turn g l =
    (item : Parser g.T.Item.Data) → ReadsItems g.T.Item.view item (goal.R-post g l.read)
    → separated item (map g.T.Item.view l.fn.found) (seen l.fn.cursor)
    ≡ separated_from item (l._turn-end - l._turn) (map g.T.Item.view l.found) (seen l.cursor)
