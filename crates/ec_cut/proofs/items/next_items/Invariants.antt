use Rattle.std.proofs.Common.{◌≡◌, ◌-◌}
use Rattle.ec_arguments.specs.Reading.{next_items}
use Rattle.ec_cut.specs.Cases.{with_front}
use Rattle.ec_cut.specs.Views.{left_view, items_view}
use Rattle.ec_cut.proofs.items.next_items.Given as goal

abbrev pub invariant-loop-turn : goal.invariant-loop-turn
invariant-loop-turn g l =
    next_items l.most (left_view g.B.Literal.bytes g.A.Pointer.view l.fn.front)
    ≡ with_front (items_view g.B.Literal.bytes g.A.Pointer.view l.found) (next_items (l.most - l._turn) (left_view g.B.Literal.bytes g.A.Pointer.view l.front))
