use Rattle.std.proofs.Common.{◌≡◌, ◌-◌}
use Rattle.ec_arguments.specs.Reading.{next_members}
use Rattle.ec_cut.specs.Cases.{ends_by, with_front}
use Rattle.ec_cut.specs.Views.{left_view, members_view}
use Rattle.ec_cut.proofs.lists.next_members.Given as goal

abbrev pub invariant-loop-turn : goal.invariant-loop-turn
invariant-loop-turn g l =
    next_members (ends_by l.end) l.most (left_view g.B.Literal.bytes g.A.Pointer.view l.fn.front)
    ≡ with_front (members_view g.B.Literal.bytes g.A.Pointer.view l.found) (next_members (ends_by l.end) (l.most - l._turn) (left_view g.B.Literal.bytes g.A.Pointer.view l.front))
