use Rattle.std.proofs.Common.{◌≡◌, length}
use Rattle.ec_arguments.specs.Rules.{are_hosts}
use Rattle.ec_cut.specs.Views.{members_view}
use Rattle.ec_cut.proofs.rules.are_hosts.Given as goal

abbrev pub invariant-loop-left : goal.invariant-loop-left
invariant-loop-left g l =
    are_hosts (members_view g.B.Literal.bytes g.A.Pointer.view l.members) ≡ are_hosts (members_view g.B.Literal.bytes g.A.Pointer.view l.left)

abbrev pub decreases-loop-left : goal.decreases-loop-left
decreases-loop-left g l = length l.left
