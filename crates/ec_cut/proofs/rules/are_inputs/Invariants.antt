use Rattle.std.proofs.Common.{◌≡◌, length}
use Rattle.ec_arguments.specs.Rules.{are_inputs}
use Rattle.ec_cut.specs.Views.{members_view}
use Rattle.ec_cut.proofs.rules.are_inputs.Given as goal

abbrev pub invariant-loop-left : goal.invariant-loop-left
invariant-loop-left g l =
    are_inputs g.A.Pointer.leads_to_text (members_view g.B.Literal.bytes g.A.Pointer.view l.members) ≡ are_inputs g.A.Pointer.leads_to_text (members_view g.B.Literal.bytes g.A.Pointer.view l.left)

abbrev pub decreases-loop-left : goal.decreases-loop-left
decreases-loop-left g l = length l.left
