use Rattle.std.proofs.Common.{◌≡◌, length}
use Rattle.ec_arguments.specs.Rules.{are_settings}
use Rattle.ec_cut.specs.Views.{items_view}
use Rattle.ec_cut.proofs.rules.are_settings.Given as goal

abbrev pub invariant-loop-left : goal.invariant-loop-left
invariant-loop-left g l =
    are_settings (items_view g.B.Literal.bytes g.A.Pointer.view l.items) ≡ are_settings (items_view g.B.Literal.bytes g.A.Pointer.view l.left)

abbrev pub decreases-loop-left : goal.decreases-loop-left
decreases-loop-left g l = length l.left
