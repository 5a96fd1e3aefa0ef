use Rattle.std.proofs.Common.{◌≡◌, ◌++◌, drop, map}
use Rattle.ec_runtime.specs.Statements.{target_view}
use Rattle.ec_calling.specs.Serving.{members_seen}
use Rattle.ec_calling.proofs.serving.outputs_of.Given as goal

abbrev pub invariant-loop-member : goal.invariant-loop-member
invariant-loop-member l = map target_view l.made ++ members_seen (drop l.member-index l.members) ≡ members_seen l.members
