use Rattle.std.proofs.Common.{◌≡◌, ◌≤◌, length, take}
use Rattle.ec_typing_defs.specs.Worlds as rule
use Rattle.ec_scopes.specs.Entries.{outer_view}
use Rattle.ec_scopes.proofs.scopes.tag_in.Given as goal

abbrev pub invariant-loop-left : goal.invariant-loop-left
invariant-loop-left l = record {
  within : l.left ≤ length l.scopes;
  rest : rule.tag_in (outer_view (take l.left l.scopes)) l.tag ≡ rule.tag_in (outer_view l.scopes) l.tag;
}

abbrev pub decreases-loop-left : goal.decreases-loop-left
decreases-loop-left l = l.left
