use Rattle.std.proofs.Common.{◌≤◌, length, map, arith}
use Rattle.ec_ctypes.specs.views.Types.{member_view}
use Rattle.ec_scopes.specs.Entries.{type_view, named_view}
use Rattle.ec_check.proofs.Listed.{listed_step, listed_end}
use Rattle.ec_check.proofs.structs.listed_members.Goals as goal

pub loop-i-preserved : goal.loop-i-preserved
loop-i-preserved c =
    listed_step (named_view type_view c.args.members.now) c.loop-i.i (map member_view c.loop-i.all) _ c.loop-i.invariant c.in_ok-push_member.ensures

pub returns : goal.returns
returns c =
    let le : length c.args.members.now ≤ c.loop-i.i = omega (arith, c.len-i-end.ensures, c.loop-i-test.false) in
    listed_end c.args.members.now c.loop-i.i (map member_view c.loop-i.all) le c.loop-i.invariant
