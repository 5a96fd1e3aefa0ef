use Rattle.std.proofs.Common.{◌∙◌, sym, map}
use Rattle.ec_ctypes.specs.views.Types.{structs_view}
use Rattle.ec_leaves.specs.Seen.{leaf_view}
use Rattle.ec_leaves.proofs.Turning.{total, turn_left}
use Rattle.ec_leaves.proofs.going.leave.Goals as goal

pub returns-in-Some-clause-turned : goal.returns-in-Some-clause-turned
returns-in-Some-clause-turned c =
    let structs = structs_view c.args.structs.now in
    let old = c.args.walk.now in
    let ls = map leaf_view old.leaves in
    turn_left structs c.args.frame c.pop.new.self c.in-Some.step old.id ls
    ∙ (λ i. total structs c.args.frame (sym c.in-Some.ensures i) old.id (sym c.requires.left i) ls)
