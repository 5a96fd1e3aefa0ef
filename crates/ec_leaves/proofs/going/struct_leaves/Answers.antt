use Rattle.std.proofs.Common.{◌∙◌, ap, sym, map, Bool}
use Rattle.ec_ctypes.specs.views.Types.{struct_view, structs_view}
use Rattle.ec_leaves.specs.Adding.{added}
use Rattle.ec_leaves.specs.Going.{whole}
use Rattle.ec_leaves.specs.Seen.{leaf_view}
use Rattle.ec_leaves.proofs.Turning.{walk_begun}
use Rattle.ec_leaves.proofs.going.struct_leaves.Goals as goal

pub returns-then-has : goal.returns-then-has
returns-then-has c =
    let structs = structs_view c.args.structs.now in
    sym (ap (λ (b : Bool). added b (map leaf_view c.run.new.walk.leaves)) c.if-has.true)
    ∙ c.in_ok-has.ensures
    ∙ (λ i. whole structs c.args.frame (record { outer = c.new.ensures i; id = c.args.id; next = 0; leaves = c.new-2.ensures i }))
    ∙ walk_begun structs c.args.frame c.args.id (struct_view c.in-Some._definition.now) (sym c.in-Some.ensures)
