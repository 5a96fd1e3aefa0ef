use Rattle.std.proofs.Common.{rules, arith}
use Rattle.std.proofs.lemmas.Grind.{common_steps}
use Rattle.ec_references.specs.Readers.{suffixes_behind, suffix_behind, begins_suffix, turns_from}
use Rattle.ec_ctypes.specs.views.Exprs.{expr_view}
use Rattle.ec_references.specs.States.{seen}
use Rattle.ec_references.proofs.Turns.{one_more}
use Rattle.ec_references.proofs.references.suffixes_behind.Goals as goal

pub loop-turn-init : goal.loop-turn-init
unfolding suffixes_behind
loop-turn-init c = first_of (search rules, grind (arith, common_steps))

pub loop-turn-preserved : goal.loop-turn-preserved
loop-turn-preserved c =
    let e = one_more (λ n. turns_from begins_suffix suffix_behind n (expr_view c.loop-turn.of) (seen c.loop-turn.cursor).counts (seen c.loop-turn.cursor).tokens) _ c.loop-turn._turn c.loop-turn-test.true c.loop-turn.invariant in
    first_of (search rules, grind (arith, common_steps))
