use Rattle.std.proofs.Common.{rules, arith}
use Rattle.std.proofs.lemmas.Grind.{common_steps}
use Rattle.ec_references.specs.States.{seen}
use Rattle.ec_references.proofs.Turns.{one_more}
use Rattle.ec_server_text.specs.Readers.{cuts_within}
use Rattle.ec_server_text.specs.Views.{cutting_view}
use Rattle.ec_server_text.proofs.cuts.cuts_within.Goals as goal

pub loop-turn-init : goal.loop-turn-init
loop-turn-init c = first_of (search rules, grind (arith, common_steps))

pub loop-turn-preserved : goal.loop-turn-preserved
loop-turn-preserved c =
    let e = one_more (λ n. cuts_within n (cutting_view c.loop-turn.cutting) (seen c.loop-turn.cursor).counts (seen c.loop-turn.cursor).tokens) _ c.loop-turn._turn c.loop-turn-test.true c.loop-turn.invariant.whole in
    first_of (search rules, grind (arith, common_steps))
