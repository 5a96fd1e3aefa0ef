use Rattle.std.proofs.Common.{rules, arith, codes, map}
use Rattle.std.proofs.lemmas.Grind.{common_steps}
use Rattle.ec_ctypes.specs.views.Embedded.{get_item_view}
use Rattle.ec_embedded.specs.Terminals.{sign}
use Rattle.ec_references.specs.Readers.{further, one_further, next_is, turns_from}
use Rattle.ec_references.specs.States.{seen}
use Rattle.ec_references.proofs.Turns.{one_more}
use Rattle.ec_statement_readers.specs.Readers.{got}
use Rattle.ec_statement_readers.proofs.descriptors.more_got.Goals as goal

pub loop-turn-init : goal.loop-turn-init
unfolding further
loop-turn-init c = first_of (search rules, grind (arith, common_steps))

pub loop-turn-preserved : goal.loop-turn-preserved
loop-turn-preserved c =
    let e = one_more (λ n. turns_from (next_is (sign (codes ","))) (one_further got) n (map get_item_view c.loop-turn.items) (seen c.loop-turn.cursor).counts (seen c.loop-turn.cursor).tokens) _ c.loop-turn._turn c.loop-turn-test.true c.loop-turn.invariant in
    first_of (search rules, grind (arith, common_steps))
