use Rattle.std.proofs.Common.{rules, arith}
use Rattle.std.proofs.lemmas.Grind.{common_steps}
use Rattle.ec_ctypes.specs.views.Exprs.{expr_view}
use Rattle.ec_references.specs.Readers.{suffix_behind, turns_from}
use Rattle.ec_references.specs.States.{seen}
use Rattle.ec_references.proofs.Turns.{one_more}
use Rattle.ec_server_text.specs.Readers.{long_suffixes, begins_suffix}
use Rattle.ec_server_text.proofs.hosts.long_suffixes.Goals as goal

pub loop-turn-init : goal.loop-turn-init
unfolding long_suffixes
loop-turn-init c = first_of (search rules, grind (arith, common_steps))

pub loop-turn-preserved : goal.loop-turn-preserved
loop-turn-preserved c =
    let e = one_more (λ n. turns_from begins_suffix suffix_behind n (expr_view c.loop-turn.of) (seen c.loop-turn.cursor).counts (seen c.loop-turn.cursor).tokens) _ c.loop-turn._turn c.loop-turn-test.true c.loop-turn.invariant in
    first_of (search rules, grind (arith, common_steps))
