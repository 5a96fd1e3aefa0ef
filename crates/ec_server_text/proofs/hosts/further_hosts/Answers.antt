use Rattle.std.proofs.Common.{rules, arith, map}
use Rattle.std.proofs.lemmas.Grind.{common_steps}
use Rattle.ec_ctypes.specs.views.Embedded.{host_view}
use Rattle.ec_embedded.specs.ServerText.{begins_more}
use Rattle.ec_references.specs.Readers.{turns_from}
use Rattle.ec_references.specs.States.{seen}
use Rattle.ec_references.proofs.Turns.{one_more}
use Rattle.ec_server_text.specs.Readers.{further_host, further_hosts}
use Rattle.ec_server_text.proofs.hosts.further_hosts.Goals as goal

pub loop-turn-init : goal.loop-turn-init
unfolding further_hosts
loop-turn-init c = first_of (search rules, grind (arith, common_steps))

pub loop-turn-preserved : goal.loop-turn-preserved
loop-turn-preserved c =
    let e = one_more (λ n. turns_from begins_more further_host n (map host_view c.loop-turn.hosts) (seen c.loop-turn.cursor).counts (seen c.loop-turn.cursor).tokens) _ c.loop-turn._turn c.loop-turn-test.true c.loop-turn.invariant in
    first_of (search rules, grind (arith, common_steps))
