use Rattle.std.proofs.Common.{rules, arith}
use Rattle.std.proofs.lemmas.Grind.{common_steps}
use Rattle.ec_embedded.specs.Terminals.{target_more}
use Rattle.ec_references.specs.Readers.{next_is, turns_from}
use Rattle.ec_references.specs.States.{seen}
use Rattle.ec_references.proofs.Turns.{one_more}
use Rattle.ec_statement_readers.specs.Readers.{more_bytes, one_more_byte}
use Rattle.ec_statement_readers.specs.Views.{bytes_view}
use Rattle.ec_statement_readers.proofs.connections.more_tokens.Goals as goal

pub loop-turn-init : goal.loop-turn-init
unfolding more_bytes
loop-turn-init c = first_of (search rules, grind (arith, common_steps))

pub loop-turn-preserved : goal.loop-turn-preserved
loop-turn-preserved c =
    let e = one_more (λ n. turns_from (next_is target_more) one_more_byte n (bytes_view c.loop-turn.target) (seen c.loop-turn.cursor).counts (seen c.loop-turn.cursor).tokens) _ c.loop-turn._turn c.loop-turn-test.true c.loop-turn.invariant in
    first_of (search rules, grind (arith, common_steps))
