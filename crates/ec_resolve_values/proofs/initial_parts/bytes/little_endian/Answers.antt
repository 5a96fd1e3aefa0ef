use Rattle.std.proofs.Common.{refl}
use Rattle.ec_resolve_values.proofs.initial_parts_lemmas.Knowing.{byte_more}
use Rattle.ec_resolve_values.proofs.initial_parts.bytes.little_endian.Goals as goal

pub loop-left-preserved : goal.loop-left-preserved
loop-left-preserved c =
    byte_more c.loop-left.bytes c.push.new.self c.loop-left.left c.loop-left.rest _ c.loop-left-test.true c.in_ok-push.ensures.ok refl c.loop-left.invariant
