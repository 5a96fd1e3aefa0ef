use Rattle.std.proofs.Common.{arith}
use Rattle.ec_link.proofs.Ready.{ready_slot-here, ready_slot-none}
use Rattle.ec_link.proofs.rack.first_ready.Goals as goal

pub returns-then-is_ready-clause-first : goal.returns-then-is_ready-clause-first
returns-then-is_ready-clause-first g c =
    ready_slot-here c.args.slots.now c.loop-at.at c.index-slots-at.result (omega arith) c.index-slots-at.is (cc (c.is_ready.ensures, c.if-is_ready.true)) c.loop-at.invariant

pub returns-clause-first : goal.returns-clause-first
returns-clause-first g c = ready_slot-none c.args.slots.now c.loop-at.at (omega arith) c.loop-at.invariant
