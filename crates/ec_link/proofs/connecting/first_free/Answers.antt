use Rattle.std.proofs.Common.{arith}
use Rattle.ec_link.proofs.Free.{free_slot-here, free_slot-none}
use Rattle.ec_link.proofs.connecting.first_free.Goals as goal

pub returns-then-is_free-clause-first : goal.returns-then-is_free-clause-first
returns-then-is_free-clause-first g c =
    free_slot-here c.args.target.now c.args.slots.now c.loop-at.at c.index-slots-at.result (omega arith) c.index-slots-at.is (cc (c.is_free.ensures, c.if-is_free.true)) c.loop-at.invariant

pub returns-clause-first : goal.returns-clause-first
returns-clause-first g c = free_slot-none c.args.target.now c.args.slots.now c.loop-at.at (omega arith) c.loop-at.invariant
