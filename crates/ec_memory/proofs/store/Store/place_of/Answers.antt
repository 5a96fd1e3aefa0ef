-- Where the bytes lie, or the trap.
use Rattle.ec_memory.proofs.Calls.{rising_of}
use Rattle.ec_memory.proofs.Lending.{found_place}
use Rattle.ec_memory.proofs.store.Store.place_of.Goals as goal

pub reach-requires : goal.reach-requires
reach-requires c = rising_of _ _ _ _ c.self.invariant c.deref.ensures.value

pub returns-clause-trap : goal.returns-clause-trap
returns-clause-trap c =
    let found = found_place _ _ _ _ _ c.args.ptr.0 c.args.count c.reach.result c.self.view_is c.self.invariant c.deref.ensures.value c.reach.ensures in found.0

pub returns-clause-place : goal.returns-clause-place
returns-clause-place c =
    let found = found_place _ _ _ _ _ c.args.ptr.0 c.args.count c.reach.result c.self.view_is c.self.invariant c.deref.ensures.value c.reach.ensures in found.1
