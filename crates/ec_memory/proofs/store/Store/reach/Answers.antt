-- The access lies in its object.
use Rattle.std.proofs.Common.{sym, ap}
use Rattle.std.specs.Result.{result_err}
use Rattle.ec_memory.proofs.Calls.{rising_of, found_at, few_bytes}
use Rattle.ec_memory.proofs.store.Store.reach.Goals as goal

pub reach-requires : goal.reach-requires
reach-requires c = rising_of _ _ _ _ c.self.invariant c.deref.ensures.value

pub returns-in_err-reach-clause-few : goal.returns-in_err-reach-clause-few
returns-in_err-reach-clause-few c = few_bytes _ _ _ _ c.self.view_is c.self.invariant

pub returns-clause-trap : goal.returns-clause-trap
returns-clause-trap c = sym (ap result_err (found_at _ _ _ _ _ c.args.ptr.0 c.args.n _ c.self.view_is c.self.invariant c.deref.ensures.value c.in_ok-reach.ensures))

pub returns-clause-few : goal.returns-clause-few
returns-clause-few c = few_bytes _ _ _ _ c.self.view_is c.self.invariant
