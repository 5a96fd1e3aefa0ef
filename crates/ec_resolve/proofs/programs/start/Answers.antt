use Rattle.ec_resolve.proofs.Whole.{begins_world}
use Rattle.ec_resolve.proofs.programs.start.Goals as goal

pub returns-clause-world : goal.returns-clause-world
returns-clause-world c =
    begins_world c.args.written c.args.unit.now c.as_slice.result.now _ c.in_ok-defined.defined c.in_ok-checker.ensures.world c.in_ok-defined.ensures c.as_slice.ensures

pub returns-clause-storage : goal.returns-clause-storage
returns-clause-storage c = c.in_ok-storage.ensures
