-- The elements lie in the object.
use Rattle.std.proofs.Common.{◌+◌, ◌-◌, ◌*◌, ap}
use Rattle.ec_memory.proofs.Strides.{reached}
use Rattle.ec_memory.proofs.store.Store.elements.Goals as goal

pub invariant_of-result : goal.invariant_of-result
invariant_of-result g c = record {
  reaches = reached c.args.self.now c.args.ptr.0 c.args.count c.args.step g.T.Scalar.SIZE _ c.in_ok-reach.ensures.trap (ap (λ size. (c.args.count - 1) * c.args.step + size) c.SIZE.ensures) c.reach.ensures.few;
}
