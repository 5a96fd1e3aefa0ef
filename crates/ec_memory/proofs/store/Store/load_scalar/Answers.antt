-- The value that the scalar stands for.
use Rattle.std.proofs.Common.{◌∙◌, sym, ap, Ok}
use Rattle.ec_memory_defs.specs.Memory.{and_then, span, decoded}
use Rattle.ec_memory.proofs.Reading.{span_length}
use Rattle.ec_memory.proofs.Calls.{loaded_value, loaded_trap}
use Rattle.ec_memory.proofs.store.Store.load_scalar.Goals as goal

pub returns-in-Ok : goal.returns-in-Ok
returns-in-Ok g c =
    loaded_value g.T.Scalar.decode (decoded g.T.Held.kind) (span c.args.self.now c.args.ptr.0 g.T.Scalar.SIZE) g.T.Scalar.SIZE c.in-Ok.scalar _ c.in-Ok.ensures.value c.in-Ok.ensures.bytes (λ bytes is. span_length c.args.self.now c.args.ptr.0 g.T.Scalar.SIZE bytes (sym is)) c.value.ensures
    ∙ ap (λ n. and_then (span c.args.self.now c.args.ptr.0 n) (λ bytes. Ok (decoded g.T.Held.kind bytes))) (sym g.met.T.Held.kind_size)

pub returns-in-Err : goal.returns-in-Err
returns-in-Err g c =
    loaded_trap g.T.Scalar.decode (decoded g.T.Held.kind) (span c.args.self.now c.args.ptr.0 g.T.Scalar.SIZE) _ c.in-Err.ensures.value
    ∙ ap (λ n. and_then (span c.args.self.now c.args.ptr.0 n) (λ bytes. Ok (decoded g.T.Held.kind bytes))) (sym g.met.T.Held.kind_size)
