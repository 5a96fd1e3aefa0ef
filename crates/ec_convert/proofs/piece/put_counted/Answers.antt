-- The text stands right behind its length, and the zero bytes right behind the text.
use Rattle.std.proofs.Common.{rules, ◌+◌, ◌∙◌, ap, sym, pos, length, refl, arith}
use Rattle.ec_memory_defs.specs.Memory.{put}
use Rattle.ec_ctypes.specs.declared.types.arith.Arith.TheVariants.{Int}
use Rattle.ec_transfer_defs.specs.Conversion.{integer_bytes}
use Rattle.ec_convert.proofs.Putting.{counted_put}
use Rattle.ec_convert.proofs.piece.put_counted.Goals as goal

pub returns-clause-outcome : goal.returns-clause-outcome
returns-clause-outcome c =
    let whole = counted_put c.args.store.now c.in_ok-bytes.bytes.store.now c.set.new.self.store.now c.put.new.self.store.now c.fill.new.self.store.now c.args.at.0 c.in_ok-bytes.bytes.ptr.0 c.set.new.self.ptr.0 c.put.new.self.ptr.0 c.args.zeros (length c.args.text.now) (integer_bytes Int (pos (length c.args.text.now))) c.args.text.now c.in_ok-bytes.ensures.memory c.in_ok-bytes.ensures.pointer c.set.ensures.same.1 c.put.ensures.same.1
    (ap (λ bytes. put c.in_ok-bytes.bytes.store.now (c.in_ok-bytes.bytes.ptr.0 + 0) bytes) (sym c.counted_length.ensures) ∙ c.set.ensures.memory) refl c.put.ensures.memory refl (omega (arith, c.in_ok-bytes.ensures.near)) c.fill.ensures.memory in
    search (whole, rules)
