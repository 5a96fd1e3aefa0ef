-- The zero bytes stand right behind the text.
use Rattle.std.proofs.Common.{rules, length, refl, arith}
use Rattle.ec_convert.proofs.Putting.{text_put}
use Rattle.ec_convert.proofs.piece.put_text.Goals as goal

pub returns-clause-outcome : goal.returns-clause-outcome
returns-clause-outcome c =
    let whole = text_put c.args.store.now c.in_ok-bytes.bytes.store.now c.put.new.self.store.now c.fill.new.self.store.now c.args.at.0 c.in_ok-bytes.bytes.ptr.0 c.put.new.self.ptr.0 c.args.zeros (length c.args.text.now) c.args.text.now c.in_ok-bytes.ensures.memory c.in_ok-bytes.ensures.pointer c.put.ensures.same.1 c.put.ensures.memory refl (omega (arith, c.in_ok-bytes.ensures.near)) c.fill.ensures.memory in
    search (whole, rules)
