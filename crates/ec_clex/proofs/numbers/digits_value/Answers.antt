use Rattle.std.proofs.Common.{◌+◌, ◌*◌, drop, arith}
use Rattle.ec_clex.proofs.Digits.{value_grows, value_next}
use Rattle.ec_clex.proofs.numbers.digits_value.Goals as goal

pub returns-in-None : goal.returns-in-None
returns-in-None c =
    let digits = c.args.digits.now in
    let grows = value_grows c.args.base (c.loop-byte.number * c.args.base + c.digit_value.result) (drop (c.loop-byte.byte-index + 1) digits) c.requires in
    let next = value_next c.args.base c.loop-byte.number c.loop-byte.byte-index digits c.loop-byte-test.true in
    let same = rw (← c.digit_value.ensures) at next in
    omega (arith, c.in-None.ensures, grows, same, c.loop-byte.invariant)
