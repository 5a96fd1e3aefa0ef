use Rattle.std.proofs.Common.{◌∙◌}
use Rattle.ec_references.proofs.Undoubled.{doubled_on, fresh_on}
use Rattle.ec_references.proofs.names.undoubled.Goals as goal
use Rattle.ec_references.proofs.names.undoubled.Goals.{then-doubled, else-doubled+in_ok-push}

pub loop-byte-preserved : goal.loop-byte-preserved
loop-byte-preserved c = elim c.if-doubled.branch [
  | then-doubled w ↦ doubled_on c.args.text.now c.loop-byte.bytes c.if-doubled.bytes c.loop-byte.byte-index c.loop-byte.doubled c.if-doubled.doubled w.if-doubled.true w.doubled-is w.bytes-is c.loop-byte.invariant
  | else-doubled+in_ok-push w ↦ fresh_on c.args.text.now c.loop-byte.bytes c.if-doubled.bytes c.loop-byte.byte-index c.loop-byte.doubled c.if-doubled.doubled c.loop-byte-test.true w.if-doubled.false w.doubled-is (w.bytes-is ∙ w.in_ok-push.ensures.ok) c.loop-byte.invariant
]
