use Rattle.std.proofs.Common.{◌∙◌, drop, sym, ap}
use Rattle.ec_clex.specs.Marks.{begins_byte}
use Rattle.ec_clex.proofs.MarkEnds.{shift_far, shift_near}
use Rattle.ec_split.proofs.Steps.{later}
use Rattle.ec_clex.proofs.marks.shifting.Goals as goal

pub returns-then-byte_at-clause-is : goal.returns-then-byte_at-clause-is
returns-then-byte_at-clause-is c =
    let a = c.args in
    c.of.ensures
    ∙ shift_far (drop a.behind a.text.now) a.byte a.alone a.equal a.shift a.assigns (sym c.byte_at.ensures ∙ c.if-not-byte_at.false)
    (ap (begins_byte 61) (later 1 a.behind a.text.now) ∙ sym c.byte_at-else-not-byte_at.ensures ∙ c.if-byte_at.true)

pub returns-else-byte_at-clause-is : goal.returns-else-byte_at-clause-is
returns-else-byte_at-clause-is c =
    let a = c.args in
    c.of-else-byte_at.ensures
    ∙ shift_near (drop a.behind a.text.now) a.byte a.alone a.equal a.shift a.assigns (sym c.byte_at.ensures ∙ c.if-not-byte_at.false)
    (ap (begins_byte 61) (later 1 a.behind a.text.now) ∙ sym c.byte_at-else-not-byte_at.ensures ∙ c.if-byte_at.false)
