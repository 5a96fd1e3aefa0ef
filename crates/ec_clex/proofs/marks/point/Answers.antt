use Rattle.std.proofs.Common.{◌∙◌, drop, sym, ap}
use Rattle.ec_clex.specs.Marks.{begins_byte}
use Rattle.ec_clex.proofs.MarkEnds.{point_far, point_near}
use Rattle.ec_split.proofs.Steps.{later}
use Rattle.ec_clex.proofs.marks.point.Goals as goal

pub returns-then-byte_at-clause-is : goal.returns-then-byte_at-clause-is
returns-then-byte_at-clause-is c =
    point_far (drop c.args.behind c.args.text.now) (sym c.byte_at.ensures ∙ c.if-not-byte_at.false)
    (ap (begins_byte 46) (later 1 c.args.behind c.args.text.now) ∙ sym c.byte_at-else-not-byte_at.ensures ∙ c.if-byte_at.true)

pub returns-else-byte_at-clause-is : goal.returns-else-byte_at-clause-is
returns-else-byte_at-clause-is c =
    c.of-else-byte_at.ensures
    ∙ point_near (drop c.args.behind c.args.text.now) (sym c.byte_at.ensures ∙ c.if-not-byte_at.false)
    (ap (begins_byte 46) (later 1 c.args.behind c.args.text.now) ∙ sym c.byte_at-else-not-byte_at.ensures ∙ c.if-byte_at.false)
