use Rattle.std.proofs.Common.{codes, decimal}
use Rattle.ec_generate.proofs.Joins.{three}
use Rattle.ec_generate.proofs.source.push_question.Goals as goal

pub returns : goal.returns
returns c =
    three c.extend_from_slice-3.result c.args.text.now (codes "EXEC SQL SELECT ") (decimal c.args.number)
    (codes " + 1 INTO :k :i;\nif (sqlca.sqlcode == 0 && i == 0) s = s + k;\n") _ _ _
    c.in_ok-extend_from_slice.ensures.ok (rw (c.as_bytes.ensures.value, c.format.ensures.text) at c.in_ok-extend_from_slice-2.ensures.ok) c.extend_from_slice-3.ensures.ok
