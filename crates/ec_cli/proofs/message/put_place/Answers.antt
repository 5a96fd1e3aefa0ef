use Rattle.std.specs.Prelude.{decimal}
use Rattle.std.proofs.lemmas.Result.{err_from_is_err_and}
use Rattle.ec_base.proofs.Transfers.{PutsPart-then, PutsPart-before}
use Rattle.ec_cli.proofs.message.put_place.Goals as goal

pub returns-in_err-put_all-clause-part : goal.returns-in_err-put_all-clause-part
returns-in_err-put_all-clause-part g c =
    let p = err_from_is_err_and c.from_residual.result c.from_residual.ensures.1 in
    rw p.1 (rw c.in-Some.is (PutsPart-before c.in_err-put_all.ensures.err (decimal c.in-Some.line.0)))

pub returns-in_err-put_all-2-clause-part : goal.returns-in_err-put_all-2-clause-part
returns-in_err-put_all-2-clause-part g c =
    let p = err_from_is_err_and c.from_residual-in_err-put_all-2.result c.from_residual-in_err-put_all-2.ensures.1 in
    rw p.1 (rw (c.in-Some.is, ← c.format.ensures.text, ← c.as_bytes.ensures.value) (PutsPart-then c.in_ok-put_all.ensures.ok c.in_err-put_all-2.ensures.err))
