use Rattle.std.specs.Prelude.{decimal}
use Rattle.std.proofs.lemmas.Result.{err_from_is_err_and, on_err_weaker}
use Rattle.ec_base.proofs.Transfers.{PutsPart-then, PutsPart-before}
use Rattle.ec_cli.proofs.report.put_exited.Goals as goal

pub returns-in_err-put_all-clause-part : goal.returns-in_err-put_all-clause-part
returns-in_err-put_all-clause-part g c =
    let p = err_from_is_err_and c.from_residual.result c.from_residual.ensures.1 in
    rw p.1 (PutsPart-before c.in_err-put_all.ensures.err (decimal c.args.status))

pub returns-clause-part : goal.returns-clause-part
returns-clause-part g c =
    let last = rw (c.as_bytes.ensures.value, c.format.ensures.text) at c.put_all-2.ensures.err in
    on_err_weaker c.put_all-2.result (λ part. PutsPart-then c.in_ok-put_all.ensures.ok part) last
