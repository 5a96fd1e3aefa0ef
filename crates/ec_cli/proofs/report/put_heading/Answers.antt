use Rattle.std.specs.Prelude.{codes}
use Rattle.std.proofs.lemmas.Result.{err_from_is_err_and, on_err_weaker}
use Rattle.ec_base.proofs.Transfers.{Puts-then, PutsPart-then, PutsPart-before}
use Rattle.ec_cli.specs.Reports.{count}
use Rattle.ec_cli.proofs.report.put_heading.Goals as goal

pub returns-in_err-put_all-clause-part : goal.returns-in_err-put_all-clause-part
returns-in_err-put_all-clause-part g c =
    let p = err_from_is_err_and c.from_residual.result c.from_residual.ensures.1 in
    rw p.1 (PutsPart-before (PutsPart-before (PutsPart-before c.in_err-put_all.ensures.err (count c.args.number (codes ": "))) (count c.args.bytes (codes " bytes, "))) (count c.args.requests (codes " requests, ")))

pub returns-in_err-put_count-clause-part : goal.returns-in_err-put_count-clause-part
returns-in_err-put_count-clause-part g c =
    let p = err_from_is_err_and c.from_residual-in_err-put_count.result c.from_residual-in_err-put_count.ensures.1 in
    rw p.1 (PutsPart-before (PutsPart-before (PutsPart-then c.in_ok-put_all.ensures.ok c.in_err-put_count.ensures.part) (count c.args.bytes (codes " bytes, "))) (count c.args.requests (codes " requests, ")))

pub returns-in_err-put_count-2-clause-part : goal.returns-in_err-put_count-2-clause-part
returns-in_err-put_count-2-clause-part g c =
    let p = err_from_is_err_and c.from_residual-in_err-put_count-2.result c.from_residual-in_err-put_count-2.ensures.1 in
    rw p.1 (PutsPart-before (PutsPart-then (Puts-then c.in_ok-put_all.ensures.ok c.in_ok-put_count.ensures.ok) c.in_err-put_count-2.ensures.part) (count c.args.requests (codes " requests, ")))

pub returns-clause-part : goal.returns-clause-part
returns-clause-part g c =
    on_err_weaker c.put_count-3.result (λ part. PutsPart-then (Puts-then (Puts-then c.in_ok-put_all.ensures.ok c.in_ok-put_count.ensures.ok) c.in_ok-put_count-2.ensures.ok) part) c.put_count-3.ensures.part
