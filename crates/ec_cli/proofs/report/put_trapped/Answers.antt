use Rattle.std.specs.Prelude.{codes, decimal}
use Rattle.std.proofs.lemmas.Result.{err_from_is_err_and, on_err_weaker}
use Rattle.ec_base.specs.Texts.{trap_text}
use Rattle.ec_base.proofs.Transfers.{Puts-then, PutsPart-then, PutsPart-before}
use Rattle.ec_cli.proofs.report.put_trapped.Goals as goal

pub returns-in_err-put_all-clause-part : goal.returns-in_err-put_all-clause-part
returns-in_err-put_all-clause-part g c =
    let p = err_from_is_err_and c.from_residual.result c.from_residual.ensures.1 in
    rw p.1 (PutsPart-before (PutsPart-before (PutsPart-before c.in_err-put_all.ensures.err (trap_text c.args.trap)) (codes " at line ")) (decimal c.args.line.0))

pub returns-in_err-put_all-2-clause-part : goal.returns-in_err-put_all-2-clause-part
returns-in_err-put_all-2-clause-part g c =
    let p = err_from_is_err_and c.from_residual-in_err-put_all-2.result c.from_residual-in_err-put_all-2.ensures.1 in
    let part = rw (c.as_bytes.ensures.value, c.text.ensures) at c.in_err-put_all-2.ensures.err in
    rw p.1 (PutsPart-before (PutsPart-before (PutsPart-then c.in_ok-put_all.ensures.ok part) (codes " at line ")) (decimal c.args.line.0))

pub returns-in_err-put_all-3-clause-part : goal.returns-in_err-put_all-3-clause-part
returns-in_err-put_all-3-clause-part g c =
    let p = err_from_is_err_and c.from_residual-in_err-put_all-3.result c.from_residual-in_err-put_all-3.ensures.1 in
    let trap = rw (c.as_bytes.ensures.value, c.text.ensures) at c.in_ok-put_all-2.ensures.ok in
    rw p.1 (PutsPart-before (PutsPart-then (Puts-then c.in_ok-put_all.ensures.ok trap) c.in_err-put_all-3.ensures.err) (decimal c.args.line.0))

pub returns-clause-part : goal.returns-clause-part
returns-clause-part g c =
    let trap = rw (c.as_bytes.ensures.value, c.text.ensures) at c.in_ok-put_all-2.ensures.ok in
    let last = rw (c.as_bytes-2.ensures.value, c.format.ensures.text) at c.put_all-4.ensures.err in
    on_err_weaker c.put_all-4.result (λ part. PutsPart-then (Puts-then (Puts-then c.in_ok-put_all.ensures.ok trap) c.in_ok-put_all-3.ensures.ok) part) last
