use Rattle.std.proofs.Common.{[], ◌∷◌}
use Rattle.std.proofs.lemmas.Result.{err_from_is_err_and, on_err_weaker}
use Rattle.ec_base.proofs.Transfers.{Puts-then, PutsPart-then, PutsPart-before}
use Rattle.ec_cli.specs.Reporting.{outcome_of, text_of}
use Rattle.ec_cli.proofs.report.put_report.Goals as goal

pub returns-in_err-put_heading-clause-part : goal.returns-in_err-put_heading-clause-part
returns-in_err-put_heading-clause-part g c =
    let p = err_from_is_err_and c.from_residual.result c.from_residual.ensures.1 in
    rw p.1 (PutsPart-before (PutsPart-before c.in_err-put_heading.ensures.part (text_of (outcome_of c.args.ending.now))) (10 ∷ []))

pub returns-in_err-put_outcome-clause-part : goal.returns-in_err-put_outcome-clause-part
returns-in_err-put_outcome-clause-part g c =
    let p = err_from_is_err_and c.from_residual-in_err-put_outcome.result c.from_residual-in_err-put_outcome.ensures.1 in
    rw p.1 (PutsPart-before (PutsPart-then c.in_ok-put_heading.ensures.ok c.in_err-put_outcome.ensures.part) (10 ∷ []))

pub returns-clause-part : goal.returns-clause-part
returns-clause-part g c =
    on_err_weaker c.put_text.result (λ part. PutsPart-then (Puts-then c.in_ok-put_heading.ensures.ok c.in_ok-put_outcome.ensures.ok) part) c.put_text.ensures.part
