use Rattle.std.proofs.Common.{◌∷◌, [], ◌++◌}
use Rattle.std.proofs.lemmas.Result.{err_from_is_err_and, on_err_weaker}
use Rattle.ec_base.proofs.Transfers.{Puts-then, PutsPart-then, PutsPart-before}
use Rattle.ec_cli.specs.Ending.{place_text}
use Rattle.ec_cli.proofs.message.put_message.Goals as goal

pub returns-in_err-put_all-clause-part : goal.returns-in_err-put_all-clause-part
returns-in_err-put_all-clause-part g c =
    let p = err_from_is_err_and c.from_residual.result c.from_residual.ensures.1 in
    rw p.1 (PutsPart-before c.in_err-put_all.ensures.err (c.args.kind.now ++ c.args.name.now ++ place_text c.args.line ++ 10 ∷ []))

pub returns-in_err-put_all-2-clause-part : goal.returns-in_err-put_all-2-clause-part
returns-in_err-put_all-2-clause-part g c =
    let p = err_from_is_err_and c.from_residual-in_err-put_all-2.result c.from_residual-in_err-put_all-2.ensures.1 in
    let part = rw c.as_bytes.ensures.value at c.in_err-put_all-2.ensures.err in
    rw p.1 (PutsPart-before (PutsPart-before (PutsPart-before (PutsPart-then c.in_ok-put_all.ensures.ok part) c.args.name.now) (place_text c.args.line)) (10 ∷ []))

pub returns-in_err-put_all-3-clause-part : goal.returns-in_err-put_all-3-clause-part
returns-in_err-put_all-3-clause-part g c =
    let p = err_from_is_err_and c.from_residual-in_err-put_all-3.result c.from_residual-in_err-put_all-3.ensures.1 in
    let kind = rw c.as_bytes.ensures.value at c.in_ok-put_all-2.ensures.ok in
    let part = rw c.as_bytes-2.ensures.value at c.in_err-put_all-3.ensures.err in
    rw p.1 (PutsPart-before (PutsPart-before (PutsPart-then (Puts-then c.in_ok-put_all.ensures.ok kind) part) (place_text c.args.line)) (10 ∷ []))

pub returns-in_err-put_place-clause-part : goal.returns-in_err-put_place-clause-part
returns-in_err-put_place-clause-part g c =
    let p = err_from_is_err_and c.from_residual-in_err-put_place.result c.from_residual-in_err-put_place.ensures.1 in
    let kind = rw c.as_bytes.ensures.value at c.in_ok-put_all-2.ensures.ok in
    let name = rw c.as_bytes-2.ensures.value at c.in_ok-put_all-3.ensures.ok in
    rw p.1 (PutsPart-before (PutsPart-then (Puts-then (Puts-then c.in_ok-put_all.ensures.ok kind) name) c.in_err-put_place.ensures.part) (10 ∷ []))

pub returns-clause-part : goal.returns-clause-part
returns-clause-part g c =
    let kind = rw c.as_bytes.ensures.value at c.in_ok-put_all-2.ensures.ok in
    let name = rw c.as_bytes-2.ensures.value at c.in_ok-put_all-3.ensures.ok in
    on_err_weaker c.put_all-4.result (λ part. PutsPart-then (Puts-then (Puts-then (Puts-then c.in_ok-put_all.ensures.ok kind) name) c.in_ok-put_place.ensures.ok) part) c.put_all-4.ensures.err
